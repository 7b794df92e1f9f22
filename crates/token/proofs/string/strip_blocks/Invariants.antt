-- The steps from here on give what the steps from the start on give.
use Rattle.token.proofs.cursor.Words.{◌≤◌, ◌-◌, length, spanAt, blockMore, blockLess, blocksTaken}
use Rattle.token.proofs.Loops.{Going}
use Rattle.token.proofs.string.strip_blocks.Given as goal

abbrev pub invariant-loop-a : goal.invariant-loop-a
invariant-loop-a l =
    (l.a ≤ l.b) × (l.b ≤ length l.s) × Going (blockMore l.s) blockLess (blocksTaken l.s l.start l.end) (spanAt l.a l.b) (l.b - l.a)

abbrev pub decreases-loop-a : goal.decreases-loop-a
decreases-loop-a l = l.b - l.a
