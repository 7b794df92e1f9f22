-- The run to the line end from here on is the run from behind the two marks.
use Rattle.token.proofs.cursor.Words.{◌≡◌, ◌≤◌, ◌-◌, not, length, drop, from, afterRun, endOfLine}
use Rattle.token.proofs.cursor.Cursor.consume_line_comment.Given as goal

abbrev pub invariant-loop-i : goal.invariant-loop-i
invariant-loop-i l = (l.i ≤ length l.s) × (afterRun (λ t. not (endOfLine t)) (from l.s l.i) ≡ afterRun (λ t. not (endOfLine t)) (drop 2 (from l.s l.fn.self.at)))

abbrev pub decreases-loop-i : goal.decreases-loop-i
decreases-loop-i l = length l.s - l.i
