-- What is passed from here on is what is passed from the start on.
use Rattle.std.proofs.Common.{◌≡◌, ◌-◌, length}
use Rattle.chars.specs.code.Utf8.{manyOver}
use Rattle.chars.proofs.utf8.skip_many.Given as goal

abbrev pub invariant-loop-i : goal.invariant-loop-i
invariant-loop-i l = manyOver l.s l.i ≡ manyOver l.s l.at

abbrev pub decreases-loop-i : goal.decreases-loop-i
decreases-loop-i l = length l.s - l.i
