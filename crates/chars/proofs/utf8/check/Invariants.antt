-- What is found from here on is found from the start on, and a mark or nothing well-formed stands here.
use Rattle.std.proofs.Common.{◌-◌, length}
use Rattle.chars.proofs.utf8.Marks.{Checking}
use Rattle.chars.proofs.utf8.check.Given as goal

abbrev pub invariant-loop-i : goal.invariant-loop-i
invariant-loop-i l = Checking l.s l.i l.mark

abbrev pub decreases-loop-i : goal.decreases-loop-i
decreases-loop-i l = length l.s - l.i
