-- Up to here the check has passed characters that are no marks.
use Rattle.std.proofs.Common.{◌-◌, length}
use Rattle.chars.specs.code.Utf8.{CleanTo}
use Rattle.chars.proofs.utf8.clean_end.Given as goal

abbrev pub invariant-loop-i : goal.invariant-loop-i
invariant-loop-i l = CleanTo l.s l.at l.i

abbrev pub decreases-loop-i : goal.decreases-loop-i
decreases-loop-i l = length l.s - l.i
