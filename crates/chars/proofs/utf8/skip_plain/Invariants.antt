-- What is passed from here on is what is passed from the start on.
use Rattle.std.proofs.Common.{◌≡◌, ◌-◌, length}
use Rattle.chars.specs.code.Utf8.{plainOver}
use Rattle.chars.proofs.utf8.skip_plain.Given as goal

abbrev pub invariant-loop-i : goal.invariant-loop-i
invariant-loop-i l = plainOver l.s l.i ≡ plainOver l.s l.at

abbrev pub decreases-loop-i : goal.decreases-loop-i
decreases-loop-i l = length l.s - l.i
