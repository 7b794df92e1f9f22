-- The starts behind the LFs passed are stored.
use Rattle.std.proofs.Common.{◌≡◌, ◌≤◌, ◌+◌, ◌-◌, length}
use Rattle.std.proofs.lemmas.List.Edits.{sets}
use Rattle.lines.specs.computed.Lines.{part, startsIn}
use Rattle.lines.proofs.index.put_rest.Given as goal

abbrev pub invariant-by_few : goal.invariant-by_few
invariant-by_few l =
    record {
      begun : l.from ≤ l.i;
      within : l.i ≤ length l.s;
      count : l.k ≡ l.first + length (startsIn l.from (part l.s l.from l.i));
      stored : l.index ≡ sets l.fn.index l.first (startsIn l.from (part l.s l.from l.i));
    }

abbrev pub decreases-by_few : goal.decreases-by_few
decreases-by_few l = length l.s - l.i
