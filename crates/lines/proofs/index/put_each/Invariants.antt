-- The starts behind the LFs passed are stored.
use Rattle.std.proofs.Common.{◌≡◌, ◌≤◌, ◌+◌, ◌-◌, length}
use Rattle.std.proofs.lemmas.List.Edits.{sets}
use Rattle.lines.specs.computed.Lines.{part, startsIn}
use Rattle.lines.proofs.index.put_each.Given as goal

abbrev pub invariant-loop-i : goal.invariant-loop-i
invariant-loop-i l =
    record {
      begun : l.from ≤ l.i;
      within : l.i ≤ l.to;
      count : l.k ≡ l.first + length (startsIn l.from (part l.s l.from l.i));
      stored : l.index ≡ sets l.fn.index l.first (startsIn l.from (part l.s l.from l.i));
    }

abbrev pub decreases-loop-i : goal.decreases-loop-i
decreases-loop-i l = l.to - l.i
