-- What the search finds stays the same.
use Rattle.std.proofs.Common.{◌≡◌, ◌≤◌, ◌+◌}
use Rattle.lines.specs.computed.Lines.{searchIn}
use Rattle.lines.proofs.find.find_line.Given as goal

abbrev pub invariant-loop-size : goal.invariant-loop-size
invariant-loop-size l =
    record {
      some : 1 ≤ l.size;
      within : l.low + l.size ≤ l.lines;
      same : searchIn l.size l.index l.place l.low l.size ≡ searchIn l.lines l.index l.place 0 l.lines;
    }

abbrev pub decreases-loop-size : goal.decreases-loop-size
decreases-loop-size l = l.size
