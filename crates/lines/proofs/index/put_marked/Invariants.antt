-- What is left with what is stored is all of them.
use Rattle.std.proofs.Common.{◌≡◌, ◌≤◌, ◌+◌, ◌-◌, ◌*◌, ◌/◌, ◌%◌, length}
use Rattle.std.proofs.lemmas.List.Edits.{sets}
use Rattle.lines.specs.computed.Lines.{part, startsIn}
use Rattle.lines.specs.code.Index.{lfMask}
use Rattle.lines.proofs.index.Laws.{ahead}
use Rattle.lines.proofs.index.put_marked.Given as goal

abbrev pub invariant-loop-left : goal.invariant-loop-left
invariant-loop-left l =
    record {
      begun : l.from + 1 ≤ l.at;
      within : l.at ≤ l.to;
      marked : l.left / 2 ≡ lfMask (part l.s l.at l.to);
      count : l.k + length (ahead l.s l.at l.to l.left) ≡ l.first + length (startsIn l.from (part l.s l.from l.to));
      stored : sets l.index l.k (ahead l.s l.at l.to l.left) ≡ sets l.fn.index l.first (startsIn l.from (part l.s l.from l.to));
    }

abbrev pub decreases-loop-left : goal.decreases-loop-left
decreases-loop-left l = 2 * (l.to - l.at) + l.left % 2
