-- Behind the first line's start the starts behind the LFs passed are stored.
use Rattle.std.proofs.Common.{◌≡◌, ◌≤◌, ◌+◌, ◌-◌, length}
use Rattle.std.proofs.lemmas.List.Edits.{sets}
use Rattle.lines.specs.computed.Lines.{part, startsIn}
use Rattle.lines.proofs.index.put_starts.Given as goal

abbrev pub invariant-by_block : goal.invariant-by_block
invariant-by_block l =
    record {
      within : l.i ≤ length l.s;
      count : l.k ≡ 1 + length (startsIn 0 (part l.s 0 l.i));
      stored : l.index ≡ sets l.initial.index 1 (startsIn 0 (part l.s 0 l.i));
    }

abbrev pub decreases-by_block : goal.decreases-by_block
decreases-by_block l = length l.s - l.i
