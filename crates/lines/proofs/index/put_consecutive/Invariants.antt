-- So many of the numbers are stored.
use Rattle.std.proofs.Common.{◌≡◌}
use Rattle.std.specs.List.{range_with_len}
use Rattle.std.proofs.lemmas.List.Edits.{sets}
use Rattle.lines.proofs.index.put_consecutive.Given as goal

abbrev pub invariant-loop-i : goal.invariant-loop-i
invariant-loop-i l = l.index ≡ sets l.fn.index l.first (range_with_len l.start l.i)
