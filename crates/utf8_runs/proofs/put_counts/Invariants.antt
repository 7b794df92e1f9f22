-- The counts from the index on, and the line's end, are to come.
use Rattle.std.proofs.Common.{◌++◌, drop}
use Rattle.std.specs.Prelude.{codes}
use Rattle.std.specs.List.{flat_map}
use Rattle.puts.proofs.Laws.{Going}
use Rattle.utf8_runs.specs.Rows.{spacedText, countsText}
use Rattle.utf8_runs.proofs.put_counts.Given as goal

abbrev pub invariant-loop-count : goal.invariant-loop-count
invariant-loop-count l = Going l.fn.text l.text (flat_map spacedText (drop l.count-index l.counts) ++ codes "\n") (countsText l.counts)
