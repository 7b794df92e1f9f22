-- With the lines to come behind what is put, all lines are put.
use Rattle.std.proofs.Common.{length}
use Rattle.puts.proofs.Laws.{Going}
use Rattle.listing_text.specs.Lines.{recordLines}
use Rattle.listing_text.proofs.lines.put_records.Given as goal

abbrev pub invariant-loop-length : goal.invariant-loop-length
invariant-loop-length l = Going l.fn.text l.text (recordLines l.rest) (recordLines l.records)

abbrev pub decreases-loop-length : goal.decreases-loop-length
decreases-loop-length l = length l.rest
