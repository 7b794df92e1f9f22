-- The bytes passed are counted.
use Rattle.std.proofs.Common.{◌≡◌, ◌≤◌, take}
use Rattle.lines.specs.computed.Lines.{countIn}
use Rattle.lines.proofs.count.count_block.Given as goal

abbrev pub invariant-loop-b : goal.invariant-loop-b
invariant-loop-b l = record { counted : l.n ≡ countIn l.low l.high (take l.b-index l.block); most : l.n ≤ l.b-index }
