-- What is counted with what the blocks to come have is the whole.
use Rattle.std.proofs.Common.{◌≡◌, ◌+◌}
use Rattle.std.specs.Slice.Iter.{chunks_rest, chunks_size}
use Rattle.lines.specs.computed.Lines.{countIn}
use Rattle.lines.proofs.count.count_in.Given as goal

abbrev pub invariant-loop-block : goal.invariant-loop-block
invariant-loop-block l =
    record {
      blocks : chunks_size l.block-iterator ≡ 224;
      counted : l.n + countIn l.low l.high (chunks_rest l.block-iterator) ≡ countIn l.low l.high l.s;
    }
