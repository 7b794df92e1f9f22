use Rattle.std.proofs.Common.{arith, sym}
use Rattle.utf8_runs.proofs.Laws.{walked_none, walked_more}
use Rattle.utf8_runs.proofs.walk.Goals as goal

pub loop-k-init : goal.loop-k-init
loop-k-init c = (omega arith, sym (walked_none _ _ _), sym (walked_none _ _ _))

pub loop-k-preserved : goal.loop-k-preserved
loop-k-preserved c = (
  omega arith,
  walked_more _ _ _ _ c.loop-k.invariant.1 c.bytes_of-bytes.ensures.value c.valid_prefix-answer.ensures.value c.tally.ensures,
  walked_more _ _ _ _ c.loop-k.invariant.2 c.bytes_of-bytes.ensures.value c.valid_prefix-answer.ensures.value c.tally-in-loop-k.ensures,
)
