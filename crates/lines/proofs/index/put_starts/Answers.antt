-- All starts are as many as lines.
use Rattle.std.proofs.Common.{arith}
use Rattle.lines.proofs.index.Laws.{lines-all, sum-more}
use Rattle.lines.proofs.index.put_starts.Goals as goal

pub returns-clause-value : goal.returns-clause-value
returns-clause-value c =
    let l = lines-all c.args.s.now in
    let m = sum-more c.args.s.now c.by_block.i _ c.by_block.invariant.within (omega arith) in
    omega arith
