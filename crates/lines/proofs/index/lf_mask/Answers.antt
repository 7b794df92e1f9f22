use Rattle.std.proofs.Common.{arith}
use Rattle.lines.proofs.index.Laws.{mask-of}
use Rattle.lines.proofs.index.lf_mask.Goals as goal

pub returns : goal.returns
returns c = mask-of 64 c.args.s.now c.args.at c.requires (omega arith)
