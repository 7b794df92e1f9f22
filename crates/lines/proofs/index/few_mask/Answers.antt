use Rattle.std.proofs.Common.{arith}
use Rattle.lines.proofs.index.Laws.{mask-of}
use Rattle.lines.proofs.index.few_mask.Goals as goal

pub returns : goal.returns
returns c = mask-of 16 c.args.s.now c.args.at c.requires (omega arith)
