-- By the mask, or too few bytes are left.
use Rattle.std.proofs.Common.{arith}
use Rattle.chars.specs.code.Utf8.{isAscii}
use Rattle.chars.proofs.runs.Laws.{block-in, block-out}
use Rattle.chars.proofs.utf8.many_at.Goals as goal

pub returns-in-Some : goal.returns-in-Some
returns-in-Some c = let o = c.in-Some.ensures in block-in isAscii 64 c.args.s.now c.args.at o.within c.in-Some.wide o.mask

pub returns-in-None : goal.returns-in-None
returns-in-None c = block-out isAscii 64 c.args.s.now c.args.at (omega arith) c.in-None.ensures.none
