-- The tables are what they are made as: a computed test for each.
use Rattle.std.proofs.Common.{refl, arith}
use Rattle.chars.specs.declared.thirds.TheConstants.{KINDS, SETS, THIRDS}
use Rattle.chars.proofs.utf8.Tables.{set-within, three-is}
use Rattle.chars.proofs.utf8.is_plain_three.Goals as goal

pub bounds-b : goal.bounds-b
bounds-b c = set-within KINDS refl c.args.a (omega arith) c.args.b (omega arith)

pub returns : goal.returns
returns c = three-is KINDS refl c.args.a (omega arith) c.args.b (omega arith) SETS THIRDS refl refl c.args.c (omega arith)
