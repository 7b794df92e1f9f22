-- The table passes one computed test at each byte.
use Rattle.token.proofs.cursor.Words.{refl, arith, signOf, signNumber, classOf}
use Rattle.token.specs.declared.byte_class.TheConstants.{CLASSES}
use Rattle.token.proofs.byte_class.Laws.{classes}
use Rattle.token.proofs.byte_class.Class.of.Goals as goal

pub returns : goal.returns
unfolding classOf signNumber signOf
returns c = classes CLASSES refl refl c.args.b (omega arith)
