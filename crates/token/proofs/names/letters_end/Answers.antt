-- A step passes one character of two bytes.
use Rattle.token.proofs.lexer.Words.{◌∙◌, sym}
use Rattle.token.proofs.names.Wide.{letters-on}
use Rattle.token.proofs.names.letters_end.Goals as goal

pub loop-i-preserved : goal.loop-i-preserved
loop-i-preserved c = letters-on c.args.s.now c.args.at c.loop-i.i c.loop-i.invariant (sym c.is_id_of_two.ensures ∙ c.if-is_id_of_two.true)
