-- Where nothing asks for more, no sign follows.
use Rattle.token.proofs.lexer.Words.{sym, ap, ◌∙◌, wideClass, inOperator, leb-false, arith}
use Rattle.token.proofs.ident.Signs.{run-over}
use Rattle.token.proofs.ident.run_end_from.Goals as goal

pub returns-clause-rest : goal.returns-clause-rest
returns-clause-rest c =
    let l = leb-false wideClass _ (sym (ap inOperator c.at.ensures) ∙ sym c.if-in_operator.ensures) in
    (run-over c.args.s.now c.args.c.at (omega arith)).0
