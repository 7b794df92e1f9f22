use Rattle.token.proofs.cursor.Words.{length, false, sym, ap, ◌∙◌, arith, endedOf, err_from_is_err_and}
use Rattle.token.proofs.string.Contents.{single-opened, single-token}
use Rattle.token.proofs.string.Laws.{quote-in, three-behind, plain-refused}
use Rattle.token.proofs.string.lex_plain_string.Goals as goal

pub two_at-requires : goal.two_at-requires
two_at-requires c = let q = quote-in _ _ c.requires.opens in omega arith

pub lex_plain_triple-requires-clause-opens : goal.lex_plain_triple-requires-clause-opens
lex_plain_triple-requires-clause-opens c = three-behind _ _ c.requires.opens ∙ sym c.if-two_at.ensures

pub returns-in_err-end : goal.returns-in_err-end
returns-in_err-end c =
    let s = c.args.s.now in
    let p = err_from_is_err_and c.from_residual.result c.from_residual.ensures.1 in
    rw (p.1, p.2) (plain-refused (length s) _ _ (c.in_err-end.ensures ∙ ap (endedOf (length s)) (single-opened false s _ c.requires.opens (three-behind _ _ c.requires.opens ∙ sym c.if-two_at.ensures))))

pub overflow_sub-result : goal.overflow_sub-result
overflow_sub-result c = omega (arith, (single-token _ _ _ c.requires.within c.requires.opens (three-behind _ _ c.requires.opens ∙ sym c.if-two_at.ensures) c.in_ok-end.ensures).0)

pub returns : goal.returns
returns c = (single-token _ _ _ c.requires.within c.requires.opens (three-behind _ _ c.requires.opens ∙ sym c.if-two_at.ensures) c.in_ok-end.ensures).1
