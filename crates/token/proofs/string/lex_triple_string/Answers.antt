-- A step passes what the walk passes.
use Rattle.token.proofs.cursor.Words.{length, ap, ◌∙◌, arith, endedOf, err_from_is_err_and}
use Rattle.token.proofs.string.Laws.{triple-skip, triple-on, triple-wrong}
use Rattle.token.proofs.string.lex_triple_string.Goals as goal

pub returns-in_err-next : goal.returns-in_err-next
returns-in_err-next c =
    let w = triple-wrong c.args.prefixed c.args.s.now _ c.loop-d-test.true _ c.if-three_quotes.ensures c.in_err-next.ensures.value in
    let p = err_from_is_err_and c.from_residual.result c.from_residual.ensures.1 in rw (p.1, p.2) (w ∙ ap (endedOf (length c.args.s.now)) c.loop-d.invariant.1)

pub skip_ordinary-d-requires-in-loop-d : goal.skip_ordinary-d-requires-in-loop-d
skip_ordinary-d-requires-in-loop-d c = (triple-on c.args.prefixed c.args.s.now _ c.loop-d-test.true _ c.if-three_quotes.ensures c.in_ok-next.ensures.value).1

pub loop-d-smaller : goal.loop-d-smaller
loop-d-smaller c = omega (arith, triple-on c.args.prefixed c.args.s.now _ c.loop-d-test.true _ c.if-three_quotes.ensures c.in_ok-next.ensures.value)

pub loop-d-preserved : goal.loop-d-preserved
loop-d-preserved c =
    let skip = c.skip_ordinary-d-in-loop-d.ensures in
    let w = triple-on c.args.prefixed c.args.s.now _ c.loop-d-test.true _ c.if-three_quotes.ensures c.in_ok-next.ensures.value in
    (skip.within, triple-skip _ _ _ _ skip.rest ∙ w.2 ∙ c.loop-d.invariant.1)
