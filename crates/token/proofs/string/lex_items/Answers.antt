-- A step passes what the walk passes.
use Rattle.token.proofs.cursor.Words.{◌∙◌, arith, closeSingle, singleChar}
use Rattle.token.proofs.string.Laws.{singles, single-on, told-ordinary, ordinary-on, walk-skip}
use Rattle.token.proofs.string.lex_items.Goals as goal

pub loop-d-preserved-then-is_ordinary : goal.loop-d-preserved-then-is_ordinary
loop-d-preserved-then-is_ordinary c =
    let p = c.args.prefixed in
    let s = c.args.s.now in
    let o = told-ordinary _ c.of.ensures c.if-is_ordinary.ensures in
    let k = c.skip_ordinary-d.ensures in
    (k.within, walk-skip (closeSingle p) (singleChar p) (singles p) s _ _ k.rest ∙ ordinary-on (closeSingle p) (singleChar p) (singles p) s _ c.loop-d-test.true o ∙ c.loop-d.invariant.1)

pub loop-d-smaller-then-b-eq92 : goal.loop-d-smaller-then-b-eq92
loop-d-smaller-then-b-eq92 c = omega (arith, single-on c.args.prefixed c.args.s.now _ c.loop-d-test.true _ (λ e. omega (arith, e, c.if-b-eq92.true)) c.in_ok-d.ensures)

pub loop-d-preserved-then-b-eq92 : goal.loop-d-preserved-then-b-eq92
loop-d-preserved-then-b-eq92 c =
    let w = single-on c.args.prefixed c.args.s.now _ c.loop-d-test.true _ (λ e. omega (arith, e, c.if-b-eq92.true)) c.in_ok-d.ensures in
    (w.1, w.2 ∙ c.loop-d.invariant.1)

pub loop-d-smaller : goal.loop-d-smaller
loop-d-smaller c = omega (arith, single-on c.args.prefixed c.args.s.now _ c.loop-d-test.true _ c.if-b-eq34.false c.in_ok-d-2.ensures.value)

pub loop-d-preserved : goal.loop-d-preserved
loop-d-preserved c =
    let w = single-on c.args.prefixed c.args.s.now _ c.loop-d-test.true _ c.if-b-eq34.false c.in_ok-d-2.ensures.value in
    (w.1, w.2 ∙ c.loop-d.invariant.1)
