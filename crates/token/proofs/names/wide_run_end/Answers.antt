-- A step passes a sign past ASCII and the ASCII behind it, or nothing of the run stands there.
use Rattle.token.proofs.lexer.Words.{sym, ◌∙◌, arith}
use Rattle.token.proofs.names.Wide.{run-kind, first, class-is, kept-inside, kept-ascii, sign-none, sign-next, sign-on}
use Rattle.token.proofs.names.wide_run_end.Goals as goal

pub loop-width-init : goal.loop-width-init
loop-width-init c = first run-kind c.args.s.now c.args.at c.requires c.run_end-end.result c.run_end-end.ensures

pub sign_width-requires : goal.sign_width-requires
sign_width-requires c =
    let g = c.loop-width.invariant in
    kept-inside run-kind c.args.s.now g (class-is run-kind c.args.s.now g c.eq.ensures c.loop-width-test.true)

pub returns-in_default : goal.returns-in_default
returns-in_default c =
    let g = c.loop-width.invariant in
    sign-none c.args.s.now g (class-is run-kind c.args.s.now g c.eq.ensures c.loop-width-test.true) (sym c.in_default.is ∙ c.sign_width.ensures)

pub overflow_add-end : goal.overflow_add-end
overflow_add-end c =
    let g = c.loop-width.invariant in
    let n = sign-next c.args.s.now g (class-is run-kind c.args.s.now g c.eq.ensures c.loop-width-test.true) _ (sym c.in-Some.is ∙ c.sign_width.ensures) in
    omega (arith, n.1)

pub run_end-end-requires-in-loop-width : goal.run_end-end-requires-in-loop-width
run_end-end-requires-in-loop-width c =
    let g = c.loop-width.invariant in
    (sign-next c.args.s.now g (class-is run-kind c.args.s.now g c.eq.ensures c.loop-width-test.true) _ (sym c.in-Some.is ∙ c.sign_width.ensures)).1

pub loop-width-smaller : goal.loop-width-smaller
loop-width-smaller c =
    let g = c.loop-width.invariant in
    let n = sign-on c.args.s.now g (class-is run-kind c.args.s.now g c.eq.ensures c.loop-width-test.true) _ (sym c.in-Some.is ∙ c.sign_width.ensures)
    c.run_end-end-in-loop-width.result c.run_end-end-in-loop-width.ensures in
    omega (arith, n.1, n.2)

pub loop-width-preserved : goal.loop-width-preserved
loop-width-preserved c =
    let g = c.loop-width.invariant in
    (sign-on c.args.s.now g (class-is run-kind c.args.s.now g c.eq.ensures c.loop-width-test.true) _ (sym c.in-Some.is ∙ c.sign_width.ensures)
    c.run_end-end-in-loop-width.result c.run_end-end-in-loop-width.ensures).0

pub returns : goal.returns
returns c =
    let g = c.loop-width.invariant in
    kept-ascii run-kind c.args.s.now g (class-is run-kind c.args.s.now g c.eq.ensures c.loop-width-test.false)
