-- Past a sign of ASCII, or on to a character past it; where neither stands, no sign does.
use Rattle.token.proofs.lexer.Words.{eqb, sym, ◌∙◌, ap, arith, from, text-laws, wideClass, signIn}
use Rattle.token.proofs.ident.Signs.{ascii-on, sign-stop}
use Rattle.token.proofs.ident.consume_signs.Invariants.{free}
use Rattle.token.proofs.ident.consume_signs.Goals as goal
open text-laws use {run-stays}

pub loop-i-smaller : goal.loop-i-smaller
loop-i-smaller g c = let a = ascii-on c.args.s.now c.loop-i.i (free g) (sym c.is_op_sign.ensures ∙ c.loop-i-test.true) in omega (arith, a.0)

pub loop-i-preserved : goal.loop-i-preserved
loop-i-preserved g c =
    let a = ascii-on c.args.s.now c.loop-i.i (free g) (sym c.is_op_sign.ensures ∙ c.loop-i-test.true) in
    (omega (arith, a.0), a.1 ∙ c.loop-i.invariant.1)

pub returns-clause-rest : goal.returns-clause-rest
returns-clause-rest g c =
    let s = c.args.s.now in
    let i = c.loop-i.i in
    let w = ap (λ z. eqb z wideClass) (sym c.at.ensures) ∙ sym c.eq.ensures ∙ c.if-eq.false in
    let n = sign-stop s i (free g) (sym c.is_op_sign.ensures ∙ c.loop-i-test.false) w in
    sym (run-stays (signIn (free g)) (from s i) n) ∙ c.loop-i.invariant.1
