-- Past a sign of ASCII, or one past it; where neither stands, no sign does.
use Rattle.token.proofs.lexer.Words.{◌≡◌, refl, ℕ, Bool, eqb, sym, ◌∙◌, ap, arith, from, text-laws, wideClass, signIn}
use Rattle.token.proofs.names.Bytes.{class-inside}
use Rattle.token.proofs.ident.Signs.{ascii-on, width-on, width-stop, sign-stop}
use Rattle.token.proofs.ident.consume_wide_signs.Invariants.{free}
use Rattle.token.proofs.ident.consume_wide_signs.Goals as goal
open text-laws use {run-stays}

-- what the test of the class says of what stands there
class : {k j : ℕ} {r b : Bool} → k ≡ j → r ≡ eqb k wideClass → r ≡ b → eqb j wideClass ≡ b
class q n e = ap (λ z. eqb z wideClass) (sym q) ∙ sym n ∙ e

pub sign_width-requires : goal.sign_width-requires
sign_width-requires g c = class-inside c.args.s.now c.loop-width.i (λ z. eqb z wideClass) refl (class c.at.ensures c.eq.ensures c.if-eq.true)

pub returns-in_default-clause-rest : goal.returns-in_default-clause-rest
returns-in_default-clause-rest g c =
    sym (width-stop c.args.s.now c.loop-width.i (free g) (class c.at.ensures c.eq.ensures c.if-eq.true) (sym c.in_default.is ∙ c.sign_width.ensures)) ∙ c.loop-width.invariant.1

pub overflow_add-i : goal.overflow_add-i
overflow_add-i g c =
    let a = width-on c.args.s.now c.loop-width.i (free g) (class c.at.ensures c.eq.ensures c.if-eq.true) _ (sym c.in-Some.is ∙ c.sign_width.ensures) in
    omega (arith, a.0)

pub loop-width-smaller-then-eq : goal.loop-width-smaller-then-eq
loop-width-smaller-then-eq g c =
    let a = width-on c.args.s.now c.loop-width.i (free g) (class c.at.ensures c.eq.ensures c.if-eq.true) _ (sym c.in-Some.is ∙ c.sign_width.ensures) in
    omega (arith, a.0, a.1)

pub loop-width-preserved-then-eq : goal.loop-width-preserved-then-eq
loop-width-preserved-then-eq g c =
    let a = width-on c.args.s.now c.loop-width.i (free g) (class c.at.ensures c.eq.ensures c.if-eq.true) _ (sym c.in-Some.is ∙ c.sign_width.ensures) in
    (a.0, a.2 ∙ c.loop-width.invariant.1)

pub loop-width-smaller : goal.loop-width-smaller
loop-width-smaller g c = let a = ascii-on c.args.s.now c.loop-width.i (free g) (sym c.is_op_sign.ensures ∙ c.if-is_op_sign.true) in omega (arith, a.0)

pub loop-width-preserved : goal.loop-width-preserved
loop-width-preserved g c =
    let a = ascii-on c.args.s.now c.loop-width.i (free g) (sym c.is_op_sign.ensures ∙ c.if-is_op_sign.true) in
    (omega (arith, a.0), a.1 ∙ c.loop-width.invariant.1)

pub returns-else-is_op_sign-clause-rest : goal.returns-else-is_op_sign-clause-rest
returns-else-is_op_sign-clause-rest g c =
    let s = c.args.s.now in
    let i = c.loop-width.i in
    let n = sign-stop s i (free g) (sym c.is_op_sign.ensures ∙ c.if-is_op_sign.false) (class c.at.ensures c.eq.ensures c.if-eq.false) in
    sym (run-stays (signIn (free g)) (from s i) n) ∙ c.loop-width.invariant.1
