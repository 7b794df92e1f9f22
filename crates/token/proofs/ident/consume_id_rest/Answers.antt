-- Underscores are passed one by one, id characters by runs; where neither stands, signs follow underscores.
use Rattle.token.proofs.lexer.Words.{cond, arith, sym, ap, ◌∙◌, from, afterRun, opSign}
use Rattle.token.proofs.ident.Laws.{under-inside, pass-under, pass-ids, pass-none}
use Rattle.token.proofs.ident.consume_id_rest.Goals as goal

pub loop-left-preserved : goal.loop-left-preserved
loop-left-preserved c =
    let s = c.args.s.now in
    let i = c.loop-left.i in
    let e = sym c.byte_at.ensures ∙ c.if-byte_at-eq95.true in
    (omega arith, omega (arith, under-inside s i e), pass-under s i c.loop-left.left e ∙ c.loop-left.invariant.2)

pub chunks-smaller : goal.chunks-smaller
chunks-smaller c =
    let p = pass-ids c.args.s.now c.loop-left.i c.loop-left.left _ c.loop-left.invariant.1 c.id_run_end-end.ensures c.if-end-i.false in
    omega (arith, p.0, p.1)

pub chunks-preserved : goal.chunks-preserved
chunks-preserved c =
    let p = pass-ids c.args.s.now c.loop-left.i c.loop-left.left _ c.loop-left.invariant.1 c.id_run_end-end.ensures c.if-end-i.false in
    (p.1, p.2 ∙ c.loop-left.invariant.2)

pub returns-then-left-clause-rest : goal.returns-then-left-clause-rest
returns-then-left-clause-rest c =
    let s = c.args.s.now in
    let i = c.loop-left.i in
    let q = pass-none s i c.loop-left.left c.loop-left.invariant.1 (sym c.if-end-i.true ∙ c.id_run_end-end.ensures) (λ e. c.if-byte_at-eq95.false (c.byte_at.ensures ∙ e)) in
    c.consume_signs.ensures.rest ∙ sym (q ∙ ap (λ u. cond u (afterRun opSign (from s i)) (from s i)) c.if-left.true) ∙ c.loop-left.invariant.2

pub returns-clause-rest : goal.returns-clause-rest
returns-clause-rest c =
    let s = c.args.s.now in
    let i = c.loop-left.i in
    let q = pass-none s i c.loop-left.left c.loop-left.invariant.1 (sym c.if-end-i.true ∙ c.id_run_end-end.ensures) (λ e. c.if-byte_at-eq95.false (c.byte_at.ensures ∙ e)) in
    sym (q ∙ ap (λ u. cond u (afterRun opSign (from s i)) (from s i)) c.if-left.false) ∙ c.loop-left.invariant.2
