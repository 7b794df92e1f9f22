-- One blank, or all that stand there.
use Rattle.token.proofs.lexer.Words.{◌+◌, ℕ, sym, subst, ◌∙◌, not-true, not-false, movedTo, Steps, ap, eqb, blankClass}
use Rattle.token.proofs.walk.Pieces.{step-one-blank, two-here, step-more-blanks}
use Rattle.token.proofs.walk.blank_step.Goals as goal

pub returns-then-ne-clause-on : goal.returns-then-ne-clause-on
returns-then-ne-clause-on c =
    let x = c.args.x in
    rw c.at_place.ensures
    (λ d out u. subst (λ (k : ℕ). Steps c.args.s.now x d out (movedTo x (record { at = x.at + 1; class = record { number = k } })) d out) (sym c.at-class.ensures)
    (step-one-blank c.requires.good u c.requires.blank (ap (λ z. eqb z blankClass) (sym c.at-class.ensures) ∙ not-true _ (sym c.ne.ensures ∙ c.if-ne.true)) out))

pub skip_more-c-requires : goal.skip_more-c-requires
skip_more-c-requires c = two-here c.requires.good c.requires.blank (ap (λ z. eqb z blankClass) (sym c.at-class.ensures) ∙ not-false _ (sym c.ne.ensures ∙ c.if-ne.false))

pub returns-clause-on : goal.returns-clause-on
returns-clause-on c =
    let m = c.skip_more-c.ensures in
    let e = ap (λ z. eqb z blankClass) (sym c.at-class.ensures) ∙ not-false _ (sym c.ne.ensures ∙ c.if-ne.false) in
    rw (c.at_place-2.ensures, c.here_at.ensures) (λ d out u. step-more-blanks c.requires.good u c.requires.blank e _ m.within m.onward m.rest out)
