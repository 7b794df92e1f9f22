-- A number of one digit, or what the reader of numbers answers; one that is refused is left.
use Rattle.token.proofs.lexer.Words.{sym, ap, ◌∙◌, intLength, longLength, tokenTo, rules}
use Rattle.token.specs.declared.kinds.TokenKind.TheVariants as tk
use Rattle.token.proofs.form.Shapes.{int-size, long-size}
use Rattle.token.proofs.walk.Pieces.{step-valued, piece-on}
use Rattle.token.proofs.walk.Prefixes.{number-begun}
use Rattle.token.proofs.walk.Left.{number-kind}
use Rattle.token.proofs.walk.number_step.Goals as goal

pub returns-in-IntLit : goal.returns-in-IntLit
returns-in-IntLit c =
    let p = c.requires in
    let v = c.in-IntLit.v in
    let b = number-begun p.good p.digit in
    let f = ap (λ k. tokenTo k c.in-Ok.end) (sym c.in-IntLit.is) ∙ c.in-Ok.ensures ∙ b.is in
    rw (c.behind.ensures, c.here_at.ensures) (record {
      on =
          rw c.add.ensures (step-valued p.good p.counted b.within (tk.IntLit v) c.in-Ok.end.at f intLength (int-size v) _ _ (rw c.int-form.ensures.value at c.put_if.ensures));
      further = piece-on p.good b.within _ _ f;
      kept = search rules;
      uncounted = search rules;
      none = search rules;
    })

pub returns-in-LongLit : goal.returns-in-LongLit
returns-in-LongLit c =
    let p = c.requires in
    let v = c.in-LongLit.v in
    let b = number-begun p.good p.digit in
    let f = ap (λ k. tokenTo k c.in-Ok.end) (sym c.in-LongLit.is) ∙ c.in-Ok.ensures ∙ b.is in
    rw (c.behind-in-LongLit.ensures, c.here_at-in-LongLit.ensures) (record {
      on =
          rw c.add-in-LongLit.ensures (step-valued p.good p.counted b.within (tk.LongLit v) c.in-Ok.end.at f longLength (long-size v) _ _ (rw c.long-form.ensures.value at c.put_if-in-LongLit.ensures));
      further = piece-on p.good b.within _ _ f;
      kept = search rules;
      uncounted = search rules;
      none = search rules;
    })

pub returns-in_default-kind : goal.returns-in_default-kind
returns-in_default-kind c = absurd (number-kind _ _ _ _ c.in-Ok.ensures c.in_default-kind.not-IntLit c.in_default-kind.not-LongLit)
