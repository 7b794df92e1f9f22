-- A token's record, and on behind it; or what is refused.
use Rattle.token.proofs.lexer.Words.{sym, ◌∙◌, rules}
use Rattle.token.proofs.walk.Pieces.{step-piece, piece-on, refuses-piece}
use Rattle.token.proofs.walk.put_piece.Goals as goal

pub returns-in_default-clause-refused : goal.returns-in_default-clause-refused
returns-in_default-clause-refused c =
    let p = c.requires in
    refuses-piece p.good p.within _ p.no_comment p.no_gap (sym c.unwrap_err.ensures ∙ p.piece_is) _ _

pub returns : goal.returns
returns c =
    let p = c.requires in
    let e = sym c.in-Ok.is ∙ p.piece_is in
    rw (c.behind.ensures, c.here_at.ensures) (record {
      on = rw c.add.ensures (step-piece p.good p.within p.counted _ _ e _ c.form-form.ensures.value _ _ c.put_if.ensures);
      further = piece-on p.good p.within _ _ e;
      refused = search rules;
      kept = search rules;
      uncounted = search rules;
    })
