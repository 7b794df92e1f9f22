-- The line end's record, and on behind it; a CR alone is refused.
use Rattle.token.proofs.lexer.Words.{sym, ◌∙◌}
use Rattle.token.proofs.walk.Pieces.{cr-here, step-line-end, refuses-lone}
use Rattle.token.proofs.walk.return_step.Goals as goal

pub returns-then-byte_at-ne10-clause-refused : goal.returns-then-byte_at-ne10-clause-refused
returns-then-byte_at-ne10-clause-refused c =
    rw c.at.ensures (refuses-lone c.requires.good c.requires.cr (λ e. c.if-byte_at-ne10.true (c.byte_at.ensures ∙ e)) _ _)

pub returns-clause-on : goal.returns-clause-on
returns-clause-on c =
    let g = c.requires.good in
    rw (c.behind_line.ensures, c.add.ensures)
    (step-line-end g c.requires.counted _ (cr-here g c.requires.cr (sym c.byte_at.ensures ∙ c.if-byte_at-ne10.false)) _ _ (rw c.form.ensures.value at c.put_if.ensures))
