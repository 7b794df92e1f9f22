-- The line end's record, and on behind it.
use Rattle.token.proofs.walk.Pieces.{lf-here, step-line-end}
use Rattle.token.proofs.walk.line_step.Goals as goal

pub returns-clause-on : goal.returns-clause-on
returns-clause-on c =
    let g = c.requires.good in
    rw (c.behind_line.ensures, c.add.ensures) (step-line-end g c.requires.counted _ (lf-here g c.requires.lf) _ _ (rw c.form.ensures.value at c.put_if.ensures))
