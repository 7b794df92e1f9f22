-- The sign's record, and on behind it.
use Rattle.token.proofs.walk.Pieces.{step-sign}
use Rattle.token.proofs.walk.sign_step.Goals as goal

pub returns-clause-on : goal.returns-clause-on
returns-clause-on c =
    rw (c.behind.ensures, c.here_at.ensures)
    (λ d u. step-sign c.requires.good u c.requires.sign c.requires.no_blank _ _ (rw (c.put_head_if.ensures, c.sign_head.ensures)))
