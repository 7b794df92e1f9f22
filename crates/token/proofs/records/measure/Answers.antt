-- What the walk comes to.
use Rattle.token.proofs.records.measure.Goals as goal
use Rattle.token.proofs.records.Told.{told-held}

pub returns-clause-held : goal.returns-clause-held
returns-clause-held c = told-held _ _ c.walk_script.ensures.value _ _ c.walk_script.ensures.out_after
