-- The walk from the script's start, and what it comes to.
use Rattle.token.proofs.records.Ends.{walked-measured}
use Rattle.token.proofs.records.walk_script.Goals as goal

pub returns-clause-value : goal.returns-clause-value
returns-clause-value c = walked-measured _ _ c.walk.ensures.needs c.walk.ensures.refused
