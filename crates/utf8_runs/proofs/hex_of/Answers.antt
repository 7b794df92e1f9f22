use Rattle.utf8_runs.specs.Rows.{hexOf}
use Rattle.utf8_runs.proofs.hex_of.Goals as goal

pub returns-clause-value : goal.returns-clause-value
unfolding hexOf
returns-clause-value c = cc
