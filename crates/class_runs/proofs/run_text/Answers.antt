use Rattle.class_runs.specs.Lines.{runText}
use Rattle.class_runs.proofs.run_text.Goals as goal

pub returns-clause-value : goal.returns-clause-value
unfolding runText
returns-clause-value c = cc
