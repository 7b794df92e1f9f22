use Rattle.puts.proofs.Laws.{puts-err, puts-fails, puts-ok, puts-then}
use Rattle.class_runs.specs.Lines.{classText}
use Rattle.class_runs.proofs.put_class.Goals as goal

pub returns-in_err-below-clause-put : goal.returns-in_err-below-clause-put
unfolding classText
returns-in_err-below-clause-put c = puts-fails _ _ c.from_residual.ensures.0 c.in_err-below.ensures.put

pub returns-in_err-above-clause-put : goal.returns-in_err-above-clause-put
unfolding classText
returns-in_err-above-clause-put c =
    puts-then _ _ c.in_ok-below.ensures.put (puts-err _ c.from_residual-in_err-above.ensures.0 c.in_err-above.ensures.put)

pub returns-clause-put : goal.returns-clause-put
unfolding classText
returns-clause-put c = puts-then _ _ c.in_ok-below.ensures.put (puts-ok c.in_ok-above.ensures.put)
