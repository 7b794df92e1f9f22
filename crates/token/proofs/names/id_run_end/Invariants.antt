-- The run goes on from i to where it ends from the start on.
use Rattle.token.proofs.lexer.Words.{◌-◌, length}
use Rattle.token.proofs.names.Wide.{Ids}
use Rattle.token.proofs.names.id_run_end.Given as goal

abbrev pub invariant-loop-class : goal.invariant-loop-class
invariant-loop-class l = Ids l.s l.at l.i

abbrev pub decreases-loop-class : goal.decreases-loop-class
decreases-loop-class l = length l.s - l.i
