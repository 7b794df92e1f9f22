-- Behind each character past ASCII, and the ASCII behind it, the run goes on as before.
use Rattle.token.proofs.lexer.Words.{◌≡◌, ◌-◌, length, hereOf}
use Rattle.token.proofs.names.Wide.{run-kind, Passed}
use Rattle.token.proofs.names.wide_run_end.Given as goal

abbrev pub invariant-loop-width : goal.invariant-loop-width
invariant-loop-width l = (l.end ≡ hereOf l.s l.end.at) × Passed run-kind l.s l.at l.end.at

abbrev pub decreases-loop-width : goal.decreases-loop-width
decreases-loop-width l = length l.s - l.end.at
