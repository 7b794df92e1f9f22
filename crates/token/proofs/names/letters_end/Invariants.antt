-- Both runs go on from i as from the start.
use Rattle.token.proofs.lexer.Words.{◌-◌, length}
use Rattle.token.proofs.names.Wide.{Letters}
use Rattle.token.proofs.names.letters_end.Given as goal

abbrev pub invariant-loop-i : goal.invariant-loop-i
invariant-loop-i l = Letters l.s l.at l.i

abbrev pub decreases-loop-i : goal.decreases-loop-i
decreases-loop-i l = length l.s - l.i
