-- The bytes from here on end where those from the start on end.
use Rattle.token.proofs.lexer.Words.{◌-◌, length, classAt, inRun}
use Rattle.token.proofs.names.Bytes.{Passing}
use Rattle.token.proofs.names.run_end.Given as goal

abbrev pub invariant-loop-i : goal.invariant-loop-i
invariant-loop-i l = Passing (λ j. inRun (classAt l.s j)) l.s l.at l.i

abbrev pub decreases-loop-i : goal.decreases-loop-i
decreases-loop-i l = length l.s - l.i
