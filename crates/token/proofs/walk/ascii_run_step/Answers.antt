use Rattle.token.proofs.lexer.Words.{arith}
use Rattle.token.proofs.walk.Starts.{ascii-sign, ascii-sign-inside, behind-sign}
use Rattle.token.proofs.walk.ascii_run_step.Goals as goal

pub run_step-requires-clause-sign : goal.run_step-requires-clause-sign
run_step-requires-clause-sign c = ascii-sign c.requires.good c.requires.sign

pub run_step-requires-clause-next_within : goal.run_step-requires-clause-next_within
run_step-requires-clause-next_within c = omega (arith, ascii-sign-inside c.requires.good c.requires.sign)

pub run_step-requires-clause-next_same : goal.run_step-requires-clause-next_same
run_step-requires-clause-next_same c = behind-sign c.requires.good c.requires.sign
