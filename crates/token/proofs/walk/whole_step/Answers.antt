-- A sign with which no comment begins.
use Rattle.token.proofs.lexer.Words.{tests, rules}
use Rattle.token.proofs.walk.Starts.{other-clear}
use Rattle.token.proofs.walk.whole_step.Goals as goal

pub ascii_run_step-requires-clause-no_comment : goal.ascii_run_step-requires-clause-no_comment
ascii_run_step-requires-clause-no_comment c = other-clear c.requires.good (search (tests, rules))
