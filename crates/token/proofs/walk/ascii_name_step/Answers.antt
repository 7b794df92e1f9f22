use Rattle.token.proofs.lexer.Words.{arith}
use Rattle.token.proofs.walk.Starts.{ascii-starts}
use Rattle.token.proofs.walk.Words.{word-inside}
use Rattle.token.proofs.walk.ascii_name_step.Goals as goal

pub name_step-requires-clause-starts : goal.name_step-requires-clause-starts
name_step-requires-clause-starts c = let p = c.requires in (ascii-starts p.good p.no_sign p.begins).0

pub name_step-requires-clause-next_within : goal.name_step-requires-clause-next_within
name_step-requires-clause-next_within c = let p = c.requires in omega (arith, word-inside p.good p.no_sign p.begins)

pub name_step-requires-clause-next_same : goal.name_step-requires-clause-next_same
name_step-requires-clause-next_same c = let p = c.requires in (ascii-starts p.good p.no_sign p.begins).1
