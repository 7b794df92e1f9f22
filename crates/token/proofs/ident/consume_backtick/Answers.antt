use Rattle.token.proofs.lexer.Words.{arith}
use Rattle.token.proofs.ident.Ticks.{run-open, run-empty, run-closed}
use Rattle.token.proofs.ident.consume_backtick.Goals as goal

pub returns-then-s-end : goal.returns-then-s-end
returns-then-s-end c = rw c.at.ensures (run-open _ _ _ c.requires.opens c.run_end-end.ensures c.if-s-end.true)

pub returns-then-end-start : goal.returns-then-end-start
returns-then-end-start c = rw c.at-then-end-start.ensures (run-empty _ _ _ c.requires.opens c.run_end-end.ensures (omega arith) c.if-end-start.true)

pub returns : goal.returns
returns c = run-closed _ _ _ c.requires.opens c.run_end-end.ensures (omega arith) c.if-end-start.false
