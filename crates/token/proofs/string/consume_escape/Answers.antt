use Rattle.token.proofs.cursor.Words.{arith, isDigit}
use Rattle.token.proofs.string.Escapes.{escape-digits}
use Rattle.token.proofs.string.consume_escape.Goals as goal

pub returns-in-48-to-57 : goal.returns-in-48-to-57
unfolding isDigit
returns-in-48-to-57 c = escape-digits c.args.s.now c.args.c.at (grind arith) _ (grind arith) c.digit_run.ensures.run
