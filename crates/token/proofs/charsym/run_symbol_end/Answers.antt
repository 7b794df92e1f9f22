-- A comment's opening begins no symbol.
use Rattle.token.proofs.lexer.Words.{sym}
use Rattle.token.proofs.charsym.Laws.{run-symbol, no-run}
use Rattle.token.proofs.charsym.run_symbol_end.Goals as goal

pub returns-then-opens_comment : goal.returns-then-opens_comment
returns-then-opens_comment c = no-run c.args.s.now c.args.c.at (sym c.if-opens_comment.ensures)

pub returns : goal.returns
returns c =
    let r = c.consume_op_run.ensures in
    run-symbol c.args.s.now c.args.c.at c.consume_op_run.result (sym c.if-opens_comment.ensures) r.within r.rest
