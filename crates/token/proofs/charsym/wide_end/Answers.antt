-- Each answer of the look is one test of the definition.
use Rattle.token.proofs.lexer.Words.{sym, ◌∙◌}
use Rattle.token.proofs.charsym.Laws.{none-at-end, wide-here, wide-behind, wide-closed, wide-name, wide-run, wide-none}
use Rattle.token.proofs.cursor.Laws.{peeked-end}
use Rattle.token.proofs.charsym.wide_end.Goals as goal

pub returns-in_err-here : goal.returns-in_err-here
returns-in_err-here c = rw c.from_residual.ensures (none-at-end c.args.s.now c.args.c.at (peeked-end c.args.s.now c.args.c.at (sym c.in_err-here.was ∙ c.peek.ensures)))

pub returns-then-closes_char : goal.returns-then-closes_char
returns-then-closes_char c = wide-closed c.args.s.now c.args.c.at c.requires.wide _ _ c.in_ok-here.ensures (sym c.if-closes_char.ensures)

pub name_symbol_end-requires-clause-start : goal.name_symbol_end-requires-clause-start
name_symbol_end-requires-clause-start c = (wide-here c.args.s.now c.args.c.at c.requires.wide _ _ c.in_ok-here.ensures).in-script

pub name_symbol_end-requires-clause-within : goal.name_symbol_end-requires-clause-within
name_symbol_end-requires-clause-within c = (wide-here c.args.s.now c.args.c.at c.requires.wide _ _ c.in_ok-here.ensures).within

pub name_symbol_end-requires-clause-next_same : goal.name_symbol_end-requires-clause-next_same
name_symbol_end-requires-clause-next_same c = wide-behind c.args.s.now c.args.c.at c.requires.wide _ _ c.in_ok-here.ensures

pub returns-then-here : goal.returns-then-here
returns-then-here c =
    let r = c.name_symbol_end.ensures in
    wide-name c.args.s.now c.args.c.at c.requires.wide _ _ c.in_ok-here.ensures (sym c.if-closes_char.ensures) c.if-here.true c.name_symbol_end.result.at r.within r.rest

pub consume_op_run-requires : goal.consume_op_run-requires
consume_op_run-requires c = (wide-here c.args.s.now c.args.c.at c.requires.wide _ _ c.in_ok-here.ensures).within

pub returns-then-here-2 : goal.returns-then-here-2
returns-then-here-2 c =
    let r = c.consume_op_run.ensures in
    wide-run c.args.s.now c.args.c.at c.requires.wide _ _ c.in_ok-here.ensures (sym c.if-closes_char.ensures) c.if-here-2.true c.consume_op_run.result r.within r.rest

pub returns : goal.returns
returns c = wide-none c.args.s.now c.args.c.at c.requires.wide _ _ c.in_ok-here.ensures (sym c.if-closes_char.ensures) c.if-here.false c.if-here-2.false
