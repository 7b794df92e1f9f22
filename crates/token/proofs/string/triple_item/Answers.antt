-- A step passes what the walk passes, and refuses what the walk refuses.
use Rattle.token.proofs.cursor.Words.{sym, ◌+◌, arith, tripleItem, endAt, cursorAt}
use Rattle.token.proofs.string.Laws.{triple-passes, triple-refuses, triple-wrong}
use Rattle.token.proofs.string.triple_item.Goals as goal

pub returns-in-36-clause-passes : goal.returns-in-36-clause-passes
unfolding tripleItem
returns-in-36-clause-passes c = triple-passes c.args.prefixed c.args.s.now c.args.c.at c.requires.within _ (sym c.requires.no_close) (grind arith)

pub returns-in-36-clause-refuses : goal.returns-in-36-clause-refuses
unfolding tripleItem
returns-in-36-clause-refuses c = triple-refuses c.args.prefixed c.args.s.now c.args.c.at c.requires.within _ (sym c.requires.no_close) (grind arith)

pub returns-in-92-clause-refuses : goal.returns-in-92-clause-refuses
unfolding tripleItem
returns-in-92-clause-refuses c = triple-wrong c.args.prefixed c.args.s.now c.args.c.at c.requires.within _ (sym c.requires.no_close) (grind arith)

pub returns-in_default-clause-passes : goal.returns-in_default-clause-passes
unfolding tripleItem
returns-in_default-clause-passes c = triple-passes c.args.prefixed c.args.s.now c.args.c.at c.requires.within (endAt (cursorAt (c.args.c.at + 1))) (sym c.requires.no_close) (grind arith)

pub returns-in_default-2-clause-passes : goal.returns-in_default-2-clause-passes
unfolding tripleItem
returns-in_default-2-clause-passes c = triple-passes c.args.prefixed c.args.s.now c.args.c.at c.requires.within (endAt (cursorAt (c.args.c.at + 1))) (sym c.requires.no_close) (grind arith)
