-- A step passes what the walk passes, and refuses what the walk refuses.
use Rattle.token.proofs.cursor.Words.{arith, singleItem, ◌+◌, endAt, cursorAt}
use Rattle.token.proofs.string.Laws.{single-passes, single-refuses, single-wrong}
use Rattle.token.proofs.string.single_item.Goals as goal

pub returns-in-10-clause-refuses : goal.returns-in-10-clause-refuses
unfolding singleItem
returns-in-10-clause-refuses c = single-wrong c.args.prefixed c.args.s.now c.args.c.at c.requires.within _ c.requires.no_quote (grind arith)

pub returns-in-36-clause-passes : goal.returns-in-36-clause-passes
unfolding singleItem
returns-in-36-clause-passes c = single-passes c.args.prefixed c.args.s.now c.args.c.at c.requires.within _ c.requires.no_quote (grind arith)

pub returns-in-36-clause-refuses : goal.returns-in-36-clause-refuses
unfolding singleItem
returns-in-36-clause-refuses c = single-refuses c.args.prefixed c.args.s.now c.args.c.at c.requires.within _ c.requires.no_quote (grind arith)

pub returns-in_default-clause-passes : goal.returns-in_default-clause-passes
unfolding singleItem
returns-in_default-clause-passes c = single-passes c.args.prefixed c.args.s.now c.args.c.at c.requires.within (endAt (cursorAt (c.args.c.at + 1))) c.requires.no_quote (grind arith)
