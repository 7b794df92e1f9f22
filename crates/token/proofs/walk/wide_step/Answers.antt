-- An operator sign, an id start, or neither, by one look.
use Rattle.token.proofs.lexer.Words.{◌∙◌, arith}
use Rattle.token.proofs.ident.Signs.{wide-sign, wide-start}
use Rattle.token.proofs.walk.Starts.{wide-clear, wide-in, wide-past, refuses-wide}
use Rattle.token.proofs.walk.wide_step.Goals as goal

pub look-here-requires : goal.look-here-requires
look-here-requires c = wide-in c.requires.good c.requires.wide

pub run_step-requires-clause-sign : goal.run_step-requires-clause-sign
run_step-requires-clause-sign c = wide-sign c.args.s.now c.args.x.at c.look-here.result c.look-here.ensures ∙ c.if-here.true

pub run_step-requires-clause-no_comment : goal.run_step-requires-clause-no_comment
run_step-requires-clause-no_comment c = wide-clear c.requires.good c.requires.wide

pub overflow_add-next : goal.overflow_add-next
overflow_add-next c = let n = wide-past c.requires.good c.requires.wide c.look-here.result c.look-here.ensures in omega (arith, n.0)

pub name_step-requires-clause-starts : goal.name_step-requires-clause-starts
name_step-requires-clause-starts c = wide-start c.args.s.now c.args.x.at c.look-here.result c.look-here.ensures ∙ c.if-here-2.true

pub name_step-requires-clause-next_within : goal.name_step-requires-clause-next_within
name_step-requires-clause-next_within c = (wide-past c.requires.good c.requires.wide c.look-here.result c.look-here.ensures).0

pub name_step-requires-clause-next_same : goal.name_step-requires-clause-next_same
name_step-requires-clause-next_same c = (wide-past c.requires.good c.requires.wide c.look-here.result c.look-here.ensures).1

pub returns-clause-refused : goal.returns-clause-refused
returns-clause-refused c = rw c.at.ensures (refuses-wide c.requires.good c.requires.wide c.look-here.result c.look-here.ensures c.if-here.false c.if-here-2.false _ _)
