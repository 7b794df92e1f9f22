-- Behind the word the identifier goes on, or it ends there.
use Rattle.token.proofs.lexer.Words.{sym}
use Rattle.token.proofs.charsym.Laws.{name-word, name-more, name-over}
use Rattle.token.proofs.charsym.name_symbol_end.Goals as goal

pub more_name-requires-clause-some : goal.more_name-requires-clause-some
more_name-requires-clause-some c = let p = c.requires in (name-word _ _ _ p.start p.within p.next_same _ c.word_end-end.ensures).0

pub more_name-requires-clause-within : goal.more_name-requires-clause-within
more_name-requires-clause-within c = let p = c.requires in (name-word _ _ _ p.start p.within p.next_same _ c.word_end-end.ensures).1

pub more_name-requires-clause-stops : goal.more_name-requires-clause-stops
more_name-requires-clause-stops c = let p = c.requires in (name-word _ _ _ p.start p.within p.next_same _ c.word_end-end.ensures).2

pub returns-then-asks_more-clause-rest : goal.returns-then-asks_more-clause-rest
returns-then-asks_more-clause-rest c = let p = c.requires in name-more _ _ _ p.start p.within p.next_same _ c.word_end-end.ensures _ c.more_name.ensures.rest

pub returns-clause-within : goal.returns-clause-within
returns-clause-within c = let p = c.requires in (name-word _ _ _ p.start p.within p.next_same _ c.word_end-end.ensures).1

pub returns-clause-rest : goal.returns-clause-rest
returns-clause-rest c = let p = c.requires in name-over _ _ _ p.start p.within p.next_same _ c.word_end-end.ensures (sym c.if-asks_more.ensures)
