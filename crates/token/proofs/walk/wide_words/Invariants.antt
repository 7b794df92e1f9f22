-- The loop keeps that the walk comes from its start to its place; what `ascii_words` passes is a step more, and so is the piece behind it.
use Rattle.token.proofs.lexer.Words.{◌-◌, length, Steps}
use Rattle.token.proofs.walk.wide_words.Given as goal

abbrev pub invariant-loop-ascii_end : goal.invariant-loop-ascii_end
invariant-loop-ascii_end l = Steps l.s l.initial.x l.fn.counts l.fn.out l.x l.counts l.out

abbrev pub decreases-loop-ascii_end : goal.decreases-loop-ascii_end
decreases-loop-ascii_end l = length l.s - l.x.at
