-- The loop keeps that the walk comes from its start to its place, which is no earlier; each piece is a step more.
use Rattle.token.proofs.lexer.Words.{◌-◌, ◌≤◌, length, Steps}
use Rattle.token.proofs.walk.ascii_words.Given as goal

abbrev pub invariant-loop-x : goal.invariant-loop-x
invariant-loop-x o l = Steps l.s l.initial.x l.fn.counts l.fn.out l.x l.counts l.out × (l.initial.x.at ≤ l.x.at)

abbrev pub decreases-loop-x : goal.decreases-loop-x
decreases-loop-x o l = length l.s - l.x.at
