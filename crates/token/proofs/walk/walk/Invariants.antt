-- The loop keeps that the walk comes from its start to its place.
use Rattle.token.proofs.lexer.Words.{◌-◌, length, beginning, noneCounted, Steps}
use Rattle.token.proofs.walk.walk.Given as goal

abbrev pub invariant-loop-x : goal.invariant-loop-x
invariant-loop-x l = Steps l.s (beginning l.s) noneCounted l.fn.out l.x l.counts l.out

abbrev pub decreases-loop-x : goal.decreases-loop-x
decreases-loop-x l = length l.s - l.x.at
