-- The loop keeps that the walk from its place is the walk from the first comment.
use Rattle.token.proofs.lexer.Words.{◌-◌, length}
use Rattle.token.proofs.walk.Pieces.{Past}
use Rattle.token.proofs.walk.block_step.Given as goal

abbrev pub invariant-more : goal.invariant-more
invariant-more l = Past l.s l.fn.x l.y

abbrev pub decreases-more : goal.decreases-more
decreases-more l = length l.s - l.y.at
