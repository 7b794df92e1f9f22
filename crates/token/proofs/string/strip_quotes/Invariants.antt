-- The content of what is left is the content of all.
use Rattle.token.proofs.cursor.Words.{◌-◌}
use Rattle.token.proofs.string.Strips.{Left}
use Rattle.token.proofs.string.strip_quotes.Given as goal

abbrev pub invariant-loop-a : goal.invariant-loop-a
invariant-loop-a l = Left l.s l.start l.end l.a l.b

abbrev pub decreases-loop-a : goal.decreases-loop-a
decreases-loop-a l = l.b - l.a
