-- Both loops keep what follows the rest from its place on, an underscore last before it or not.
use Rattle.token.proofs.lexer.Words.{◌≡◌, ◌≤◌, ◌-◌, length, from, afterIdent}
use Rattle.token.proofs.ident.consume_id_rest.Given as goal

abbrev pub invariant-loop-left : goal.invariant-loop-left
invariant-loop-left l = (l.initial.i ≤ l.i) × (l.i ≤ length l.s) × (afterIdent l.left (from l.s l.i) ≡ afterIdent l.low (from l.s l.fn.c.at))

abbrev pub decreases-loop-left : goal.decreases-loop-left
decreases-loop-left l = length l.s - l.i

abbrev pub invariant-chunks : goal.invariant-chunks
invariant-chunks l = (l.i ≤ length l.s) × (afterIdent l.left (from l.s l.i) ≡ afterIdent l.low (from l.s l.fn.c.at))

abbrev pub decreases-chunks : goal.decreases-chunks
decreases-chunks l = length l.s - l.i
