-- The loop keeps what follows the signs from its place on.
use Rattle.token.proofs.lexer.Words.{◌≡◌, ◌≤◌, ◌-◌, Bool, length, from, afterRun, signIn}
use denote.Param as param
use Rattle.token.specs.contracts.ident.consume_signs as contract
use Rattle.token.proofs.ident.consume_signs.Given as goal

-- whether the signs have to be free
abbrev pub free : goal.Over → Bool
free g = contract.FREE-type (param.number g.row.FREE)

abbrev pub invariant-loop-i : goal.invariant-loop-i
invariant-loop-i g l = (l.i ≤ length l.s) × (afterRun (signIn (free g)) (from l.s l.i) ≡ afterRun (signIn (free g)) (from l.s l.fn.c.at))

abbrev pub decreases-loop-i : goal.decreases-loop-i
decreases-loop-i g l = length l.s - l.i
