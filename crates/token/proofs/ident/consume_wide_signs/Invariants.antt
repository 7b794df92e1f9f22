-- The loop keeps what follows the signs from its place on.
use Rattle.token.proofs.lexer.Words.{◌≡◌, ◌≤◌, ◌-◌, Bool, length, from, afterRun, signIn}
use denote.Param as param
use Rattle.token.specs.contracts.ident.consume_wide_signs as contract
use Rattle.token.proofs.ident.consume_wide_signs.Given as goal

-- whether the signs have to be free
abbrev pub free : goal.Over → Bool
free g = contract.FREE-type (param.number g.row.FREE)

abbrev pub invariant-loop-width : goal.invariant-loop-width
invariant-loop-width g l = (l.i ≤ length l.s) × (afterRun (signIn (free g)) (from l.s l.i) ≡ afterRun (signIn (free g)) (from l.s l.fn.c.at))

abbrev pub decreases-loop-width : goal.decreases-loop-width
decreases-loop-width g l = length l.s - l.i
