-- The steps from here on give what the steps from the start on give.
use Rattle.token.proofs.cursor.Words.{◌≤◌, ◌-◌, length}
use Rattle.token.proofs.gap.Laws.{OpeningsFrom}
use Rattle.token.proofs.gap.pass_openings.Given as goal

abbrev pub invariant-loop-i : goal.invariant-loop-i
invariant-loop-i l = record { within : l.i ≤ length l.s; depth_in : l.depth ≤ l.i; going : OpeningsFrom l.s l.at l.i l.depth }

abbrev pub decreases-loop-i : goal.decreases-loop-i
decreases-loop-i l = length l.s - l.i
