-- The loop keeps what is closed from its place on, with so many open.
use Rattle.token.proofs.cursor.Words.{◌≡◌, ◌≤◌, ◌-◌, length, from, close}
use Rattle.token.proofs.gap.close_block.Given as goal

abbrev pub invariant-loop-i : goal.invariant-loop-i
invariant-loop-i l = record { within : l.i ≤ length l.s; depth_in : l.depth ≤ l.i; same : close l.depth 0 (from l.s l.i) ≡ close l.inner 0 (from l.s l.at) }

abbrev pub decreases-loop-i : goal.decreases-loop-i
decreases-loop-i l = length l.s - l.i
