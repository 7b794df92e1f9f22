-- The answers for the sequences so far are counted.
use Rattle.std.proofs.Common.{◌≡◌, ◌≤◌}
use Rattle.utf8_runs.specs.Sequences.{walked}
use Rattle.utf8_runs.proofs.walk.Given as goal

abbrev pub invariant-loop-k : goal.invariant-loop-k
invariant-loop-k l = (l.k ≤ l.tails) × (l.counts ≡ walked l.n l.a l.k l.fn.counts) × (l.all ≡ walked l.n l.a l.k l.fn.all)
