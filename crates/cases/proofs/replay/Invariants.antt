-- What was counted is that of the cases passed, of which each takes a byte at least.
use Rattle.std.proofs.Common.{◌≤◌, ◌-◌, length}
use Rattle.cases.specs.Cases.{nextIn, Replays}
use Rattle.cases.proofs.replay.Given as goal

abbrev pub invariant-loop-at : goal.invariant-loop-at
invariant-loop-at g l = record {
  counted : Replays l.list (λ at. nextIn l.list (g.C.Case.end l.list at)) (g.C.Case.agrees l.list) l.at l.cases l.differ;
  fewer : l.cases ≤ l.at;
  fewest : l.differ ≤ l.cases;
  within : l.at ≤ length l.list;
}

abbrev pub decreases-loop-at : goal.decreases-loop-at
decreases-loop-at g l = length l.list - l.at
