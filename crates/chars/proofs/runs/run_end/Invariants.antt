-- From where it stands on, the run ends where it does from the start on.
use Rattle.std.proofs.Common.{◌≡◌, ◌+◌, ◌-◌, length, drop}
use Rattle.std.specs.List.{prefix_len}
use Rattle.chars.proofs.runs.run_end.Given as goal

abbrev pub invariant-loop-outside : goal.invariant-loop-outside
invariant-loop-outside g l = l.end + prefix_len g.C.ByteSet.holds (drop l.end l.s) ≡ l.at + prefix_len g.C.ByteSet.holds (drop l.at l.s)

abbrev pub decreases-loop-outside : goal.decreases-loop-outside
decreases-loop-outside g l = length l.s - l.end

abbrev pub invariant-loop-end : goal.invariant-loop-end
invariant-loop-end g l = l.end + prefix_len g.C.ByteSet.holds (drop l.end l.s) ≡ l.at + prefix_len g.C.ByteSet.holds (drop l.at l.s)

abbrev pub decreases-loop-end : goal.decreases-loop-end
decreases-loop-end g l = length l.s - l.end
