-- The lines of the runs that end from c on are to come. The run at hand begins at c or before.
use Rattle.std.proofs.Common.{◌≤◌, ◌-◌}
use Rattle.puts.proofs.Laws.{Going}
use Rattle.class_runs.specs.Lines.{runsFrom}
use Rattle.class_runs.proofs.put_runs.Given as goal

abbrev pub invariant-loop-c : goal.invariant-loop-c
invariant-loop-c l =
    record {
      begun : l.start ≤ l.c;
      going : Going l.fn.text l.text (runsFrom l.class l.start l.c (l.end - l.c)) (runsFrom l.class l.from l.from (l.end - l.from));
    }
