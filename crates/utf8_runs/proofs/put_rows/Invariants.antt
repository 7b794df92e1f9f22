-- The rows so far are counted, and the lines from a on are to come.
use Rattle.std.proofs.Common.{◌≡◌, ◌-◌}
use Rattle.puts.proofs.Laws.{Going}
use Rattle.utf8_runs.specs.Sequences.{rows}
use Rattle.utf8_runs.specs.Rows.{rowsFrom, rowsText}
use Rattle.utf8_runs.proofs.put_rows.Given as goal

abbrev pub invariant-loop-a : goal.invariant-loop-a
invariant-loop-a l =
    record {
      counted : l.all ≡ rows l.n l.tails l.a;
      going : Going l.fn.text l.text (rowsFrom l.n l.tails l.a (256 - l.a)) (rowsText l.n l.tails);
    }
