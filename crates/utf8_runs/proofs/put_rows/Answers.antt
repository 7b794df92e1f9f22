use Rattle.std.proofs.Common.{sym}
use Rattle.puts.proofs.Laws.{going-begun, going-turn, going-fails, going-last}
use Rattle.utf8_runs.proofs.Laws.{rows_none, rows_more, rows-turn, rows-end, rows-begun}
use Rattle.utf8_runs.proofs.put_rows.Goals as goal

pub loop-a-init : goal.loop-a-init
loop-a-init c = record { counted = sym (rows_none _ _); going = rw rows-begun going-begun }

pub returns-in_err-put_row : goal.returns-in_err-put_row
returns-in_err-put_row c =
    let x = c.loop-a in
    let p = rw (c.hex_of.ensures.value, c.walk.ensures.counts_after) at c.in_err-put_row.ensures in
    going-fails _ _ (rw (rows-turn c.args.n c.args.tails x.a c.loop-a-test.true) at x.invariant.going) _ c.from_residual.ensures.0 p

pub loop-a-preserved : goal.loop-a-preserved
loop-a-preserved c =
    let x = c.loop-a in
    let p = rw (c.hex_of.ensures.value, c.walk.ensures.counts_after) at c.in_ok-put_row.ensures in
    record {
      counted = rw (rows_more, ← x.invariant.counted) c.walk.ensures.all_after;
      going = going-turn _ _ (rw (rows-turn c.args.n c.args.tails x.a c.loop-a-test.true) at x.invariant.going) p;
    }

pub returns : goal.returns
returns c =
    let x = c.loop-a in
    let before = rw (rows-end c.args.n c.args.tails x.a c.loop-a-test.false, ← x.invariant.counted) at x.invariant.going in
    going-last _ before c.put_row-2.ensures
