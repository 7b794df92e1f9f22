use Rattle.std.proofs.Common.{[], arith}
use Rattle.std.specs.Prelude.{codes}
use Rattle.puts.proofs.Laws.{going-begun, going-turn, going-fails, going-end, put-all, put-nothing}
use Rattle.utf8_runs.specs.Rows.{countsText}
use Rattle.utf8_runs.proofs.Laws.{counts-turn, counts-end}
use Rattle.utf8_runs.proofs.put_counts.Goals as goal

pub loop-count-init : goal.loop-count-init
unfolding countsText
loop-count-init c = going-begun

pub returns-in_err-put_spaced : goal.returns-in_err-put_spaced
returns-in_err-put_spaced c =
    let i = c.loop-count.count-index in
    let counts = c.args.counts.now in
    let before = rw (counts-turn counts i (codes "\n") (omega arith)) at c.loop-count.invariant in
    going-fails _ _ before _ c.from_residual.ensures.0 (rw c.from.ensures at c.in_err-put_spaced.ensures)

pub loop-count-preserved : goal.loop-count-preserved
loop-count-preserved c =
    let i = c.loop-count.count-index in
    let counts = c.args.counts.now in
    let before = rw (counts-turn counts i (codes "\n") (omega arith)) at c.loop-count.invariant in
    going-turn _ _ before (rw c.from.ensures at c.in_ok-put_spaced.ensures)

pub returns-in_err-push : goal.returns-in_err-push
returns-in_err-push c =
    let p = c.in_err-push.ensures in
    let before = rw (counts-end c.args.counts.now c.loop-count.count-index (codes "\n") (omega arith)) at c.loop-count.invariant in
    going-fails (codes "\n") [] before _ c.from_residual-in_err-push.ensures.0 (put-nothing {more = codes "\n"} p.items (omega arith) p.capacity)

pub returns : goal.returns
returns c =
    let p = c.in_ok-push.ensures in
    let before = rw (counts-end c.args.counts.now c.loop-count.count-index (codes "\n") (omega arith)) at c.loop-count.invariant in
    going-end (going-turn (codes "\n") [] before (put-all p.items p.capacity))
