use Rattle.std.proofs.Common.{◌-◌}
use Rattle.puts.proofs.Laws.{puts-none, puts-err, puts-fails, puts-then, put-all, put-end, put-nothing}
use Rattle.class_runs.specs.Lines.{nameOf, runText}
use Rattle.class_runs.proofs.RunLaws.{line-some, line-none}
use Rattle.class_runs.proofs.put_run.Goals as goal

pub returns-in_err-extend_from_slice : goal.returns-in_err-extend_from_slice
returns-in_err-extend_from_slice c =
    let p = rw c.name.ensures at c.in_err-extend_from_slice.ensures in
    rw (line-some c.args.class c.args.start c.args.end c.if-start-end.true)
    (puts-fails _ _ c.from_residual.ensures.0 (put-nothing {more = nameOf c.args.class} p.items p.full p.capacity))

pub returns-in_err-extend_from_slice-2 : goal.returns-in_err-extend_from_slice-2
returns-in_err-extend_from_slice-2 c =
    let p = rw c.name.ensures at c.in_ok-extend_from_slice.ensures in
    let q = rw c.run_text.ensures.value at c.in_err-extend_from_slice-2.ensures in
    rw (line-some c.args.class c.args.start c.args.end c.if-start-end.true)
    (puts-then _ _ (put-all {new = c.extend_from_slice.new.self} p.items p.capacity)
    (puts-err _ c.from_residual-in_err-extend_from_slice-2.ensures.0 (put-nothing {more = runText c.args.start (c.args.end - 1)} q.items q.full q.capacity)))

pub returns-in_ok-extend_from_slice-2 : goal.returns-in_ok-extend_from_slice-2
returns-in_ok-extend_from_slice-2 c =
    let p = rw c.name.ensures at c.in_ok-extend_from_slice.ensures in
    let q = rw c.run_text.ensures.value at c.in_ok-extend_from_slice-2.ensures in
    rw (line-some c.args.class c.args.start c.args.end c.if-start-end.true)
    (puts-then _ _ (put-all {new = c.extend_from_slice.new.self} p.items p.capacity) (put-end q.items q.capacity))

pub returns-else-start-end : goal.returns-else-start-end
returns-else-start-end c = rw (line-none c.args.class c.args.start c.args.end c.if-start-end.false) puts-none
