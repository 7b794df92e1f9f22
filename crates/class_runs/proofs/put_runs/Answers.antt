use Rattle.std.proofs.Common.{◌≡◌, arith, true, false, sym, ◌∙◌}
use Rattle.puts.proofs.Laws.{going-begun, going-turn, going-fails, going-end}
use Rattle.std.proofs.Common.{append-nil}
use Rattle.class_runs.specs.Lines.{inClass, runLine}
use Rattle.class_runs.proofs.RunLaws.{runs-in, runs-off, runs-end}
use Rattle.class_runs.proofs.put_runs.Goals as goal
use Rattle.class_runs.proofs.put_runs.Goals.{then-not-has+in_ok-put_run, else-not-has}

pub loop-c-init : goal.loop-c-init
loop-c-init c = record { begun = omega arith; going = going-begun }

pub returns-in_err-put_run-clause-put : goal.returns-in_err-put_run-clause-put
returns-in_err-put_run-clause-put c =
    let x = c.loop-c in
    let off : inClass c.args.class x.c ≡ false = sym c.has.ensures ∙ c.if-not-has.true in
    going-fails _ _ (rw (runs-off c.args.class x.start x.c c.args.end c.loop-c-test.true off) at x.invariant.going) _ c.from_residual.ensures.0 c.in_err-put_run.ensures

pub loop-c-preserved : goal.loop-c-preserved
loop-c-preserved c =
    let x = c.loop-c in
    elim c.if-not-has.branch [
      | then-not-has+in_ok-put_run w ↦
          let off : inClass c.args.class x.c ≡ false = sym c.has.ensures ∙ w.if-not-has.true in
          let before = rw (runs-off c.args.class x.start x.c c.args.end c.loop-c-test.true off) at x.invariant.going in
          record { begun = omega (arith, w.start-is); going = rw (w.text-is, w.start-is) (going-turn _ _ before w.in_ok-put_run.ensures) }
      | else-not-has w ↦
          let is : inClass c.args.class x.c ≡ true = sym c.has.ensures ∙ w.if-not-has.false in
          record {
            begun = omega (arith, w.start-is, x.invariant.begun);
            going = rw (w.text-is, w.start-is, ← runs-in c.args.class x.start x.c c.args.end c.loop-c-test.true is) x.invariant.going;
          }
    ]

pub returns-in_err-put_run-2-clause-put : goal.returns-in_err-put_run-2-clause-put
returns-in_err-put_run-2-clause-put c =
    let x = c.loop-c in
    let last = runs-end c.args.class x.start x.c c.args.end (omega arith) (omega arith) in
    let before = rw (last, ← append-nil (runLine c.args.class x.start c.args.end)) at x.invariant.going in
    going-fails _ _ before _ c.from_residual-in_err-put_run-2.ensures.0 c.in_err-put_run-2.ensures

pub returns-clause-put : goal.returns-clause-put
returns-clause-put c =
    let x = c.loop-c in
    let last = runs-end c.args.class x.start x.c c.args.end (omega arith) (omega arith) in
    let before = rw (last, ← append-nil (runLine c.args.class x.start c.args.end)) at x.invariant.going in
    going-end (going-turn _ _ before c.in_ok-put_run-2.ensures)
