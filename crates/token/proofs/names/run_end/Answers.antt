-- The bytes from here on end where those from the start on end.
use Rattle.token.proofs.lexer.Words.{◌≡◌, refl, sym, ap, ◌∙◌, inRun, hereOf, runTo}
use Rattle.token.proofs.names.Bytes.{pass-first, pass-more, pass-stop, class-off}
use Rattle.token.proofs.names.run_end.Goals.{then-loop-i-test+else-in_run, else-loop-i-test}
use Rattle.token.proofs.names.run_end.Goals as goal

pub loop-i-init : goal.loop-i-init
loop-i-init c = pass-first _ _ _ c.requires

pub loop-i-preserved : goal.loop-i-preserved
loop-i-preserved c = pass-more _ _ _ _ c.loop-i-test.true (ap inRun (sym c.of.ensures) ∙ sym c.in_run.ensures ∙ c.if-in_run.true) c.loop-i.invariant

pub returns : goal.returns
returns c =
    let s = c.args.s.now in
    let p = c.loop-i.invariant in
    let e : c.loop-i.i ≡ runTo inRun s c.args.at = elim c.loop-i-test.branch [
      | then-loop-i-test+else-in_run w ↦ pass-stop _ _ _ _ (ap inRun (sym w.of.ensures) ∙ sym w.in_run.ensures ∙ w.if-in_run.false) p
      | else-loop-i-test w ↦ pass-stop _ _ _ _ (class-off s c.loop-i.i inRun refl w.loop-i-test.false) p
    ] in
    c.here_at.ensures ∙ ap (hereOf s) e
