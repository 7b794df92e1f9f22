-- The bytes from here on end where those from the start on end.
use Rattle.token.proofs.lexer.Words.{◌≡◌, refl, sym, ap, ◌∙◌, inWord, hereOf, runTo}
use Rattle.token.proofs.names.Bytes.{pass-first, pass-more, pass-stop, class-off}
use Rattle.token.proofs.names.word_end.Goals.{then-loop-i-test+else-in_word, else-loop-i-test}
use Rattle.token.proofs.names.word_end.Goals as goal

pub loop-i-init : goal.loop-i-init
loop-i-init c = pass-first _ _ _ c.requires

pub loop-i-preserved : goal.loop-i-preserved
loop-i-preserved c = pass-more _ _ _ _ c.loop-i-test.true (ap inWord (sym c.of.ensures) ∙ sym c.in_word.ensures ∙ c.if-in_word.true) c.loop-i.invariant

pub returns : goal.returns
returns c =
    let s = c.args.s.now in
    let p = c.loop-i.invariant in
    let e : c.loop-i.i ≡ runTo inWord s c.args.at = elim c.loop-i-test.branch [
      | then-loop-i-test+else-in_word w ↦ pass-stop _ _ _ _ (ap inWord (sym w.of.ensures) ∙ sym w.in_word.ensures ∙ w.if-in_word.false) p
      | else-loop-i-test w ↦ pass-stop _ _ _ _ (class-off s c.loop-i.i inWord refl w.loop-i-test.false) p
    ] in
    c.here_at.ensures ∙ ap (hereOf s) e
