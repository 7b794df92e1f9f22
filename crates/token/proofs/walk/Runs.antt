-- An operator that begins with a sign of ASCII other than `/`, behind whose signs nothing makes more of it: its end, its kind and the step past it.
use Rattle.token.proofs.lexer.Words.{◌≡◌, refl, sym, ◌∙◌, ap, ℕ, ◌+◌, ◌≤◌, ◌<◌, Bool, true, false, cond, not, ◌&&◌, ◌||◌, List, length, get_or, eqb, eqb-true, ne_eqb, leb-true, leb-false, le-leb, arith, and-false, lt-leb, none, oneOf, from, afterRun, clash, and-both, text-laws, opSign, freeSign, opensComment, kindNumber, runOf, values, codesTo, scan, classAt, signKeywordClass, slashClass, wideClass, inOperator, inRun, isSign, cursorAt, plainForm, byForm, runBefore, numberOr, hereOf, runTo, pieceOf, tokenTo, storedIf, Counted, Counts, Good, headLength, tokenBehind, Steps, operatorNumber, LeftTo, Here, Stand}
use Rattle.token.specs.code.Walk.{runGoesOn}
use Rattle.token.proofs.ident.Laws.{left-to, run-left, token-at}
use Rattle.token.proofs.ident.Signs.{low-byte, comment-class, ascii-on, sign-here, sign-same, kindOr, scan-before, run-none}
use Rattle.token.specs.declared.kinds.TokenKind.TheVariants as tk
use Rattle.token.proofs.names.Ascii.{kind-bare, kind-counts}
use Rattle.token.proofs.lexer.Laws.{operator-at}
use Rattle.token.proofs.names.Bytes.{pass-keep, pass-within, class-inside}
use Rattle.token.proofs.names.Laws.{run-clear, run-free}
pub use Rattle.token.proofs.names.Laws.{run-here}
use Rattle.token.proofs.walk.Pieces.{by-class, step-bare}
use Rattle.token.proofs.walk.Words.{behind-here}
open text-laws use {run-stays}

-- where nothing goes on, no free sign stands
no-free : (s : List ℕ) (e : ℕ) → runGoesOn s e ≡ false → freeSign (from s e) ≡ false
no-free s e m = go (inOperator (classAt s e)) refl m
  where
    opens : (b : Bool) → true && not b ≡ false → b ≡ true
    opens true q = refl
    opens false q = clash (sym q)

    go : (a : Bool) → inOperator (classAt s e) ≡ a → a && not (eqb (classAt s e) slashClass && oneOf "*/" (get_or s (e + 1) 0)) ≡ false → freeSign (from s e) ≡ false
    go true p q = ap (λ b. opSign (from s e) && not b) (comment-class s e ∙ opens _ q) ∙ and-false (opSign (from s e))
    go false p q =
        let l = leb-false wideClass (classAt s e) p in
        let w : eqb (classAt s e) wideClass ≡ false = ne_eqb (classAt s e) wideClass (λ f. absurd (omega (arith, f))) in
        let z : isSign (classAt s e) ≡ false = lt-leb slashClass (classAt s e) (omega arith) in
        sign-same s e true (low-byte _ w) ∙ ap (λ x. x && not (true && (eqb (classAt s e) slashClass && oneOf "*/" (get_or s (e + 1) 0)))) z

-- from the place behind the first sign on
pub run-kept : (s : List ℕ) (i : ℕ) → inRun (classAt s i) ≡ true → (e : ℕ) → e ≡ runTo inRun s (i + 1)
    → (i < e) × (e ≤ length s) × (afterRun freeSign (from s e) ≡ afterRun freeSign (from s i))
run-kept s i r e q =
    let a = ascii-on s i true (run-free s i r) in
    let b = pass-within (λ j. inRun (classAt s j)) s inside (i + 1) (omega (arith, a.0)) in
    let p : afterRun freeSign (from s e) ≡ afterRun freeSign (from s i) =
    rw q (pass-keep (λ j. inRun (classAt s j)) s inside (i + 1) (λ j. afterRun freeSign (from s j) ≡ afterRun freeSign (from s i))
    (λ j l f k. (ascii-on s j true (run-free s j f)).1 ∙ k) a.1) in
    (omega (arith, b.0, q), omega (arith, b.1, q), p)
  where
    inside : (j : ℕ) → inRun (classAt s j) ≡ true → j < length s
    inside j f = class-inside s j inRun refl f

run-end : (s : List ℕ) (i : ℕ) → inRun (classAt s i) ≡ true → (e : ℕ) → e ≡ runTo inRun s (i + 1) → runGoesOn s e ≡ false
    → (i < e) × (e ≤ length s) × (from s e ≡ afterRun freeSign (from s i))
run-end s i r e q m = let k = run-kept s i r e q in (k.0, k.1, sym (run-stays freeSign (from s e) (no-free s e m)) ∙ k.2)

pub run-bound : {s : List ℕ} {x : Stand} → Good s x → inRun x.class.number ≡ true → (e : Here) → e ≡ hereOf s (runTo inRun s (x.at + 1)) → e.at ≤ length s
run-bound {s} {x} g k e q =
    let h = class-inside s x.at inRun refl (by-class g inRun k) in
    let b = pass-within (λ j. inRun (classAt s j)) s (λ j f. class-inside s j inRun refl f) (x.at + 1) (omega (arith, h)) in
    omega (arith, b.1, ap (λ (z : Here). z.at) q)

module _ {s : List ℕ} {x : Stand} (g : Good s x) (k : inRun x.class.number ≡ true) (e : Here) (q : e ≡ hereOf s (runTo inRun s (x.at + 1))) (m : runGoesOn s e.at ≡ false) where
  here : inRun (classAt s x.at) ≡ true
  here = by-class g inRun k

  class-is : e.class.number ≡ classAt s e.at
  class-is = ap (λ (z : Here). z.class.number) q ∙ ap (classAt s) (sym (ap (λ (z : Here). z.at) q))

  ends : (x.at < e.at) × (e.at ≤ length s) × (from s e.at ≡ afterRun freeSign (from s x.at))
  ends = run-end s x.at here e.at (ap (λ (z : Here). z.at) q) m

  within : x.at < length s
  within = class-inside s x.at inRun refl here

  pub run-on : x.at < e.at
  run-on = ends.0

  pub run-left-to : LeftTo s x.at e.at
  run-left-to = left-to s x.at e.at _ (omega (arith, within)) ends.1 ends.2 (run-left freeSign (from s x.at))

  -- a keyword begins with one of four signs only, and is none before a comment
  counts : operatorNumber s x.class.number x.at e ≡ kindNumber (kindOr tk.OpId (runBefore (from s x.at) (from s e.at)))
  unfolding operatorNumber numberOr
  counts = go (opensComment (from s e.at)) refl (eqb x.class.number signKeywordClass) refl
    where
      slash : eqb e.class.number slashClass ≡ eqb (classAt s e.at) slashClass
      slash = ap (λ z. eqb z slashClass) class-is

      no-slash : opensComment (from s e.at) ≡ false → eqb e.class.number slashClass ≡ false
      no-slash z = slash ∙ by (eqb (classAt s e.at) slashClass) refl (oneOf "*/" (get_or s (e.at + 1) 0)) (sym (comment-class s e.at) ∙ z) m
        where
          by : (a : Bool) → eqb (classAt s e.at) slashClass ≡ a → (b : Bool) → a && b ≡ false → inOperator (classAt s e.at) && not (a && b) ≡ false → a ≡ false
          by false f b u v = refl
          by true f b u v =
              let c : classAt s e.at ≡ slashClass = eqb-true (classAt s e.at) slashClass f in
              clash (sym v ∙ ap (λ y. inOperator (classAt s e.at) && not y) u ∙ ap (λ y. inOperator y && true) c)

      go : (z : Bool) → opensComment (from s e.at) ≡ z → (b : Bool) → eqb x.class.number signKeywordClass ≡ b
          → cond (not b || eqb e.class.number slashClass) 2 (numberOr 2 (runOf (codesTo (from s x.at) (from s e.at))))
          ≡ kindNumber (kindOr tk.OpId (cond z none (runOf (codesTo (from s x.at) (from s e.at)))))
      go true z true f =
          let u = slash ∙ (and-both (eqb (classAt s e.at) slashClass) (oneOf "*/" (get_or s (e.at + 1) 0)) (sym (comment-class s e.at) ∙ z)).0 in
          ap (λ y. cond y 2 (numberOr 2 (runOf (codesTo (from s x.at) (from s e.at))))) u
      go true z false f = refl
      go false z true f = ap (λ y. cond y 2 (numberOr 2 (runOf (codesTo (from s x.at) (from s e.at))))) (no-slash z) ∙ kind-counts tk.OpId _
      go false z false f = sym (ap (λ o. kindNumber (kindOr tk.OpId o)) (run-none s x.at e.at run-left-to (by-class g (λ z. eqb z signKeywordClass) f)))

  pub step-run : {c : Counts} → Counted x c → (out next : List ℕ) → next ≡ storedIf out x.bytes (byForm (plainForm (operatorNumber s x.class.number x.at e)) x.at e.at x.cut) → Steps s x c out (tokenBehind x e headLength) c next
  unfolding values
  step-run u out next z =
      let o = runBefore (from s x.at) (from s e.at) in
      let y = run-clear s x.at here in
      let l = leb-true 160 (classAt s x.at) here in
      let v = sign-here s x.at (le-leb 142 (classAt s x.at) (omega arith)) in
      let found : tokenTo (kindOr tk.OpId o) (cursorAt e.at) ≡ pieceOf (length s) (scan (length s) (from s x.at)) =
      token-at s (kindOr tk.OpId o) (cursorAt e.at) (from s e.at) ends.1 refl ∙ ap (pieceOf (length s)) (sym (operator-at s x.at within y v ∙ scan-before (from s x.at) (from s e.at) ends.2)) in
      behind-here e _ q (step-bare g u within (kindOr tk.OpId o) e.at found (kind-bare tk.OpId refl o) out next (z ∙ ap (λ j. storedIf out x.bytes (byForm (plainForm j) x.at e.at x.cut)) counts))
