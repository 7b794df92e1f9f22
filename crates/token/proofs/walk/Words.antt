-- Words, operators, numbers, strings and symbols where a walk stands, as the readers found them: the step past each.
use Rattle.token.proofs.lexer.Words.{ℕ, ◌+◌, ◌≤◌, ◌<◌, ◌≡◌, refl, sym, ◌∙◌, ap, subst, true, false, not, ◌&&◌, ◌||◌, List, length, get_or, eqb, ltb, arith, eq-eqb, between, codes, from, code_laws, isDigit, digitValue, apostrophe, quote, wordOf, intLength, codesTo, afterIdent, classAt, digitClass, tickClass, keywordClass, upToBlank, startsWord, inWord, isSign, asksMore, inRun, formOf, plainForm, byForm, numberOr, hereOf, runTo, lowBefore, storedIf, Counted, Counts, Good, counting, headLength, tokenBehind, Steps, nameNumber, LeftTo, Here, Stand, by-test, code-is, ltb-true, isIdStart, and-both, values}
use Rattle.token.proofs.lexer.Laws.{ascii-start}
use Rattle.token.specs.declared.kinds.TokenKind.TheVariants as tk
use Rattle.token.proofs.byte_class.Laws.{class-start, class-digit, class-tick}
use Rattle.token.proofs.form.Shapes.{int-size}
use Rattle.token.proofs.digits.Alone.{digit-alone}
use Rattle.token.proofs.names.Ascii.{isStart, word-left, word-found, kind-bare, kind-counts}
use Rattle.token.proofs.names.Bytes.{class-inside}
use Rattle.token.proofs.names.Laws.{word-bounds, word-rest, here-is}
use Rattle.token.proofs.ident.Signs.{kindOr, word-none}
use Rattle.token.proofs.charsym.Laws.{tick-byte}
use Rattle.token.proofs.walk.Pieces.{by-class, step-valued, step-bare}
open code_laws use {carry}

pub behind-here : {s : List ℕ} {x : Stand} {c : Counts} {out next : List ℕ} (e : Here) (j : ℕ) → e ≡ hereOf s j
    → Steps s x c out (tokenBehind x (hereOf s e.at) headLength) c next → Steps s x c out (tokenBehind x e headLength) c next
behind-here {s} {x} {c} {out} {next} e j q h =
    subst (λ z. Steps s x c out (tokenBehind x z headLength) c next) (ap (λ c. record { at = e.at; class = record { number = c } }) (sym (here-is s e j q).1)) h

-- ---- operators

module _ {s : List ℕ} {x : Stand} (g : Good s x) (k : inRun x.class.number ≡ true) where
  run-here : inRun (classAt s x.at) ≡ true
  run-here = by-class g inRun k

  pub run-within : x.at < length s
  run-within = class-inside s x.at inRun refl run-here

-- ---- numbers

module _ {s : List ℕ} {x : Stand} (g : Good s x) (k : eqb x.class.number digitClass ≡ true) where
  pub digit-here : isDigit (get_or s x.at 0) ≡ true
  unfolding isDigit
  digit-here = carry (λ b. between 0x30 0x39 b) (codes "0123456789") (get_or s x.at 0) refl (sym (class-digit (get_or s x.at 0)) ∙ by-class g (λ z. eqb z digitClass) k)

  pub digit-inside : x.at < length s
  digit-inside = class-inside s x.at (λ z. eqb z digitClass) refl (by-class g (λ z. eqb z digitClass) k)

  pub step-digit : {c : Counts} → Counted x c → (e : Here) → e ≡ hereOf s (x.at + 1) → inWord e.class.number ≡ false → (v : ℕ) → v ≡ digitValue (get_or s x.at 0) → (out next : List ℕ)
      → next ≡ storedIf out x.bytes (byForm (formOf (tk.IntLit v)) x.at e.at x.cut) → Steps s x c out (tokenBehind x e intLength) (counting c (tk.IntLit v)) next
  unfolding counting
  step-digit {c} u e q w v r out next z =
      let at : e.at ≡ x.at + 1 = ap (λ (y : Here). y.at) q in
      let n : e.class.number ≡ classAt s (x.at + 1) = ap (λ (y : Here). y.class.number) q in
      let f = digit-alone s x.at digit-inside digit-here (sym (ap inWord n) ∙ w) in
      subst (λ y. Steps s x c out (tokenBehind x y intLength) (counting c (tk.IntLit v)) next) (sym q)
      (step-valued g u digit-inside (tk.IntLit (digitValue (get_or s x.at 0))) (x.at + 1) f intLength (int-size _) out next
      (z ∙ ap (λ y. storedIf out x.bytes (byForm (formOf (tk.IntLit y)) x.at e.at x.cut)) r
      ∙ ap (λ y. storedIf out x.bytes (byForm (formOf (tk.IntLit (digitValue (get_or s x.at 0)))) x.at y x.cut)) at))

-- ---- characters and symbols

module _ {s : List ℕ} {x : Stand} (g : Good s x) (k : eqb x.class.number tickClass ≡ true) where
  pub tick-inside : x.at < length s
  tick-inside = class-inside s x.at (λ z. eqb z tickClass) refl (by-class g (λ z. eqb z tickClass) k)

  pub tick-opens : apostrophe (from s x.at) ≡ true
  tick-opens = tick-byte s x.at ∙ eq-eqb (get_or s x.at 0) 0x27 (code-is 0x27 _ (sym (class-tick (get_or s x.at 0)) ∙ by-class g (λ z. eqb z tickClass) k))

-- ---- words

module _ {s : List ℕ} {x : Stand} (g : Good s x) (a : upToBlank x.class.number ≡ false) (b : startsWord x.class.number ≡ true) where
  start-here : not (upToBlank (classAt s x.at)) && startsWord (classAt s x.at) ≡ true
  start-here = by-class g (λ e. not (upToBlank e) && startsWord e) (rw (a, b))

  pub start-byte : isStart (get_or s x.at 0) ≡ true
  start-byte = sym (class-start (get_or s x.at 0)) ∙ start-here

  pub word-inside : x.at < length s
  word-inside = class-inside s x.at (λ e. not (upToBlank e) && startsWord e) refl start-here

  -- an identifier that ends at e
  module _ (e : ℕ) (l : e ≤ length s) (r : from s e ≡ afterIdent false (from s (x.at + 1))) where
    pub word-leaves : LeftTo s x.at e
    word-leaves = word-left s x.at e word-inside start-byte l r

    -- a keyword or an identifier
    pub step-name : {c : Counts} → Counted x c → quote (from s e) ≡ false → (out next : List ℕ) → next ≡ storedIf out x.bytes (byForm (plainForm (nameNumber s x.class.number x.at e)) x.at e x.cut)
        → Steps s x c out (tokenBehind x (hereOf s e) headLength) c next
    unfolding values nameNumber numberOr
    step-name u z out next q =
        let o = wordOf (codesTo (from s x.at) (from s e)) in
        -- only with seven letters does one of the nine words begin
        let n : nameNumber s x.class.number x.at e ≡ numberOr 1 o =
        by-test (eqb x.class.number keywordClass) (λ p. rw p) (λ p. rw (p, word-none s x.at e word-leaves (by-class g (λ z. eqb z keywordClass) p))) in
        step-bare g u word-inside (kindOr tk.Ident o) e (word-found s x.at e word-inside start-byte l r z o refl) (kind-bare tk.Ident refl o) out next
        (q ∙ ap (λ y. storedIf out x.bytes (byForm (plainForm y) x.at e x.cut)) (n ∙ kind-counts tk.Ident o))

  -- behind which nothing makes more of it
  module _ (e : Here) (q : e ≡ hereOf s (runTo inWord s (x.at + 1))) where
    pub word-bound : (x.at + 1 ≤ e.at) × (e.at ≤ length s)
    word-bound =
        rw (here-is s e _ q).0 (word-bounds s x.at (x.at + 1) word-inside (omega arith) (omega (arith, word-inside)) (ascii-start s x.at word-inside start-byte).2)

    module _ (m : asksMore e.class.number && (not (isSign e.class.number) || lowBefore s x.at e.at) ≡ false) where
      rest : (e.at ≤ length s) × (from s e.at ≡ afterIdent false (from s (x.at + 1))) × (quote (from s e.at) ≡ false)
      rest =
          let b = get_or s x.at 0 in
          word-rest s x.at word-inside (ltb-true b 0x80 (and-both (ltb b 0x80) (isIdStart b) start-byte).0) e q m

      pub plain-leaves : LeftTo s x.at e.at
      plain-leaves = word-leaves e.at rest.0 rest.1

      pub step-word : {c : Counts} → Counted x c → (out next : List ℕ) → next ≡ storedIf out x.bytes (byForm (plainForm (nameNumber s x.class.number x.at e.at)) x.at e.at x.cut) → Steps s x c out (tokenBehind x e headLength) c next
      step-word u out next z = behind-here e _ q (step-name e.at rest.0 rest.1 u rest.2 out next z)
