-- Words and operators with all their characters, where a walk stands: the step past each.
use Rattle.token.proofs.lexer.Words.{◌≡◌, refl, sym, ◌∙◌, ap, ap₂, ℕ, ◌+◌, ◌≤◌, ◌<◌, Bool, true, false, cond, not, ◌&&◌, ◌||◌, List, Option, none, some, length, drop, get_or, eqb, eqb-true, leb-true, le-leb, arith, and-both, from, idStart, isIdStart, isOpSign, place, afterRun, opSign, freeSign, opensComment, quote, kindNumber, wordOf, runOf, values, codesTo, afterIdent, wordOr, Found, scan, classAt, inRun, isSign, keywordClass, signKeywordClass, slashClass, wideClass, upToBlank, startsWord, inWord, inOperator, cursorAt, plainForm, byForm, runBefore, numberOr, nameNumber, operatorNumber, hereOf, lowBefore, wordChar, runChar, pieceOf, tokenTo, storedIf, Counted, Counts, Good, headLength, tokenBehind, Steps, LeftTo, Here, Stand, Kw, slash-no-start, by-test, clash, text-laws, asciiSign, runTo}
use Rattle.token.specs.declared.kinds.TokenKind.TheVariants as tk
use Rattle.token.proofs.theorems.Dispatch.{clear-head}
use Rattle.token.specs.code.Walk.{wholeGoesOn, runGoesOn, wholeRunGoesOn}
use Rattle.token.proofs.ident.Laws.{left-to, run-left, ident-left, scan-word, not-prefixed, token-at, head-inside, next-later, first_read}
use Rattle.token.proofs.byte_class.Laws.{class-operator}
use Rattle.token.proofs.ident.Signs.{ascii-on, sign-here, comment-class, kindOr, scan-before, run-none, word-none}
use Rattle.token.proofs.lexer.Laws.{word-at, operator-at}
use Rattle.token.proofs.names.Ascii.{kind-bare, kind-counts}
use Rattle.token.proofs.names.Whole.{whole-bounds, whole-kept, whole-over, whole-no-quote, signs-bounds, signs-over, signs-no-slash}
use Rattle.token.proofs.walk.Pieces.{by-class, step-bare}
use Rattle.token.proofs.names.Laws.{here-is, run-clear}
use Rattle.token.proofs.names.Wide.{word-kind, run-kind, read-on}
use Rattle.token.proofs.walk.Starts.{sign-next, ascii-starts, ascii-sign, ascii-sign-inside, behind-sign}
use Rattle.token.proofs.walk.Words.{behind-here, word-inside}
use Rattle.token.proofs.walk.Runs.{run-kept}
open text-laws use {run-done}

-- ---- an identifier or a keyword, which ends at e

module _ {s : List ℕ} {x : Stand} (g : Good s x) (a : idStart (from s x.at) ≡ true) where
  pub name-inside : x.at < length s
  name-inside = head-inside isIdStart s x.at a

  name-clear : opensComment (from s x.at) ≡ false
  name-clear = let k = clear-head isIdStart slash-no-start (from s x.at) a in rw (k.line, k.block)

  module _ (e : ℕ) (l : e ≤ length s) (r : from s e ≡ afterIdent false (drop 1 (from s x.at))) where
    pub name-leaves : LeftTo s x.at e
    name-leaves = let h = name-inside in left-to s x.at e _ (omega arith) l r (ident-left (from s x.at) a)

    module _ (z : quote (from s e) ≡ false) where
      name-found : (o : Option Kw) → wordOf (codesTo (from s x.at) (from s e)) ≡ o → tokenTo (kindOr tk.Ident o) (cursorAt e) ≡ pieceOf (length s) (scan (length s) (from s x.at))
      name-found o q =
          token-at s (kindOr tk.Ident o) (cursorAt e) (from s e) l refl
          ∙ ap (pieceOf (length s)) (sym (word-at s x.at name-inside name-clear a ∙ scan-word (length s) (from s x.at) (from s e) o r q ∙ by o))
        where
          by : (o : Option Kw) → wordOr (length s) (from s x.at) (from s e) o ≡ Found.token (kindOr tk.Ident o) (from s e)
          by none = not-prefixed (length s) tk.Ident (from s x.at) (from s e) z
          by (some k) = refl

      pub step-whole-name : {c : Counts} → Counted x c → (out next : List ℕ)
          → next ≡ storedIf out x.bytes (byForm (plainForm (nameNumber s x.class.number x.at e)) x.at e x.cut) → Steps s x c out (tokenBehind x (hereOf s e) headLength) c next
      unfolding values nameNumber numberOr
      step-whole-name u out next q =
          let o = wordOf (codesTo (from s x.at) (from s e)) in
          let n : nameNumber s x.class.number x.at e ≡ numberOr 1 o =
          by-test (eqb x.class.number keywordClass) (λ p. rw p) (λ p. rw (p, word-none s x.at e name-leaves (by-class g (λ z. eqb z keywordClass) p))) in
          step-bare g u name-inside (kindOr tk.Ident o) e (name-found o refl) (kind-bare tk.Ident refl o) out next
          (q ∙ ap (λ y. storedIf out x.bytes (byForm (plainForm y) x.at e x.cut)) (n ∙ kind-counts tk.Ident o))

-- ---- an operator, which ends at e

module _ {s : List ℕ} {x : Stand} (g : Good s x) (v : opSign (from s x.at) ≡ true) (y : opensComment (from s x.at) ≡ false)
    (e : Here) (l : e.at ≤ length s) (r : from s e.at ≡ afterRun freeSign (from s x.at)) (w : opensComment (from s e.at) ≡ false → eqb e.class.number slashClass ≡ false) where
  signs-inside : x.at < length s
  signs-inside = head-inside _ s x.at v

  pub signs-leave : LeftTo s x.at e.at
  signs-leave = let h = signs-inside in left-to s x.at e.at _ (omega arith) l r (run-left freeSign (from s x.at))

  module _ (class-is : e.class.number ≡ classAt s e.at) where
    -- a keyword begins with one of four signs only, and is none before a comment
    pub signs-count : operatorNumber s x.class.number x.at e ≡ kindNumber (kindOr tk.OpId (runBefore (from s x.at) (from s e.at)))
    unfolding operatorNumber numberOr
    signs-count = go (opensComment (from s e.at)) refl (eqb x.class.number signKeywordClass) refl
      where
        go : (z : Bool) → opensComment (from s e.at) ≡ z → (b : Bool) → eqb x.class.number signKeywordClass ≡ b
            → cond (not b || eqb e.class.number slashClass) 2 (numberOr 2 (runOf (codesTo (from s x.at) (from s e.at))))
            ≡ kindNumber (kindOr tk.OpId (cond z none (runOf (codesTo (from s x.at) (from s e.at)))))
        go true z true f =
            let u = ap (λ z. eqb z slashClass) class-is ∙ (and-both (eqb (classAt s e.at) slashClass) _ (sym (comment-class s e.at) ∙ z)).0 in
            ap (λ y. cond y 2 (numberOr 2 (runOf (codesTo (from s x.at) (from s e.at))))) u
        go true z false f = refl
        go false z true f = ap (λ y. cond y 2 (numberOr 2 (runOf (codesTo (from s x.at) (from s e.at))))) (w z) ∙ kind-counts tk.OpId _
        go false z false f = sym (ap (λ o. kindNumber (kindOr tk.OpId o)) (run-none s x.at e.at signs-leave (by-class g (λ z. eqb z signKeywordClass) f)))

    pub step-signs : {c : Counts} → Counted x c → (out next : List ℕ) → next ≡ storedIf out x.bytes (byForm (plainForm (operatorNumber s x.class.number x.at e)) x.at e.at x.cut)
        → Steps s x c out (tokenBehind x (hereOf s e.at) headLength) c next
    unfolding values
    step-signs u out next z =
        let o = runBefore (from s x.at) (from s e.at) in
        step-bare g u signs-inside (kindOr tk.OpId o) e.at
        (token-at s (kindOr tk.OpId o) (cursorAt e.at) (from s e.at) l refl ∙ ap (pieceOf (length s)) (sym (operator-at s x.at signs-inside y v ∙ scan-before (from s x.at) (from s e.at) r)))
        (kind-bare tk.OpId refl o) out next (z ∙ ap (λ j. storedIf out x.bytes (byForm (plainForm j) x.at e.at x.cut)) signs-count)

-- ---- as the loop meets them: e is where the characters of the word end, or of the run, that stand from `next` on, behind the first one

pub record Named (s : List ℕ) (x : Stand) (e : Here) : Type 0 where
  pub on : x.at < e.at
  pub within : e.at ≤ length s
  pub left : LeftTo s x.at e.at
  pub steps : {c : Counts} → Counted x c → (out next : List ℕ)
      → next ≡ storedIf out x.bytes (byForm (plainForm (nameNumber s x.class.number x.at e.at)) x.at e.at x.cut) → Steps s x c out (tokenBehind x e headLength) c next

module _ {s : List ℕ} {x : Stand} (g : Good s x) (a : idStart (from s x.at) ≡ true) (at : ℕ) (l : at ≤ length s) (t : from s at ≡ drop 1 (from s x.at))
    (e : Here) (q : e ≡ hereOf s (place (length s) (afterRun wordChar (from s at)))) where
  later : x.at < at
  later = next-later s x.at at (name-inside g a) l t

  at-is : e.at ≡ place (length s) (afterRun wordChar (from s at))
  at-is = ap (λ (z : Here). z.at) q

  pub name-bound : (x.at < e.at) × (e.at ≤ length s)
  name-bound = let b = whole-bounds s x.at at later l in (omega (arith, later, b.0, at-is), omega (arith, b.1, at-is))

  pub name-named : wholeGoesOn s x.at e ≡ false → Named s x e
  name-named m =
      let b = whole-bounds s x.at at later l in
      let k : e.class.number ≡ classAt s e.at = ap (λ (z : Here). z.class.number) q ∙ ap (classAt s) (sym at-is) in
      let n : wordChar (from s e.at) ≡ false = ap (λ j. wordChar (from s j)) at-is ∙ b.2 in
      let u = lowBefore s x.at e.at in
      let r : from s e.at ≡ afterIdent false (drop 1 (from s x.at)) =
      sym (whole-over s e k n u m) ∙ ap (λ j. afterIdent (lowBefore s x.at j) (from s j)) at-is ∙ whole-kept s x.at at later l ∙ first_read s x.at at (name-inside g a) l t in
      let z = whole-no-quote s e k n u m in
      record {
        on = name-bound.0;
        within = name-bound.1;
        left = name-leaves g a e.at name-bound.1 r;
        steps = λ c out next f. behind-here e (place (length s) (afterRun wordChar (from s at))) q (step-whole-name g a e.at name-bound.1 r z c out next f);
      }

pub record Signed (s : List ℕ) (x : Stand) (e : Here) : Type 0 where
  pub on : x.at < e.at
  pub within : e.at ≤ length s
  pub left : LeftTo s x.at e.at
  pub steps : {c : Counts} → Counted x c → (out next : List ℕ)
      → next ≡ storedIf out x.bytes (byForm (plainForm (operatorNumber s x.class.number x.at e)) x.at e.at x.cut) → Steps s x c out (tokenBehind x e headLength) c next

module _ {s : List ℕ} {x : Stand} (g : Good s x) (v : opSign (from s x.at) ≡ true) (y : opensComment (from s x.at) ≡ false) (at : ℕ) (l : at ≤ length s)
    (t : from s at ≡ drop 1 (from s x.at)) (e : Here) (q : e ≡ hereOf s (place (length s) (afterRun runChar (from s at)))) where
  sign-inside : x.at < length s
  sign-inside = head-inside isOpSign s x.at v

  further : x.at < at
  further = next-later s x.at at sign-inside l t

  same : afterRun freeSign (from s at) ≡ afterRun freeSign (from s x.at)
  same = sign-next s x.at v y at t

  ends-at : e.at ≡ place (length s) (afterRun runChar (from s at))
  ends-at = ap (λ (z : Here). z.at) q

  pub signs-bound : (x.at < e.at) × (e.at ≤ length s)
  signs-bound = let b = signs-bounds s x.at at l same in (omega (arith, further, b.0, ends-at), omega (arith, b.1, ends-at))

  pub signs-signed : wholeRunGoesOn s e ≡ false → Signed s x e
  signs-signed m =
      let r = signs-over s x.at at l same e q m in
      let w = signs-no-slash s x.at at l same e q m in
      let k : e.class.number ≡ classAt s e.at = ap (λ (z : Here). z.class.number) q ∙ ap (classAt s) (sym ends-at) in
      record {
        on = signs-bound.0;
        within = signs-bound.1;
        left = signs-leave g v y e signs-bound.1 r w;
        steps = λ c out next f. behind-here e (place (length s) (afterRun runChar (from s at))) q (step-signs g v y e signs-bound.1 r w k c out next f);
      }

-- one that begins with a sign of ASCII other than `/`
pub run-starts : {s : List ℕ} {x : Stand} → Good s x → inRun x.class.number ≡ true
    → (opSign (from s x.at) ≡ true) × (opensComment (from s x.at) ≡ false) × (x.at + 1 ≤ length s) × (from s (x.at + 1) ≡ drop 1 (from s x.at))
run-starts {s} {x} g k =
    let r = by-class g inRun k in
    let l = leb-true 160 x.class.number k in
    let z : isSign x.class.number ≡ true = le-leb slashClass x.class.number (omega arith) in
    let h = ascii-sign-inside g z in
    (ascii-sign g z, run-clear s x.at r, omega arith, behind-sign g z)

-- ---- words and runs that begin with ASCII, read on from where it ends

module _ {s : List ℕ} {x : Stand} (g : Good s x) (a : upToBlank x.class.number ≡ false) (b : startsWord x.class.number ≡ true)
    (i : Here) (z : i ≡ hereOf s (runTo inWord s (x.at + 1))) where
  read : (i.at ≤ length s) × (hereOf s (place (length s) (afterRun wordChar (from s i.at))) ≡ hereOf s (place (length s) (afterRun wordChar (from s (x.at + 1)))))
  read = read-on word-kind s (x.at + 1) (omega (arith, word-inside g a b)) i.at (ap (λ (y : Here). y.at) z)

  pub name-within-on : i.at ≤ length s
  name-within-on = read.0

  module _ (e : Here) (q : e ≡ hereOf s (place (length s) (afterRun wordChar (from s i.at)))) where
    pub name-ends-on : e ≡ hereOf s (place (length s) (afterRun wordChar (from s (x.at + 1))))
    name-ends-on = q ∙ read.1

    pub name-bound-on : (x.at < e.at) × (e.at ≤ length s)
    name-bound-on = let t = ascii-starts g a b in name-bound g t.0 (x.at + 1) (omega (arith, word-inside g a b)) t.1 e name-ends-on

    pub name-named-on : wholeGoesOn s x.at e ≡ false → Named s x e
    name-named-on = let t = ascii-starts g a b in name-named g t.0 (x.at + 1) (omega (arith, word-inside g a b)) t.1 e name-ends-on

module _ {s : List ℕ} {x : Stand} (g : Good s x) (k : inRun x.class.number ≡ true) (i : Here) (z : i ≡ hereOf s (runTo inRun s (x.at + 1))) where
  read-run : (i.at ≤ length s) × (hereOf s (place (length s) (afterRun runChar (from s i.at))) ≡ hereOf s (place (length s) (afterRun runChar (from s (x.at + 1)))))
  read-run = read-on run-kind s (x.at + 1) (run-starts g k).2 i.at (ap (λ (y : Here). y.at) z)

  pub signs-within-on : i.at ≤ length s
  signs-within-on = read-run.0

  module _ (e : Here) (q : e ≡ hereOf s (place (length s) (afterRun runChar (from s i.at)))) where
    pub signs-ends-on : e ≡ hereOf s (place (length s) (afterRun runChar (from s (x.at + 1))))
    signs-ends-on = q ∙ read-run.1

    pub signs-bound-on : (x.at < e.at) × (e.at ≤ length s)
    signs-bound-on = let t = run-starts g k in signs-bound g t.0 t.1 (x.at + 1) t.2 t.3 e signs-ends-on

    pub signs-signed-on : wholeRunGoesOn s e ≡ false → Signed s x e
    signs-signed-on = let t = run-starts g k in signs-signed g t.0 t.1 (x.at + 1) t.2 t.3 e signs-ends-on

-- one that goes on with a `/` behind its first signs, all of ASCII: it ends where no free sign follows
module _ {s : List ℕ} {x : Stand} (g : Good s x) (k : inRun x.class.number ≡ true) (e : Here) (q : e ≡ hereOf s (runTo inRun s (x.at + 1)))
    (m : runGoesOn s (runTo inRun s (x.at + 1)) ≡ true) (n : eqb e.class.number wideClass ≡ false) where
  slash-sign : asciiSign true s e.at ≡ true
  slash-sign =
      let w = and-both (inOperator (classAt s e.at)) _ (ap (runGoesOn s) (here-is s e _ q).0 ∙ m) in
      let v : eqb (classAt s e.at) wideClass ≡ false = ap (λ c. eqb c wideClass) (sym (here-is s e _ q).1) ∙ n in
      let t : isSign (classAt s e.at) ≡ true = by-test (isSign (classAt s e.at)) (λ p. p) (λ p. clash (sym (class-operator (get_or s e.at 0)) ∙ rw (w.0, v, p))) in
      rw t w.1

  pub slash-within : e.at + 1 ≤ length s
  slash-within = let a = ascii-on s e.at true slash-sign in omega (arith, a.0)

  module _ (p : ℕ) (l : p ≤ length s) (r : from s p ≡ afterRun freeSign (from s (e.at + 1))) (f : Here) (z : f ≡ hereOf s p) where
    slash-rest : from s f.at ≡ afterRun freeSign (from s x.at)
    slash-rest =
        ap (from s) (here-is s f p z).0 ∙ r ∙ (ascii-on s e.at true slash-sign).1 ∙ (run-kept s x.at (by-class g inRun k) e.at (here-is s e _ q).0).2

    slash-no-slash : opensComment (from s f.at) ≡ false → eqb f.class.number slashClass ≡ false
    slash-no-slash o =
        by-test (eqb f.class.number slashClass) (λ p.
        let v = sign-here s f.at (ap isSign (sym (here-is s f _ z).1 ∙ eqb-true _ slashClass p)) in
        clash (sym (ap freeSign slash-rest ∙ run-done freeSign refl (from s x.at)) ∙ ap₂ (λ a b. a && not b) v o)) (λ p. p)

    pub slash-signed : Signed s x f
    slash-signed =
        let a = slash-within in
        let b = run-kept s x.at (by-class g inRun k) e.at (here-is s e _ q).0 in
        let h = here-is s f p z in
        let i = left-to s (e.at + 1) p _ a l r (run-left freeSign (from s (e.at + 1))) in
        let t = run-starts g k in
        let y : f.at ≤ length s = omega (arith, h.0, l) in
        record {
          on = omega (arith, b.0, i.0, h.0);
          within = y;
          left = signs-leave g t.0 t.1 f y slash-rest slash-no-slash;
          steps = λ c out next u. behind-here f p z (step-signs g t.0 t.1 f y slash-rest slash-no-slash h.1 c out next u);
        }
