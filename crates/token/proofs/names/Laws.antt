-- Words and runs of operator signs whose bytes end at e: what the identifier or the operator has, and what is left of it.
use Rattle.token.proofs.lexer.Words.{◌≡◌, refl, sym, ◌∙◌, ap, ℕ, ◌+◌, ◌-◌, ◌≤◌, ◌<◌, Bool, true, false, cond, not, ◌&&◌, ◌||◌, List, length, drop, get_or, eqb, ltb, ltb-true, lt-ltb, leb-false, leb-true, eqb-true, ne_eqb, le-leb, arith, not-true, and-true, or-false, oneOf, isIdChar, isOpSign, from, afterRun, and-both, or-neither, text-laws, class-laws, quote, opSign, freeSign, opensComment, afterIdent, classAt, quoteClass, wideClass, slashClass, inWord, asksMore, inOperator, isSign, inRun, asciiSign, runTo, lowBefore, by-test, Here, hereOf}
use Rattle.token.proofs.cursor.Bytes.{any-byte}
use Rattle.token.proofs.ident.Laws.{comment_bytes, head-low, quote-byte, rest-id, rest-none, pass-under, first_read}
use Rattle.token.proofs.ident.Signs.{run-over, low-byte, comment-class, sign-low, sign-text, ascii-on}
use Rattle.token.proofs.byte_class.Laws.{class-word, class-run, class-quote}
use Rattle.token.proofs.names.Bytes.{pass-keep, pass-within, pass-done, class-inside}
open text-laws use {at-ascii, run-stays}
open class-laws use {byte-id}

-- ---- identifiers

-- The word from the place j0 on, behind the first character of the identifier that begins at i.
module _ (s : List ℕ) (i j0 : ℕ) (h : i < length s) (l0 : i < j0) (k0 : j0 ≤ length s) (r0 : from s j0 ≡ drop 1 (from s i)) where
  abbrev end : ℕ
  end = runTo inWord s j0

  word-in : (j : ℕ) → inWord (classAt s j) ≡ true → j < length s
  word-in j e = class-inside s j inWord refl e

  -- behind a byte of the word the rest is that of the whole word; a `_` came last, or it did not
  record Kept (j : ℕ) : Type 0 where
    since : j0 ≤ j
    rest : afterIdent (lowBefore s i j) (from s j) ≡ afterIdent false (drop 1 (from s i))

  low-next : (j : ℕ) → j0 ≤ j → (b : Bool) → eqb (get_or s j 0) 0x5F ≡ b → lowBefore s i (j + 1) ≡ b
  low-next j l b e =
      let z : (j + 1) - 1 ≡ j = omega arith in
      ap (λ k. eqb (get_or s k 0) 0x5F && ltb i k) z ∙ ap (λ x. x && ltb i j) e ∙ ap (λ x. b && x) (lt-ltb i j (omega arith)) ∙ and-true b

  more : (j : ℕ) → j < length s → inWord (classAt s j) ≡ true → Kept j → Kept (j + 1)
  more j l e k =
      record {
        since = omega (arith, k.since);
        rest = by-test (eqb (get_or s j 0) 0x5F) (λ q.
            ap (λ u. afterIdent u (from s (j + 1))) (low-next j k.since true q) ∙ pass-under s j (lowBefore s i j) (eqb-true (get_or s j 0) 0x5F q)) (λ q.
            let b = get_or s j 0 in
            let w : ltb b 0x80 && isIdChar b ≡ true = sym (ap (λ x. (ltb b 0x80 && isIdChar b) || x) q ∙ or-false (ltb b 0x80 && isIdChar b)) ∙ sym (class-word b) ∙ e in
            let v = and-both (ltb b 0x80) (isIdChar b) w in
            ap (λ u. afterIdent u (from s (j + 1))) (low-next j k.since false q)
            ∙ sym (ap (afterIdent (lowBefore s i j)) (at-ascii s j l (ltb-true b 0x80 v.0)) ∙ rest-id (lowBefore s i j) _ (from s (j + 1)) v.1)) ∙ k.rest;
      }

  pub word-kept : afterIdent (lowBefore s i end) (from s end) ≡ afterIdent false (drop 1 (from s i))
  word-kept =
      let k = pass-keep (λ j. inWord (classAt s j)) s word-in j0 Kept more (record { since = omega arith; rest = first_read s i j0 h k0 r0 }) in k.rest

  pub word-bounds : (j0 ≤ end) × (end ≤ length s)
  word-bounds = pass-within (λ j. inWord (classAt s j)) s word-in j0 k0

pub word-done : (s : List ℕ) (j : ℕ) → inWord (classAt s (runTo inWord s j)) ≡ false
word-done s j = pass-done (λ k. inWord (classAt s k)) s (λ k e. class-inside s k inWord refl e) j

-- At the word's end neither an id character nor a `_` stands, if no character past ASCII does.
module _ (s : List ℕ) (e : Here) (h : e ≡ hereOf s e.at) (n : inWord e.class.number ≡ false) (u : Bool) where
  class : e.class.number ≡ classAt s e.at
  class = ap (λ (z : Here). z.class.number) h

  ended : get_or s e.at 0 < 0x80 → afterIdent u (from s e.at) ≡ cond u (afterRun opSign (from s e.at)) (from s e.at)
  ended l =
      let b = get_or s e.at 0 in
      let m = or-neither (ltb b 0x80 && isIdChar b) (eqb b 0x5F) (sym (class-word b) ∙ ap inWord (sym class) ∙ n) in
      let c = sym (ap (λ x. x && isIdChar b) (lt-ltb b 0x80 l)) ∙ m.0 in
      rest-none u (from s e.at) (head-low isIdChar s e.at (byte-id 0) l ∙ c) (any-byte "_" refl s e.at ∙ or-false (eqb b 0x5F) ∙ m.1)

  -- signs go on behind a `_`
  pub signs-go-on : isSign e.class.number ≡ true → u ≡ true → afterIdent u (from s e.at) ≡ afterRun opSign (from s e.at)
  signs-go-on k v = ended (sign-low s e.at (ap isSign (sym class) ∙ k)) ∙ ap (λ x. cond x (afterRun opSign (from s e.at)) (from s e.at)) v

  -- and nothing else
  pub word-over : eqb e.class.number wideClass ≡ false → isSign e.class.number && u ≡ false → afterIdent u (from s e.at) ≡ from s e.at
  word-over w k = ended l ∙ go u k
    where
      l : get_or s e.at 0 < 0x80
      l = low-byte _ (ap (λ z. eqb z wideClass) (sym class) ∙ w)

      go : (v : Bool) → isSign e.class.number && v ≡ false → cond v (afterRun opSign (from s e.at)) (from s e.at) ≡ from s e.at
      go false q = refl
      go true q = run-stays opSign (from s e.at) (sign-text s e.at l ∙ ap isSign (sym class) ∙ sym (and-true (isSign e.class.number)) ∙ q)

-- what makes no more of a word: neither past ASCII nor a quote, and a sign only where no `_` came last
pub no-more : (k : ℕ) (u : Bool) → asksMore k && (not (isSign k) || u) ≡ false → (eqb k wideClass ≡ false) × (isSign k && u ≡ false) × (eqb k quoteClass ≡ false)
no-more k u e =
    by-test (isSign k) (λ p.
    let m = leb-true slashClass k p in
    let w : u ≡ false = rw (le-leb 128 k (omega arith), p) at e in
    (ne_eqb k wideClass (λ f. absurd (omega arith)), rw (p, w), ne_eqb k quoteClass (λ f. absurd (omega arith)))) (λ p.
    let l = leb-false 128 k (sym (and-true (asksMore k)) ∙ (rw p at e)) in
    (ne_eqb k wideClass (λ f. absurd (omega arith)), rw p, ne_eqb k quoteClass (λ f. absurd (omega arith))))

-- a quote by its class
pub quote-class : (s : List ℕ) (e : ℕ) → quote (from s e) ≡ eqb (classAt s e) quoteClass
quote-class s e = quote-byte s e ∙ sym (or-false (eqb (get_or s e 0) 0x22)) ∙ sym (class-quote (get_or s e 0))

-- a place that the code handed back with the class there
pub here-is : (s : List ℕ) (e : Here) (j : ℕ) → e ≡ hereOf s j → (e.at ≡ j) × (e.class.number ≡ classAt s e.at)
here-is s e j q =
    let p : e.at ≡ j = ap (λ (z : Here). z.at) q in
    (p, ap (λ (z : Here). z.class.number) q ∙ ap (classAt s) (sym p))

pub run-here : (s : List ℕ) (j : ℕ) (e : Here) → e ≡ hereOf s j → e ≡ hereOf s e.at
run-here s j e q = q ∙ ap (hereOf s) (sym (ap (λ (z : Here). z.at) q))

-- A word from the place behind its first byte on, behind which nothing makes more of it: the identifier's end, and no quote.
pub word-rest : (s : List ℕ) (i : ℕ) → i < length s → get_or s i 0 < 0x80 → (e : Here) → e ≡ hereOf s (runTo inWord s (i + 1))
    → asksMore e.class.number && (not (isSign e.class.number) || lowBefore s i e.at) ≡ false
    → (e.at ≤ length s) × (from s e.at ≡ afterIdent false (from s (i + 1))) × (quote (from s e.at) ≡ false)
word-rest s i h l e q m =
    let p = here-is s e _ q in
    let r : from s (i + 1) ≡ drop 1 (from s i) = sym (ap (drop 1) (at-ascii s i h l)) in
    let v = no-more e.class.number (lowBefore s i e.at) m in (
      omega (arith, (word-bounds s i (i + 1) h (omega arith) (omega arith) r).1, p.0),
      sym (word-over s e (run-here s _ e q) (ap (λ (z : Here). inWord z.class.number) q ∙ word-done s (i + 1)) (lowBefore s i e.at) v.0 v.1)
          ∙ ap (λ j. afterIdent (lowBefore s i j) (from s j)) p.0 ∙ word-kept s i (i + 1) h (omega arith) (omega arith) r ∙ ap (afterIdent false) (sym r),
      quote-class s e.at ∙ ap (λ z. eqb z quoteClass) (sym p.1) ∙ v.2,
    )

-- ---- operators

-- one other than `/`
module _ (s : List ℕ) (j : ℕ) (r : inRun (classAt s j) ≡ true) where
  run-both : (ltb (get_or s j 0) 0x80 && isOpSign (get_or s j 0) ≡ true) × (not (eqb (get_or s j 0) 0x2F) ≡ true)
  run-both = and-both (ltb (get_or s j 0) 0x80 && isOpSign (get_or s j 0)) (not (eqb (get_or s j 0) 0x2F)) (sym (class-run (get_or s j 0)) ∙ r)

  pub run-clear : opensComment (from s j) ≡ false
  run-clear = comment_bytes s j ∙ ap (λ x. x && oneOf "*/" (get_or s (j + 1) 0)) (not-true (eqb (get_or s j 0) 0x2F) run-both.1)

  pub run-free : asciiSign true s j ≡ true
  run-free =
      let l = leb-true 160 (classAt s j) r in
      rw (le-leb slashClass (classAt s j) (omega arith)) (ap not (sym (comment-class s j) ∙ run-clear))

-- A run from the place behind its first sign on, behind which nothing makes more of it: the operator's end.
pub run-rest : (s : List ℕ) (i : ℕ) → i < length s → inRun (classAt s i) ≡ true → (e : Here) → e ≡ hereOf s (runTo inRun s (i + 1)) → inOperator e.class.number ≡ false
    → (i < e.at) × (e.at ≤ length s) × (from s e.at ≡ afterRun freeSign (from s i)) × (opensComment (from s e.at) ≡ false)
run-rest s i h r e t m =
    let v = here-is s e _ t in
    let q = v.0 in
    let a = ascii-on s i true (run-free s i r) in
    let b = pass-within (λ j. inRun (classAt s j)) s inside (i + 1) (omega arith) in
    let p : afterRun freeSign (from s e.at) ≡ afterRun freeSign (from s i) =
    rw q (pass-keep (λ j. inRun (classAt s j)) s inside (i + 1) (λ j. afterRun freeSign (from s j) ≡ afterRun freeSign (from s i))
    (λ j l f k. (ascii-on s j true (run-free s j f)).1 ∙ k) a.1) in
    let o = run-over s e.at (leb-false wideClass (classAt s e.at) (sym (ap inOperator v.1) ∙ m)) in
    (omega (arith, b.0, q), omega (arith, b.1, q), o.0 ∙ p, o.1)
  where
    inside : (j : ℕ) → inRun (classAt s j) ≡ true → j < length s
    inside j f = class-inside s j inRun refl f
