-- Words and runs of operator signs with all their characters: where they end, the identifier or the operator does, if nothing behind makes more of it.
use Rattle.std.proofs.Common.{⊎_elim}
use Rattle.std.proofs.lemmas.Bool.{cases_eq, cases_lt}
use Rattle.chars.specs.code.Text.{codeAt}
use Rattle.token.proofs.lexer.Words.{◌≡◌, refl, sym, ◌∙◌, ap, ap₂, subst, ℕ, zero, suc, ◌+◌, ◌-◌, ◌≤◌, ◌<◌, Bool, true, false, cond, not, ◌&&◌, ◌||◌, and-true, and-false, or-true, or-false, not-true, not-false, List, [], length, get_or, eqb, eqb-true, leb-false, le-leb, lt-leb, ltb, ltb-true, ltb-false, lt-ltb, ne_eqb, arith, clash, and-both, or-neither, oneOf, isIdChar, Text, from, place, idChar, charEnd, afterRun, text-laws, isAny, quote, opSign, freeSign, opensComment, afterIdent, classAt, asksMore, quoteClass, slashClass, wideClass, hereOf, lowBefore, wordChar, runChar, Here, by-test}
use Rattle.token.proofs.byte_class.Laws.{class-slash}
use Rattle.token.proofs.cursor.Bytes.{any-byte}
use Rattle.token.proofs.ident.Laws.{rest-id, rest-none, pass-under}
use Rattle.token.proofs.ident.Signs.{low-byte, comment-class, sign-text}
use Rattle.token.proofs.names.Laws.{quote-class}
open text-laws use {at-char, at-end, ascii-next, next-on, place-from, run-done, run-next, run-place, run-stays, wide-tail}

-- ---- what holds at a run's start, and behind each character that it passes, holds where it ends
module _ (p : Text → Bool) (z : p [] ≡ false) (s : List ℕ) (K : ℕ → Type 0) (on : (j : ℕ) → j < length s → p (from s j) ≡ true → K j → K (charEnd s j)) where
  halts : (j : ℕ) → j ≤ length s → K j → p (from s j) ≡ false → K (place (length s) (afterRun p (from s j)))
  halts j h k e = subst K (sym (ap (place (length s)) (run-stays p (from s j) e) ∙ place-from s j h)) k

  inside : (j : ℕ) → p (from s j) ≡ true → j < length s
  inside j e = by-test (ltb j (length s)) (ltb-true j (length s)) (λ x. absurd (clash (sym (ap p (at-end s j (ltb-false j (length s) x)) ∙ z) ∙ e)))

  more : (j : ℕ) → p (from s j) ≡ true → K (place (length s) (afterRun p (from s (charEnd s j)))) → K (place (length s) (afterRun p (from s j)))
  more j e r = subst (λ t. K (place (length s) t)) (run-next p s j (inside j e) e) r

  keep : (n j : ℕ) → length s - j ≤ n → j ≤ length s → K j → K (place (length s) (afterRun p (from s j)))
  keep zero j m h k = by-test (p (from s j)) (λ e. absurd (let l = inside j e in omega arith)) (halts j h k)
  keep (suc n) j m h k =
      by-test (p (from s j)) (λ e. let a = next-on s j (inside j e) in more j e (keep n (charEnd s j) (omega (arith, inside j e, a.0)) a.1 (on j (inside j e) e k))) (halts j h k)

  pub run-keep : (j : ℕ) → j ≤ length s → K j → K (place (length s) (afterRun p (from s j)))
  run-keep j h k = keep (length s - j) j (omega arith) h k

-- ---- identifiers: a word with all its characters

module _ (s : List ℕ) (i at : ℕ) (h : i < at) (l : at ≤ length s) where
  -- behind each character of it the identifier's rest is the same, whether a `_` came last or not
  record Rest (j : ℕ) : Type 0 where
    since : at ≤ j
    rest : afterIdent (lowBefore s i j) (from s j) ≡ afterIdent (lowBefore s i at) (from s at)

  low-last : (j e : ℕ) → at ≤ j → j < e → (b : Bool) → eqb (get_or s (e - 1) 0) 0x5F ≡ b → lowBefore s i e ≡ b
  low-last j e k m b q = ap (λ x. x && ltb i (e - 1)) q ∙ ap (λ x. b && x) (lt-ltb i (e - 1) (omega arith)) ∙ and-true b

  on : (j : ℕ) → j < length s → wordChar (from s j) ≡ true → Rest j → Rest (charEnd s j)
  on j m e r = record { since = omega (arith, (next-on s j m).0, r.since); rest = go ∙ r.rest }
    where
      -- an id character
      by-id : isIdChar (codeAt s j) ≡ true → eqb (get_or s (charEnd s j - 1) 0) 0x5F ≡ false → afterIdent (lowBefore s i (charEnd s j)) (from s (charEnd s j)) ≡ afterIdent (lowBefore s i j) (from s j)
      by-id y q =
          ap (λ u. afterIdent u (from s (charEnd s j))) (low-last j (charEnd s j) r.since (next-on s j m).0 false q)
          ∙ sym (ap (afterIdent (lowBefore s i j)) (at-char s j m) ∙ rest-id (lowBefore s i j) _ (from s (charEnd s j)) y)

      -- its last byte is no `_`
      last-wide : 0x80 ≤ get_or s j 0 → eqb (get_or s (charEnd s j - 1) 0) 0x5F ≡ false
      last-wide k =
          let n = next-on s j m in
          ne_eqb (get_or s (charEnd s j - 1) 0) 0x5F (λ z. ⊎_elim (λ (a : charEnd s j - 1 ≡ j). let b = ap (λ x. get_or s x 0) a in omega arith)
          (λ a. let t = wide-tail s j m (charEnd s j - 1) (omega (arith, n.0, a)) (omega (arith, n.0)) in omega (arith, t.0, z)) (cases_eq (charEnd s j - 1) j))

      id-or : idChar (from s j) || isAny "_" (from s j) ≡ true → isAny "_" (from s j) ≡ false → isIdChar (codeAt s j) ≡ true
      id-or w n = sym (ap idChar (at-char s j m)) ∙ sym (or-false (idChar (from s j))) ∙ ap (λ z. idChar (from s j) || z) (sym n) ∙ w

      under : isAny "_" (from s j) ≡ eqb (get_or s j 0) 0x5F
      under = any-byte "_" refl s j ∙ or-false (eqb (get_or s j 0) 0x5F)

      low-case : get_or s j 0 < 0x80 → afterIdent (lowBefore s i (charEnd s j)) (from s (charEnd s j)) ≡ afterIdent (lowBefore s i j) (from s j)
      low-case k =
          let n = ascii-next s j m k in
          let z : charEnd s j - 1 ≡ j = omega arith in
          by-test (eqb (get_or s j 0) 0x5F) (λ q.
          ap (λ u. afterIdent u (from s (charEnd s j))) (low-last j (charEnd s j) r.since (omega arith) true (ap (λ x. eqb (get_or s x 0) 0x5F) z ∙ q))
          ∙ ap (λ x. afterIdent true (from s x)) n ∙ pass-under s j (lowBefore s i j) (eqb-true (get_or s j 0) 0x5F q))
          (λ q. by-id (id-or e (under ∙ q)) (ap (λ x. eqb (get_or s x 0) 0x5F) z ∙ q))

      go : afterIdent (lowBefore s i (charEnd s j)) (from s (charEnd s j)) ≡ afterIdent (lowBefore s i j) (from s j)
      go = ⊎_elim low-case (λ k. by-id (id-or e (under ∙ ne_eqb (get_or s j 0) 0x5F (λ q. omega arith))) (last-wide k)) (cases_lt (get_or s j 0) 0x80)

  abbrev end : ℕ
  end = place (length s) (afterRun wordChar (from s at))

  pub whole-kept : afterIdent (lowBefore s i end) (from s end) ≡ afterIdent (lowBefore s i at) (from s at)
  whole-kept = let k = run-keep wordChar refl s Rest on at l (record { since = omega arith; rest = refl }) in k.rest

  pub whole-bounds : (at ≤ end) × (end ≤ length s) × (wordChar (from s end) ≡ false)
  whole-bounds = let p = run-place wordChar s at end l refl in (p.0, p.1, ap wordChar p.2 ∙ run-done wordChar refl (from s at))

-- where it ends, and nothing behind it makes more of it, the identifier ends, and no quote stands
module _ (s : List ℕ) (e : Here) (k : e.class.number ≡ classAt s e.at) (n : wordChar (from s e.at) ≡ false) (u : Bool)
    (m : asksMore e.class.number && (eqb e.class.number quoteClass || u) ≡ false) where
  rest-over : afterIdent u (from s e.at) ≡ cond u (afterRun opSign (from s e.at)) (from s e.at)
  rest-over = let o = or-neither (idChar (from s e.at)) (isAny "_" (from s e.at)) n in rest-none u (from s e.at) o.0 o.1

  asks : u ≡ true → e.class.number < 128
  asks q = leb-false 128 e.class.number (sym (and-true (asksMore e.class.number)) ∙ ap (λ z. asksMore e.class.number && z) (sym (or-true (eqb e.class.number quoteClass))) ∙ ap (λ z. asksMore e.class.number && (eqb e.class.number quoteClass || z)) (sym q) ∙ m)

  no-sign : e.class.number < 128 → opSign (from s e.at) ≡ false
  no-sign h =
      let w : eqb (classAt s e.at) wideClass ≡ false = ne_eqb (classAt s e.at) wideClass (λ f. absurd (omega arith)) in
      sign-text s e.at (low-byte (get_or s e.at 0) w) ∙ lt-leb slashClass (classAt s e.at) (omega arith)

  pub whole-over : afterIdent u (from s e.at) ≡ from s e.at
  whole-over = rest-over ∙ go u refl
    where
      go : (v : Bool) → u ≡ v → cond v (afterRun opSign (from s e.at)) (from s e.at) ≡ from s e.at
      go true q = run-stays opSign (from s e.at) (no-sign (asks q))
      go false q = refl

  pub whole-no-quote : quote (from s e.at) ≡ false
  whole-no-quote =
      quote-class s e.at ∙ ap (λ z. eqb z quoteClass) (sym k)
      ∙ by-test (eqb e.class.number quoteClass) (λ q. let z = eqb-true e.class.number quoteClass q in clash (sym m ∙ rw (q, le-leb 128 e.class.number (omega arith)))) (λ q. q)

-- ---- operators: a run with all its characters, behind the first sign of one that begins no comment

module _ (s : List ℕ) (i at : ℕ) (l : at ≤ length s) (a : afterRun freeSign (from s at) ≡ afterRun freeSign (from s i)) where
  clear : (j : ℕ) → isAny "/" (from s j) ≡ false → opensComment (from s j) ≡ false
  clear j n = comment-class s j ∙ ap (λ z. z && oneOf "*/" (get_or s (j + 1) 0)) (class-slash (get_or s j 0) ∙ sym (any-byte "/" refl s j) ∙ n)

  abbrev stop : ℕ
  stop = place (length s) (afterRun runChar (from s at))

  pub signs-kept : afterRun freeSign (from s stop) ≡ afterRun freeSign (from s i)
  signs-kept = run-keep runChar refl s (λ j. afterRun freeSign (from s j) ≡ afterRun freeSign (from s i)) (λ j m e r.
      let b = and-both (opSign (from s j)) (not (isAny "/" (from s j))) e in
      run-next freeSign s j m (ap₂ (λ x y. x && not y) b.0 (clear j (not-true (isAny "/" (from s j)) b.1))) ∙ r) at l a

  pub signs-bounds : (at ≤ stop) × (stop ≤ length s) × (runChar (from s stop) ≡ false)
  signs-bounds = let p = run-place runChar s at stop l refl in (p.0, p.1, ap runChar p.2 ∙ run-done runChar refl (from s at))

  -- where nothing behind it makes more of it, the operator ends
  module _ (e : Here) (y : e ≡ hereOf s stop) (m : eqb e.class.number slashClass && not (oneOf "*/" (get_or s (e.at + 1) 0)) ≡ false) where
    at-is : e.at ≡ stop
    at-is = ap (λ (z : Here). z.at) y

    class-there : e.class.number ≡ classAt s e.at
    class-there = ap (λ (z : Here). z.class.number) y ∙ ap (classAt s) (sym at-is)

    slash : eqb (classAt s e.at) slashClass ≡ isAny "/" (from s e.at)
    slash = class-slash (get_or s e.at 0) ∙ sym (any-byte "/" refl s e.at)

    no-free : freeSign (from s e.at) ≡ false
    no-free =
        by-test (isAny "/" (from s e.at)) (λ q.
        let t : eqb e.class.number slashClass ≡ true = ap (λ z. eqb z slashClass) class-there ∙ slash ∙ q in
        let o : oneOf "*/" (get_or s (e.at + 1) 0) ≡ true = not-false (oneOf "*/" (get_or s (e.at + 1) 0)) (sym (ap (λ z. z && not (oneOf "*/" (get_or s (e.at + 1) 0))) t) ∙ m) in
        ap (λ b. opSign (from s e.at) && not b) (comment-class s e.at ∙ ap₂ (λ x z. x && z) (slash ∙ q) o) ∙ and-false (opSign (from s e.at)))
        (λ q. ap (λ z. z && not (opensComment (from s e.at))) (sym (and-true (opSign (from s e.at))) ∙ ap (λ z. opSign (from s e.at) && not z) (sym q) ∙ ap (λ j. runChar (from s j)) at-is ∙ signs-bounds.2))

    pub signs-over : from s e.at ≡ afterRun freeSign (from s i)
    signs-over = sym (run-stays freeSign (from s e.at) no-free) ∙ ap (λ j. afterRun freeSign (from s j)) at-is ∙ signs-kept

    -- where no comment follows no `/` does
    pub signs-no-slash : opensComment (from s e.at) ≡ false → eqb e.class.number slashClass ≡ false
    signs-no-slash z =
        by-test (eqb e.class.number slashClass) (λ t.
        let o : oneOf "*/" (get_or s (e.at + 1) 0) ≡ true = not-false (oneOf "*/" (get_or s (e.at + 1) 0)) (sym (ap (λ z. z && not (oneOf "*/" (get_or s (e.at + 1) 0))) t) ∙ m) in
        clash (sym z ∙ comment-class s e.at ∙ ap₂ (λ x y. x && y) (ap (λ z. eqb z slashClass) (sym class-there) ∙ t) o)) (λ t. t)
