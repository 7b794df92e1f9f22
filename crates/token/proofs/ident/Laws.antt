-- How identifiers, operators and backticks are read place by place.
use Rattle.token.proofs.lexer.Laws.{drop-place}
use Rattle.token.proofs.lexer.Words.{ℕ, ◌+◌, ◌-◌, ◌≤◌, ◌<◌, ◌≡◌, refl, sym, ◌∙◌, ap, ap₂, Bool, true, false, cond, ◌&&◌, ◌||◌, or-false, and-false, List, [], ◌∷◌, Option, length, drop, get_or, get_or-eq_default, eqb, ltb, arith, ltb-true, ltb-false, ne_eqb, oneOf, Char, Text, from, place, headIs, idStart, idChar, charEnd, afterRun, isIdChar, clash, Suffix, text-laws, under-no-id, isAny, begins, quote, opSign, opensComment, notBacktick, wordOf, Found, afterIdent, orPrefixed, prefixedOf, closeString, codesTo, wordOr, scanIdent, cursorAt, pieceOf, tokenTo, Cursor, Kw, TokenKind, lowBefore, by-test, or-true, code-is}
use Rattle.token.proofs.cursor.Wide.{byte-by-byte}
use Rattle.token.proofs.cursor.Bytes.{any-byte, inside, one-byte}
use Rattle.token.proofs.theorems.Runs.{after-next, after-stop, run-after, run-suffix}
use Rattle.token.proofs.gap.Laws.{opens-line, opens-block}
use Rattle.token.proofs.theorems.Idents.{ident-finds, start-rest, rest-suffix}
open text-laws use {wide-tail, run-stays, run-done, run-place, suffix-trans, drop-suffix, at-char, at-ascii, at-end, next-on, place-from}

-- ---- places

-- where a character stands the script goes on
pub head-inside : (p : ℕ → Bool) (s : List ℕ) (i : ℕ) → headIs p (from s i) ≡ true → i < length s
head-inside p s i e =
    by-test (ltb i (length s)) (ltb-true i (length s)) (λ h. clash (sym (ap (headIs p) (at-end s i (ltb-false i (length s) h))) ∙ e))

-- two places in a text, the second past some of its characters
pub left-to : (s : List ℕ) (i j : ℕ) (r : Text) → i ≤ length s → j ≤ length s → from s j ≡ r → Suffix r (from s i)
    → (i ≤ j) × (j ≤ length s) × Suffix (from s j) (from s i)
left-to s i j r h k e v =
    let a : i ≤ place (length s) r = rw v.rest-is (drop-place (length (from s i) - length r) s i h).0 in
    let b = place-from s j k in
    let d = ap (place (length s)) e in
    (omega arith, k, rw e v)

pub run-left : (p : Text → Bool) (t : Text) → Suffix (afterRun p t) t
run-left p t = run-suffix p (run-after p t)

-- ---- one character of a class

module _ (p : ℕ → Bool) (s : List ℕ) (i : ℕ) where
  -- below 0x80 the byte decides; past the end it counts as 0
  pub head-low : p 0 ≡ false → get_or s i 0 < 0x80 → headIs p (from s i) ≡ p (get_or s i 0)
  head-low z l =
      by-test (ltb i (length s)) (λ e. ap (headIs p) (at-ascii s i (ltb-true i (length s) e) l)) (λ e.
      let h = ltb-false i (length s) e in ap (headIs p) (at-end s i h) ∙ sym (ap p (get_or-eq_default s 0 h) ∙ z))

-- two bytes tell whether a comment opens there
pub comment_bytes : (s : List ℕ) (i : ℕ) → opensComment (from s i) ≡ eqb (get_or s i 0) 0x2F && oneOf "*/" (get_or s (i + 1) 0)
comment_bytes s i = ap₂ ◌||◌ (opens-line s i) (opens-block s i) ∙ both (eqb (get_or s i 0) 0x2F) (eqb (get_or s (i + 1) 0) 0x2F) (eqb (get_or s (i + 1) 0) 0x2A)
  where
    both : (x p q : Bool) → (x && p) || (x && q) ≡ x && (q || (p || false))
    both false p q = refl
    both true true q = sym (or-true q)
    both true false q = sym (or-false q)

pub quote-byte : (s : List ℕ) (i : ℕ) → quote (from s i) ≡ eqb (get_or s i 0) 0x22
unfolding begins
quote-byte s i = one-byte 0x22 (omega arith) (omega arith) s i

-- ---- an identifier's rest

pub rest-id : (u : Bool) (c : Char) (t : Text) → isIdChar c.code ≡ true → afterIdent u (c ∷ t) ≡ afterIdent false t
unfolding afterIdent
rest-id u c t e = rw (e, afterIdent)

-- where neither stands, signs follow underscores
pub rest-none : (u : Bool) (t : Text) → idChar t ≡ false → isAny "_" t ≡ false → afterIdent u t ≡ cond u (afterRun opSign t) t
unfolding afterIdent afterRun
rest-none true [] e f = refl
rest-none false [] e f = refl
rest-none u (c ∷ t) e f = rw (e, f, afterIdent)

rest-more : (t : Text) → afterIdent false t ≡ afterIdent false (afterRun idChar t)
unfolding afterRun
rest-more [] = refl
rest-more (c ∷ t) =
    by-test (isIdChar c.code) (λ e. rest-id false c t e ∙ rest-more t ∙ ap (afterIdent false) (sym (after-next idChar c t e)))
    (λ e. ap (afterIdent false) (sym (after-stop idChar c t e)))

rest-ids : (u : Bool) (t : Text) → idChar t ≡ true → afterIdent u t ≡ afterIdent false (afterRun idChar t)
rest-ids u [] e = clash e
rest-ids u (c ∷ t) e = rest-id u c t e ∙ rest-more t ∙ ap (afterIdent false) (sym (after-next idChar c t e))

module _ (s : List ℕ) (i : ℕ) where
  pub under-inside : get_or s i 0 ≡ 0x5F → i < length s
  under-inside e = inside s i (omega arith)

  -- past one underscore
  pub pass-under : (u : Bool) → get_or s i 0 ≡ 0x5F → afterIdent true (from s (i + 1)) ≡ afterIdent u (from s i)
  unfolding afterIdent
  pass-under u e =
      let q = at-ascii s i (under-inside e) (omega arith) in
      sym (ap (afterIdent u) q ∙ rw (under-no-id (get_or s i 0) (rw e), e, afterIdent))

  -- past a run of id characters that ends at j
  pub pass-ids : (u : Bool) (j : ℕ) → i ≤ length s → j ≡ place (length s) (afterRun idChar (from s i)) → (j ≡ i → ⊥)
      → (i < j) × (j ≤ length s) × (afterIdent false (from s j) ≡ afterIdent u (from s i))
  pass-ids u j h e n =
      let r = run-place idChar s i j h e in
      let f : idChar (from s i) ≡ true =
      by-test (idChar (from s i)) (λ f. f) (λ f. absurd (n (e ∙ ap (place (length s)) (run-stays idChar (from s i) f) ∙ place-from s i h))) in
      (omega (arith, r.0, n), r.1, ap (afterIdent false) r.2 ∙ sym (rest-ids u (from s i) f))

  -- no chunk follows
  pub pass-none : (u : Bool) → i ≤ length s → i ≡ place (length s) (afterRun idChar (from s i)) → (get_or s i 0 ≡ 0x5F → ⊥)
      → afterIdent u (from s i) ≡ cond u (afterRun opSign (from s i)) (from s i)
  pass-none u h e n =
      let r = run-place idChar s i i h e in
      rest-none u (from s i) (ap idChar r.2 ∙ run-done idChar refl (from s i)) (any-byte "_" refl s i ∙ rw (ne_eqb (get_or s i 0) 0x5F n))

-- the place behind a character is a later one
next-is : (s : List ℕ) (i j : ℕ) → i < length s → j ≤ length s → from s j ≡ drop 1 (from s i) → j ≡ charEnd s i
next-is s i j h k e = sym (place-from s j k) ∙ ap (place (length s)) (e ∙ ap (drop 1) (at-char s i h)) ∙ place-from s (charEnd s i) (next-on s i h).1

pub next-later : (s : List ℕ) (i j : ℕ) → i < length s → j ≤ length s → from s j ≡ drop 1 (from s i) → i < j
next-later s i j h k e = omega (arith, (next-on s i h).0, next-is s i j h k e)

-- behind an identifier's first character no underscore came last
pub first_read : (s : List ℕ) (i j : ℕ) → i < length s → j ≤ length s → from s j ≡ drop 1 (from s i)
    → afterIdent (lowBefore s i j) (from s j) ≡ afterIdent false (drop 1 (from s i))
first_read s i j h k e =
    ap (λ u. afterIdent u (from s j)) (by-test (ltb i (j - 1)) (λ q.
    let l = ltb-true i (j - 1) q in
    let z = next-is s i j h k e in
    let w = (wide-tail s i h (j - 1) l (omega arith)).0 in
    rw (ne_eqb (get_or s (j - 1) 0) 0x5F (λ f. absurd (omega (arith, w, f))))) (λ q. rw q (and-false (eqb (get_or s (j - 1) 0) 0x5F))))
    ∙ ap (afterIdent false) e

-- ---- what is left of a text

pub ident-left : (t : Text) → idStart t ≡ true → Suffix (afterIdent false (drop 1 t)) t
ident-left t e = suffix-trans (rest-suffix (drop 1 t) (afterIdent false (drop 1 t)) (start-rest t (afterIdent false (drop 1 t)) (ident-finds t e).0).1) (drop-suffix 1 t)

-- what is found, by the text that is left and the keyword

pub scan-word : (n : ℕ) (s r : Text) (o : Option Kw) → r ≡ afterIdent false (drop 1 s) → wordOf (codesTo s r) ≡ o → scanIdent n s ≡ wordOr n s r o
unfolding scanIdent
scan-word n s r o e f = ap (λ t. wordOr n s t (wordOf (codesTo s t))) (sym e) ∙ ap (wordOr n s r) f

-- ---- backticks

module _ (s : List ℕ) (i : ℕ) (h : i < length s) where
  -- past a byte that is no backtick
  pub tick-on : (get_or s i 0 ≡ 0x60 → ⊥) → afterRun notBacktick (from s (i + 1)) ≡ afterRun notBacktick (from s i)
  tick-on n =
      by-test (ltb (get_or s i 0) 0x80) (λ e.
      let q = at-ascii s i h (ltb-true (get_or s i 0) 0x80 e) in
      sym (ap (afterRun notBacktick) q ∙ after-next notBacktick _ (from s (i + 1)) (rw (ne_eqb (get_or s i 0) 0x60 n)))) (λ e.
      byte-by-byte s (afterRun notBacktick) (λ c u w. after-next notBacktick c u (rw (ne_eqb c.code 0x60 (λ q. absurd (omega arith))))) i h (ltb-false (get_or s i 0) 0x80 e))

  pub tick-off : get_or s i 0 ≡ 0x60 → afterRun notBacktick (from s i) ≡ record { code = get_or s i 0; at = i } ∷ from s (i + 1)
  tick-off e =
      let q = at-ascii s i h (omega arith) in
      ap (afterRun notBacktick) q ∙ after-stop notBacktick _ (from s (i + 1)) (rw e)

-- from the opening backtick at i on
module _ (n : ℕ) (s : List ℕ) (i : ℕ) (e : isAny "`" (from s i) ≡ true) where
  tick-byte : get_or s i 0 ≡ 0x60
  tick-byte = code-is 0x60 _ (sym (any-byte "`" refl s i) ∙ e)

  pub tick-text : drop 1 (from s i) ≡ from s (i + 1)
  tick-text = let b = tick-byte in ap (drop 1) (at-ascii s i (inside s i (omega arith)) (omega arith))

pub tick-inside : (s : List ℕ) (i : ℕ) → isAny "`" (from s i) ≡ true → i < length s
tick-inside s i e = head-inside (oneOf "`") s i e

-- ---- the code's answers

pub is-prefixed : (n : ℕ) (k : TokenKind) (s r : Text) → quote r ≡ true → orPrefixed n k s r ≡ prefixedOf n s (closeString true r)
unfolding orPrefixed
is-prefixed n k s r e = rw e

pub not-prefixed : (n : ℕ) (k : TokenKind) (s r : Text) → quote r ≡ false → orPrefixed n k s r ≡ Found.token k r
unfolding orPrefixed
not-prefixed n k s r e = rw e

pub token-at : (s : List ℕ) (k : TokenKind) (c : Cursor) (r : Text) → c.at ≤ length s → from s c.at ≡ r → tokenTo k c ≡ pieceOf (length s) (Found.token k r)
unfolding pieceOf
token-at s k c r h e = ap (λ i. tokenTo k (cursorAt i)) (sym (place-from s c.at h) ∙ ap (place (length s)) e)
