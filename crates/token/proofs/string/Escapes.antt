-- Escapes as the code reads them: digits are ASCII, so a run of them has as many bytes as characters.
use Rattle.token.proofs.cursor.Words.{ℕ, zero, suc, ◌+◌, ◌-◌, ◌≤◌, ◌<◌, ◌≡◌, refl, sym, ◌∙◌, ap, true, false, ◌⊎◌, inl, inr, List, [], ◌∷◌, length, drop, get_or, drop-drop, arith, codes, oneOf, Char, Text, from, place, AsciiClass, code_laws, text-laws, isDigit, isHexDigit, isAny, digit, unbroken, broken, exactHexes, digitsUpTo, afterSlash, cursorAt, escEnd, escapeOf, hexesOf, endAt, digitIn, RunEnds, refusedFor, refusalBy, cases_Bool}
use types.Run.{OneOf}
use Rattle.token.proofs.cursor.Bytes.{any-byte, past}
use Rattle.token.proofs.digits.Laws.{class-at}
use Rattle.token.proofs.digits.Runs.{run-none, run-off, run-on}
use Rattle.token.proofs.theorems.Escapes.{digit-no-simple, u-other}
use Rattle.token.specs.declared.refusal.Refusal.TheVariants as refusal
open code_laws use {misses}
open text-laws use {head-byte, at-end, at-char, place-from}

-- ---- digits at a place

pub digit-ascii : AsciiClass isDigit
unfolding isDigit
digit-ascii = record { nul = refl; wide = λ c h. grind arith }

pub hex-ascii : AsciiClass isHexDigit
unfolding isHexDigit isDigit
hex-ascii = record { nul = refl; wide = λ c h. grind arith }

hex-digit : (b : ℕ) → digitIn 16 b ≡ isHexDigit b
unfolding digitIn
hex-digit b = refl

dec-digit : (b : ℕ) → digitIn 10 b ≡ isDigit b
unfolding digitIn
dec-digit b = refl

-- one place has one text
pub same-place : (s : List ℕ) (i e : ℕ) → i ≤ length s → e ≤ length s → from s e ≡ from s i → e ≡ i
same-place s i e h k q = sym (place-from s e k) ∙ ap (place (length s)) q ∙ place-from s i h

-- ---- four hex digits

abbrev Hexes : List ℕ → ℕ → ℕ → ℕ → ℕ → Type 0
Hexes s e m k i =
    ((e < i + m) × (exactHexes m k (from s i) ≡ broken 13 (from s e))) ⊎ ((e ≡ i + m) × (exactHexes m k (from s i) ≡ unbroken (k + m)) × (drop m (from s i) ≡ from s e))

hexes-read : (s : List ℕ) (e m k i : ℕ) → RunEnds 16 m s i e → Hexes s e m k i
unfolding exactHexes
hexes-read s e zero k i r = inr (let z = run-none r in (omega (arith, z), ap unbroken (omega arith), ap (from s) (sym z)))
hexes-read s e (suc m) k i r = elim (cases_Bool (isHexDigit (get_or s i 0))) [
  | inl x ↦
      let n = class-at isHexDigit hex-ascii s i x in
      let below = hexes-read s e m (suc k) (i + 1) (run-on r (hex-digit (get_or s i 0) ∙ x)) in
      grind arith
  | inr x ↦
      let f = head-byte isHexDigit hex-ascii s i ∙ x in
      let same = run-off r (hex-digit (get_or s i 0) ∙ x) in
      grind arith
]

module _ (s : List ℕ) (e i : ℕ) (inside : i ≤ length s) (r : RunEnds 16 4 s i e) where
  pub hexes-short : e - i < 4 → refusedFor refusal.NoHexDigit e ≡ hexesOf (length s) (from s i)
  unfolding hexesOf refusalBy
  hexes-short l = let h = hexes-read s e 4 0 i r in let w = r.within in let o = r.on in grind (arith, place-from)

  pub hexes-full : 4 ≤ e - i → endAt (cursorAt e) ≡ hexesOf (length s) (from s i)
  unfolding hexesOf
  hexes-full l = let h = hexes-read s e 4 0 i r in let w = r.within in let o = r.on in grind (arith, place-from)

pub ruleset four_hexes = (hexes-short, hexes-full)

-- ---- what follows a backslash

upto-digits : (s : List ℕ) (e m k i : ℕ) (x : Text) → drop k x ≡ from s i → RunEnds 10 m s i e → drop (digitsUpTo m k (from s i)) x ≡ from s e
unfolding digitsUpTo
upto-digits s e zero k i x q r = q ∙ ap (from s) (sym (run-none r))
upto-digits s e (suc m) k i x q r = elim (cases_Bool (isDigit (get_or s i 0))) [
  | inl d ↦
      let n = class-at isDigit digit-ascii s i d in
      let z : suc k ≡ k + 1 = omega arith in
      let one : drop 1 (drop k x) ≡ from s (i + 1) = ap (drop 1) (q ∙ n.1) in
      let below = upto-digits s e m (suc k) (i + 1) x (ap (λ j. drop j x) z ∙ sym (drop-drop 1 k x) ∙ one) (run-on r (dec-digit (get_or s i 0) ∙ d)) in
      rw (n.1, d) below
  | inr d ↦
      let f = head-byte isDigit digit-ascii s i ∙ d in
      let same = run-off r (dec-digit (get_or s i 0) ∙ d) in
      grind arith
]

hexes-shift : (n m k : ℕ) (c : Char) (x t : Text) → escEnd n (c ∷ x) (exactHexes m (suc k) t) ≡ escEnd n x (exactHexes m k t)
unfolding exactHexes
hexes-shift n zero k c x t = refl
hexes-shift n (suc m) k c x [] = refl
hexes-shift n (suc m) k c x (d ∷ t) = let below = hexes-shift n m (suc k) c x t in grind arith

pub slash-simple : (t : Text) → isAny "btnfr'\"]" t ≡ true → afterSlash t ≡ unbroken 1
unfolding afterSlash
slash-simple t e = grind arith

pub slash-digits : (t : Text) → digit t ≡ true → afterSlash t ≡ unbroken (digitsUpTo 2 1 (drop 1 t))
unfolding afterSlash
slash-digits t e = grind (arith, digit-no-simple)

slash-hexes : (n : ℕ) (t : Text) → isAny "u" t ≡ true → escapeOf n t ≡ hexesOf n (drop 1 t)
unfolding afterSlash escapeOf hexesOf
slash-hexes n t e = grind (arith, u-other, hexes-shift)

pub slash-other : (c : Char) (t : Text) → isAny "btnfr'\"]" (c ∷ t) ≡ false → digit (c ∷ t) ≡ false → isAny "u" (c ∷ t) ≡ false → afterSlash (c ∷ t) ≡ broken 14 (c ∷ t)
unfolding afterSlash
slash-other c t x y z = rw (x, y, z)

module _ (s : List ℕ) (i : ℕ) where
  pub escape-end : i ≤ length s → length s ≤ i → refusedFor refusal.OpenEscape i ≡ escapeOf (length s) (from s i)
  unfolding escapeOf afterSlash refusalBy
  escape-end h k = grind (arith, at-end)

  module _ (h : i < length s) where
    escape-simple : oneOf "btnfr'\"]" (get_or s i 0) ≡ true → escapeOf (length s) (from s i) ≡ endAt (cursorAt (i + 1))
    unfolding escapeOf
    escape-simple e = rw (slash-simple (from s i) (any-byte "btnfr'\"]" refl s i ∙ e), past s i h (grind arith), place-from s (i + 1) (omega arith))

    pub escape-digits : (e : ℕ) → isDigit (get_or s i 0) ≡ true → RunEnds 10 2 s (i + 1) e → endAt (cursorAt e) ≡ escapeOf (length s) (from s i)
    unfolding escapeOf isDigit
    escape-digits e d r =
        sym (rw (
          slash-digits (from s i) (head-byte isDigit digit-ascii s i ∙ d),
          past s i h (grind arith),
          upto-digits s e 2 1 (i + 1) (from s i) (past s i h (grind arith)) r,
          place-from s e r.within,
        ))

    escape-hexes : oneOf "u" (get_or s i 0) ≡ true → escapeOf (length s) (from s i) ≡ hexesOf (length s) (from s (i + 1))
    escape-hexes e = rw (slash-hexes (length s) (from s i) (any-byte "u" refl s i ∙ e), past s i h (grind arith))

    escape-other : oneOf "btnfr'\"]" (get_or s i 0) ≡ false → isDigit (get_or s i 0) ≡ false → oneOf "u" (get_or s i 0) ≡ false → escapeOf (length s) (from s i) ≡ refusedFor refusal.NoEscape i
    unfolding escapeOf refusalBy
    escape-other x y z = grind (arith, at-char, slash-other, any-byte "btnfr'\"]" refl s i, head-byte isDigit digit-ascii s i, any-byte "u" refl s i)

    -- by the first byte of its code, but for a digit
    pub escape_u : get_or s i 0 ≡ 0x75 → hexesOf (length s) (from s (i + 1)) ≡ escapeOf (length s) (from s i)
    escape_u e = sym (escape-hexes (ap (oneOf "u") e))

    pub escape_one : OneOf (codes "\"']bfnrt") (get_or s i 0) → endAt (cursorAt (i + 1)) ≡ escapeOf (length s) (from s i)
    escape_one o = sym (escape-simple (grind arith))

    -- where the byte is no code of an escape
    pub escape_none : (OneOf (codes "\"']bfnrt") (get_or s i 0) → ⊥) → (get_or s i 0 ≡ 0x75 → ⊥) → (0x30 ≤ get_or s i 0 → 0x39 < get_or s i 0) → refusedFor refusal.NoEscape i ≡ escapeOf (length s) (from s i)
    unfolding isDigit
    escape_none n u l = let m = misses (codes "\"']bfnrt") (get_or s i 0) n in sym (escape-other (grind arith) (grind arith) (grind arith))

pub ruleset escapes = (escape-end, escape_u, escape_one, escape_none)
