-- Tests of ASCII characters at a place of a script, made on its bytes.
use Prim.Native.String.{String}
use Rattle.token.proofs.cursor.Words.{ℕ, ◌+◌, ◌≤◌, ◌<◌, ◌≡◌, refl, ap, Bool, true, false, ◌&&◌, List, [], ◌∷◌, length, drop, get_or, get_or-eq_default, eqb, leb, ltb, arith, codes, member, oneOf, from, every, AsciiClass, text-laws, isAny, startsWith, inl, inr, ◌⊎◌}
open text-laws use {head-byte, at-ascii, at-end, at-char, wide-code}

-- a list of ASCII codes but NUL: one computed test
abbrev pub plain : List ℕ → Bool
plain l = every (λ x. leb 1 x && ltb x 0x80) l

ascii-none : (l : List ℕ) (c : ℕ) → plain l ≡ true → (c ≡ 0) ⊎ (0x80 ≤ c) → member l c ≡ false
ascii-none [] c h w = refl
ascii-none (x ∷ l) c h w = grind (arith, ascii-none l c)

pub ascii-list : (l : List ℕ) → plain l ≡ true → AsciiClass (member l)
ascii-list l h = record { nul = ascii-none l 0 h (inl refl); wide = λ c w. ascii-none l c h (inr w) }

-- one of the quoted characters stands at i
pub any-byte : (t : String) → plain (codes t) ≡ true → (s : List ℕ) (i : ℕ) → isAny t (from s i) ≡ oneOf t (get_or s i 0)
any-byte t h s i = head-byte (oneOf t) (ascii-list (codes t) h) s i

-- a byte that is not 0 stands in the script
pub inside : (s : List ℕ) (i : ℕ) → 1 ≤ get_or s i 0 → i < length s
inside s i h = grind (arith, get_or-eq_default)

-- past an ASCII character
pub past : (s : List ℕ) (i : ℕ) → i < length s → get_or s i 0 < 0x80 → drop 1 (from s i) ≡ from s (i + 1)
past s i h l = ap (drop 1) (at-ascii s i h l)

-- the text at i begins with an ASCII character and others
pub starts-byte : (x : ℕ) (xs : List ℕ) → 1 ≤ x → x < 0x80 → (s : List ℕ) (i : ℕ) → startsWith (x ∷ xs) (from s i) ≡ eqb (get_or s i 0) x && startsWith xs (from s (i + 1))
starts-byte x xs a b s i = grind (arith, at-end, at-ascii, at-char, wide-code, get_or-eq_default)

-- two of them
pub two-bytes : (x y : ℕ) → 1 ≤ x → x < 0x80 → 1 ≤ y → y < 0x80 → (s : List ℕ) (i : ℕ)
    → startsWith (x ∷ y ∷ []) (from s i) ≡ eqb (get_or s i 0) x && eqb (get_or s (i + 1) 0) y
two-bytes x y a b c d s i = grind (arith, starts-byte x (y ∷ []) a b s i, starts-byte y [] c d s (i + 1))

pub one-byte : (x : ℕ) → 1 ≤ x → x < 0x80 → (s : List ℕ) (i : ℕ) → startsWith (x ∷ []) (from s i) ≡ eqb (get_or s i 0) x
one-byte x a b s i = grind (arith, starts-byte x [] a b s i)
