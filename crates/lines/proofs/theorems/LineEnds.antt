-- Line ends at a place of a script, by its bytes: LF, or CR LF.
use Prim.Native.Nat.{ℕ, ◌+◌, ◌<◌}
use Prim.Native.String.{String}
use mathlib.Core.Path.{◌≡◌, refl, sym, ◌∙◌, ap}
use mathlib.Core.Bool.{Bool, true, false, or-false}
use mathlib.Core.Logic.{◌⊎◌, inl, inr}
use mathlib.Core.List.{List, [], ◌∷◌}
use lib.ListN.{length, drop, get_or, get_or-eq_default}
use lib.Dec.{eqb, ltb}
use native.Mathlib.Omega.{arith}
use borrow.Author.Tests.{eqb-true, eq-eqb, ne_eqb, ltb-true, ltb-false}
use Rattle.chars.specs.paper.Quoted.{oneOf}
use Rattle.chars.specs.paper.Text.{Text, from}
use Rattle.chars.proofs.Bools.{clash}
use Rattle.chars.specs.promises.Texts.{AsciiClass}
use Rattle.chars.proofs.theorems.Promises.{text-laws}
use Rattle.token.specs.paper.Tests.{isAny}
use Rattle.token.specs.paper.Shapes.{One, both, LineEnd}
open text-laws use {at-ascii, head-byte}

-- a byte that is not 0 stands within the script
pub in-script : (s : List ℕ) (i : ℕ) → 0 < get_or s i 0 → i < length s
in-script s i h = go (ltb i (length s)) refl
  where
    go : (t : Bool) → ltb i (length s) ≡ t → i < length s
    go true e = ltb-true i (length s) e
    go false e = let z = get_or-eq_default s 0 (ltb-false i (length s) e) in absurd (omega arith)

-- ---- one quoted ASCII character, by its byte

record Sign (q : String) (b : ℕ) : Type 0 where
  is : (c : ℕ) → oneOf q c ≡ eqb c b
  not-nul : 0 < b
  ascii : b < 0x80

module _ {q : String} {b : ℕ} (sign : Sign q b) where
  class : AsciiClass (oneOf q)
  class = record { nul = sign.is 0 ∙ ne_eqb 0 b (λ e. omega arith); wide = λ c h. sign.is c ∙ ne_eqb c b (λ e. omega arith) }

  -- the text begins with it exactly where its byte stands
  begins-byte : (s : List ℕ) (i : ℕ) → isAny q (from s i) ≡ eqb (get_or s i 0) b
  begins-byte s i = head-byte (oneOf q) class s i ∙ sign.is (get_or s i 0)

  at-byte : (s : List ℕ) (i : ℕ) → get_or s i 0 ≡ b → from s i ≡ record { code = get_or s i 0; at = i } ∷ from s (i + 1)
  at-byte s i e = at-ascii s i (in-script s i (omega arith)) (omega arith)

  byte-one : (s : List ℕ) (i : ℕ) → get_or s i 0 ≡ b → One (isAny q) (from s i) (from s (i + 1))
  byte-one s i e = rw (at-byte s i e) (One.one (sign.is (get_or s i 0) ∙ eq-eqb (get_or s i 0) b e))

  one-byte : (s : List ℕ) (i : ℕ) {t r : Text} → One (isAny q) t r → t ≡ from s i → (get_or s i 0 ≡ b) × (r ≡ from s (i + 1))
  one-byte s i (One.one {c} {s = r} e) z =
      let f = eqb-true (get_or s i 0) b (sym (begins-byte s i) ∙ ap (isAny q) (sym z) ∙ e) in
      let g : c ∷ r ≡ record { code = get_or s i 0; at = i } ∷ from s (i + 1) = z ∙ at-byte s i f in
      (f, cc g)

-- ---- LF and CR

lf : Sign "\n" 0x0A
lf = record { is = λ c. or-false (eqb c 0x0A); not-nul = omega arith; ascii = omega arith }

cr : Sign "\r" 0x0D
cr = record { is = λ c. or-false (eqb c 0x0D); not-nul = omega arith; ascii = omega arith }

module _ (s : List ℕ) (i : ℕ) where
  pub begins-lf : isAny "\n" (from s i) ≡ eqb (get_or s i 0) 0x0A
  begins-lf = begins-byte lf s i

  pub lf-ends : get_or s i 0 ≡ 0x0A → LineEnd (from s i) (from s (i + 1))
  lf-ends e = inl (byte-one lf s i e)

  pub crlf-ends : get_or s i 0 ≡ 0x0D → get_or s (i + 1) 0 ≡ 0x0A → LineEnd (from s i) (from s (i + 1 + 1))
  crlf-ends e f = inr (both (byte-one cr s i e) (byte-one lf s (i + 1) f))

  -- a line end at i is one of these
  pub ends-at : {t r : Text} → LineEnd t r → t ≡ from s i
      → ((get_or s i 0 ≡ 0x0A) × (r ≡ from s (i + 1))) ⊎ ((get_or s i 0 ≡ 0x0D) × (get_or s (i + 1) 0 ≡ 0x0A) × (r ≡ from s (i + 1 + 1)))
  ends-at (inl o) z = inl (one-byte lf s i o z)
  ends-at (inr (both o p)) z =
      let a = one-byte cr s i o z in
      let b = one-byte lf s (i + 1) p a.1 in
      inr (a.0, b.0, b.1)

-- ---- a text begins with one line end at most, the empty text with none

one-tests : {p : Text → Bool} {s r : Text} → One p s r → (p s ≡ true) × (r ≡ drop 1 s)
one-tests (One.one e) = (e, refl)

pub no-end : {r : Text} → LineEnd [] r → ⊥
no-end (inl o) = clash (one-tests o).0
no-end (inr (both o p)) = clash (one-tests o).0

-- no text begins with both LF and CR
not-both : (s : Text) → isAny "\n" s ≡ true → isAny "\r" s ≡ true → ⊥
not-both [] e f = clash e
not-both (c ∷ s) e f =
    let a = eqb-true c.code 0x0A (sym (lf.is c.code) ∙ e) in
    let b = eqb-true c.code 0x0D (sym (cr.is c.code) ∙ f) in
    omega arith

pub end-one : {s r q : Text} → LineEnd s r → LineEnd s q → r ≡ q
end-one (inl o) (inl p) = (one-tests o).1 ∙ sym (one-tests p).1
end-one {s} (inl o) (inr (both p x)) = absurd (not-both s (one-tests o).0 (one-tests p).0)
end-one {s} (inr (both o x)) (inl p) = absurd (not-both s (one-tests p).0 (one-tests o).0)
end-one (inr (both o x)) (inr (both p y)) = (one-tests x).1 ∙ ap (drop 1) ((one-tests o).1 ∙ sym (one-tests p).1) ∙ sym (one-tests y).1
