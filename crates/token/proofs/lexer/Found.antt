-- What the scanner finds leaves less of the text; blanks.
use Rattle.token.proofs.lexer.Words.{ℕ, ◌≡◌, refl, true, List, ◌∷◌, length, oneOf, Char, Text, from, place, Suffix, text-laws, isAny, GapKind, Found, Start, scan, TokenKind, zero-one}
use Rattle.token.proofs.theorems.Dispatch.{Hit, Scanned, scan-stands, scan-by, starts-blank, clear-head}
use Rattle.token.proofs.theorems.Shorter.{Strict, stands-strict}
open text-laws use {text-suffix, text-place}

-- ---- what is found leaves less of the text

module _ (n : ℕ) (c : Char) (s : Text) where
  pub gap-strict : (k : GapKind) (r : Text) → scan n (c ∷ s) ≡ Found.gap k r → Strict r (c ∷ s)
  gap-strict k r e = go (scan-stands n c s)
    where
      go : Scanned n (c ∷ s) (scan n (c ∷ s)) → Strict r (c ∷ s)
      go (Scanned.hit {k} {r = q} h (Hit.blank f)) = let p : r ≡ q = cc in rw p (stands-strict k (c ∷ s) q h)
      go (Scanned.hit {k} {r = q} h (Hit.lineEnd f)) = let p : r ≡ q = cc in rw p (stands-strict k (c ∷ s) q h)
      go (Scanned.hit {k} {r = q} h (Hit.lineComment f)) = let p : r ≡ q = cc in rw p (stands-strict k (c ∷ s) q h)
      go (Scanned.hit {k} {r = q} h (Hit.blockComment f)) = let p : r ≡ q = cc in rw p (stands-strict k (c ∷ s) q h)
      go (Scanned.hit {k} {r = q} h (Hit.token f v)) = zero-one (cc)
      go (Scanned.fell h) = let f = h.found in zero-one (cc)

  pub token-strict : (k : TokenKind) (r : Text) → scan n (c ∷ s) ≡ Found.token k r → Strict r (c ∷ s)
  token-strict k r e = go (scan-stands n c s)
    where
      go : Scanned n (c ∷ s) (scan n (c ∷ s)) → Strict r (c ∷ s)
      go (Scanned.hit {k} {r = q} h (Hit.blank f)) = zero-one (cc)
      go (Scanned.hit {k} {r = q} h (Hit.lineEnd f)) = zero-one (cc)
      go (Scanned.hit {k} {r = q} h (Hit.lineComment f)) = zero-one (cc)
      go (Scanned.hit {k} {r = q} h (Hit.blockComment f)) = zero-one (cc)
      go (Scanned.hit {k} {r = q} h (Hit.token f v)) = let p : r ≡ q = cc in rw p (stands-strict k (c ∷ s) q h)
      go (Scanned.fell h) = let f = h.found in zero-one (cc)

-- ---- blanks

pub blank-scan : (n : ℕ) (c : Char) (s : Text) → isAny " \t" (c ∷ s) ≡ true → scan n (c ∷ s) ≡ Found.gap GapKind.blank s
blank-scan n c s e = scan-by n (c ∷ s) Start.blank (starts-blank (c ∷ s) (clear-head (oneOf " \t") refl (c ∷ s) e) e)

-- ---- a text that is left is the script's text from its place on

pub left-at : (script : List ℕ) (i : ℕ) (r : Text) → Suffix r (from script i) → from script (place (length script) r) ≡ r
left-at script i r h = text-place script r (text-suffix script r (from script i) h (i, refl))
