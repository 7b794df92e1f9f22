-- How wide a character is, and the check of one character after the other.
use Rattle.std.proofs.lemmas.Grind.{common_steps}
use Rattle.std.proofs.Common.{ℕ, zero, suc, ◌+◌, ◌-◌, ◌≤◌, ◌<◌, ◌≡◌, refl, ◌∙◌, ap, Bool, true, false, cond, inl, inr, List, [], ◌∷◌, length, drop, get_or, length-drop, drop_of_length-le, drop-drop, leb, arith, leb-true, le-leb, not, map, take}
use Rattle.chars.specs.paper.Ranges.{Range, ◌to◌}
use Rattle.chars.specs.paper.Utf8.{fits, width}
use Rattle.chars.specs.computed.Valid.{validFrom, validPrefix}
use Rattle.chars.specs.code.Runs.{stepsIn, AllIn}
use Rattle.chars.specs.code.Utf8.{rowAt, rowsOver, isAscii, manyAt, manyOver}
use Rattle.std.proofs.lemmas.Bool.{cases_lt}
use Rattle.std.specs.List.{prefix_len}
use Rattle.std.specs.Simd.Lanes.{mask_l}
use Rattle.chars.proofs.Bools.{and-both}
use Rattle.chars.proofs.Prefix.{end, within, passed, stopped}
use Rattle.std.proofs.lemmas.List.Sums.{prefix_len-le-length}
use Rattle.chars.proofs.runs.Laws.{over-end, over-on, run-on}
use Rattle.chars.proofs.utf8.Rows as rows
use Rattle.chars.proofs.utf8.Wide.{Stood, stood}
use Rattle.chars.proofs.utf8.Valid.{fit-within, valid-shift, valid-none, valid-past}

pub width-most : (t : List ℕ) → (width t ≤ 4) × (width t ≤ length t)
width-most t = elim (stood t) [ inl e ↦ (omega arith, omega arith) | inr s ↦ by s ]
  where
    by : {w : ℕ} {t : List ℕ} → Stood w t → (w ≤ 4) × (w ≤ length t)
    by (Stood.one a) = (omega arith, omega arith)
    by (Stood.two a b p) = (omega arith, omega arith)
    by (Stood.three a b p q m n) = (omega arith, omega arith)
    by (Stood.four a b p q r m n) = (omega arith, omega arith)

-- at a place
pub width-within : (s : List ℕ) (i : ℕ) → i ≤ length s → i + width (drop i s) ≤ length s
width-within s i h = let a = width-most (drop i s) in let b = length-drop i s in omega arith

-- past the end nothing stands
pub width-end : (s : List ℕ) (i : ℕ) → length s ≤ i → width (drop i s) ≡ 0
width-end s i h = let a = width-most (drop i s) in let b = length-drop i s in omega arith

-- ---- the check

-- no character stands at i
pub valid-stop : (s : List ℕ) (i : ℕ) → width (drop i s) ≡ 0 → validFrom i 0 (drop i s) ≡ i
valid-stop s i e = omega (arith, valid-shift i 0 (drop i s), valid-none (drop i s) e)

pub valid-end : (s : List ℕ) (i : ℕ) → length s ≤ i → validFrom i 0 (drop i s) ≡ i
valid-end s i h = let a = width-most (drop i s) in let b = length-drop i s in valid-stop s i (omega arith)

-- one of w bytes does
pub valid-next : (s : List ℕ) (i w : ℕ) → i < length s → width (drop i s) ≡ w → (w ≡ 0 → ⊥) → validFrom (i + w) 0 (drop (i + w) s) ≡ validFrom i 0 (drop i s)
valid-next s i w h e n =
    let a = width-most (drop i s) in
    let p = valid-past w (drop i s) e (omega arith) (omega arith) in
    let d : validPrefix (drop w (drop i s)) ≡ validPrefix (drop (i + w) s) = ap validPrefix (drop-drop w i s) in
    omega (arith, valid-shift i 0 (drop i s), valid-shift (i + w) 0 (drop (i + w) s), p, d)

-- ---- characters of one row

pub rows-stand : (x : Range) (row : List Range) (s : List ℕ) (i : ℕ) → rowAt (x ∷ row) s i ≡ true → rowsOver (x ∷ row) s (i + length (x ∷ row)) ≡ rowsOver (x ∷ row) s i
rows-stand x row s = over-on (length (x ∷ row)) (rowAt (x ∷ row)) s (omega arith) (fit-within x row s)

-- where no character of the row stands, its characters end
pub rows_end : (row : List Range) (s : List ℕ) (i : ℕ) → rowAt row s i ≡ false → i ≡ rowsOver row s i
rows_end row = over-end (length row) (rowAt row)

-- ---- ASCII bytes

module _ (s : List ℕ) where
  abbrev pub ascii : List Range
  ascii = 0x00 to 0x7F ∷ []

  pub ascii-at : (i : ℕ) → i < length s → get_or s i 0 ≤ 0x7F → rowAt ascii s i ≡ true
  ascii-at i h l = ap (fits ascii) (rows.here s i h) ∙ simp (le-leb 0x00 (get_or s i 0) (omega arith), le-leb (get_or s i 0) 0x7F l)

  ascii-low : (n i : ℕ) → i + n ≤ length s → AllIn 0x00 0x7F s i (i + n) → rowsOver ascii s (i + n) ≡ rowsOver ascii s i
  ascii-low zero i h a = ap (rowsOver ascii s) (let z : i + 0 ≡ i = omega arith in z)
  ascii-low (suc n) i h a =
      let z : i + suc n ≡ i + 1 + n = omega arith in
      ap (rowsOver ascii s) z ∙ ascii-low n (i + 1) (omega arith) (λ k l m. a k (omega arith) (omega arith))
      ∙ rows-stand (0x00 to 0x7F) [] s i (ascii-at i (omega arith) (a i (omega arith) (omega arith)).1)

  -- where they stand from i to j, those from j on end where those from i on do
  pub ascii-to : (i j : ℕ) → i ≤ j → j ≤ length s → AllIn 0x00 0x7F s i j → rowsOver ascii s j ≡ rowsOver ascii s i
  ascii-to i j b w a =
      let z : j ≡ i + (j - i) = omega arith in
      ap (rowsOver ascii s) z ∙ ascii-low (j - i) i (omega arith) (λ k m n. a k m (omega arith))

  ascii-out : (j : ℕ) → (j < length s → isAscii (get_or s j 0) ≡ false) → rowAt ascii s j ≡ false
  ascii-out j out = grind (arith, common_steps)

  -- as far as ASCII stands, one by one is passed
  ascii-part : (i j : ℕ) → i ≤ j → j ≤ end isAscii s i → j ≤ length s → rowsOver ascii s j ≡ rowsOver ascii s i
  ascii-part i j b w l =
      let each : AllIn 0x00 0x7F s i j =
      λ k m n.
      let a = and-both (leb 0x00 (get_or s k 0)) (leb (get_or s k 0) 0x7F) (passed isAscii s i k m (omega arith)) in
      (leb-true _ _ a.0, leb-true _ _ a.1) in
      ascii-to i j b l each

  -- where the run ends, no row stands
  pub ascii_run : (i : ℕ) → i + prefix_len isAscii (drop i s) ≡ rowsOver ascii s i
  ascii_run i =
      let j = end isAscii s i in
      let e = rows_end ascii s j (ascii-out j (stopped isAscii s i)) in
      elim (cases_lt (length s) i) [
        | inl h ↦
            let z : j ≡ i = ap (λ l. i + prefix_len isAscii l) (drop_of_length-le s (omega arith)) ∙ omega arith in
            e ∙ ap (rowsOver ascii s) z
        | inr h ↦ e ∙ ascii-part i j (omega arith) (omega arith) (within isAscii s i h)
      ]

  -- behind n bytes of ASCII, by their mask, the run ends where it did
  pub ascii_more : (n i : ℕ) → i + n ≤ length s → mask_l (map (λ b. not (isAscii b)) (take n (drop i s))) ≡ 0 → rowsOver ascii s (i + n) ≡ rowsOver ascii s i
  ascii_more n i room z = ascii-part i (i + n) (omega arith) (omega (arith, run-on isAscii n s i room _ refl z)) room

  -- ---- sixty-four at once

  many-long : (i : ℕ) → manyAt s i ≡ true → 64 ≤ prefix_len isAscii (drop i s)
  many-long i = leb-true _ _

  many-stand : (i : ℕ) → manyAt s i ≡ true → i + 64 ≤ length s
  many-stand i e = omega (arith, many-long i e, prefix_len-le-length isAscii (drop i s), length-drop i s)

  -- where they stand they are passed
  pub many-on : (i : ℕ) → manyAt s i ≡ true → manyOver s (i + 64) ≡ manyOver s i
  many-on = over-on 64 manyAt s (omega arith) many-stand

  -- as one by one
  many-more : (i : ℕ) → manyAt s i ≡ true → rowsOver ascii s (i + 64) ≡ rowsOver ascii s i
  many-more i e = ascii-part i (i + 64) (omega arith) (omega (arith, many-long i e)) (many-stand i e)

  many-in : (n i : ℕ) → rowsOver ascii s (stepsIn n 64 (manyAt s) i) ≡ rowsOver ascii s i
  unfolding stepsIn
  many-in zero i = refl
  many-in (suc n) i = by (manyAt s i) refl (many-in n (i + 64))
    where
      by : (b : Bool) → manyAt s i ≡ b → rowsOver ascii s (stepsIn n 64 (manyAt s) (i + 64)) ≡ rowsOver ascii s (i + 64)
          → rowsOver ascii s (cond b (stepsIn n 64 (manyAt s) (i + 64)) i) ≡ rowsOver ascii s i
      by true e h = h ∙ many-more i e
      by false e h = refl

  pub many-rest : (i : ℕ) → rowsOver ascii s (manyOver s i) ≡ rowsOver ascii s i
  many-rest = many-in (length s)
