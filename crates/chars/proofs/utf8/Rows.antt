-- The rows of Table 3-7 at a place of a script, as the code meets them: a row for the first byte, then the bytes that follow it.
use Rattle.std.proofs.Common.{ℕ, ◌+◌, ◌≤◌, ◌<◌, ◌≡◌, refl, sym, ◌∙◌, ap, cond, ◌&&◌, List, [], ◌∷◌, length, drop, get_or, drop_of_length-le, drop-cons, drop-drop, add-one, ⊎_elim, arith, le-leb}
use Rattle.std.proofs.Math.Bool.{and-true, and_assoc}
use Rattle.std.proofs.lemmas.Bool.{lt-leb, cases_lt}
use Rattle.chars.specs.paper.Ranges.{Range, ◌to◌}
use Rattle.chars.specs.paper.Utf8.{fits, width}

-- the byte at a place, and what follows it
pub here : (s : List ℕ) (i : ℕ) → i < length s → drop i s ≡ get_or s i 0 ∷ drop (i + 1) s
here s i h = rw add-one (drop-cons s i 0 h)

-- a row is met where its first range and the rest of it are
pub fits-next : (a b : ℕ) (row : List Range) (s : List ℕ) (i : ℕ) → fits (a to b ∷ row) (drop i s) ≡ fits (a to b ∷ []) (drop i s) && fits row (drop (i + 1) s)
fits-next a b row s i = go (drop i s) refl
  where
    go : (t : List ℕ) → drop i s ≡ t → fits (a to b ∷ row) t ≡ fits (a to b ∷ []) t && fits row (drop (i + 1) s)
    go [] e = refl
    go (x ∷ t) e = let d : drop (i + 1) s ≡ t = sym (drop-drop 1 i s) ∙ ap (drop 1) e in rw (and-true, d)

-- ---- the width by the first byte a, with u after it

pub row-00 : (a : ℕ) (u : List ℕ) → 0x00 ≤ a → a ≤ 0x7F → 1 ≡ width (a ∷ u)
unfolding width
row-00 a u l g = simp (le-leb 0 a (omega arith), le-leb a 0x7F (omega arith), lt-leb 0xC2 a (omega arith), le-leb a 0xDF (omega arith), lt-leb 0xE0 a (omega arith), le-leb a 0xE0 (omega arith), lt-leb 0xE1 a (omega arith), le-leb a 0xEC (omega arith), lt-leb 0xED a (omega arith), le-leb a 0xED (omega arith), lt-leb 0xEE a (omega arith), le-leb a 0xEF (omega arith), lt-leb 0xF0 a (omega arith), le-leb a 0xF0 (omega arith), lt-leb 0xF1 a (omega arith), le-leb a 0xF3 (omega arith), lt-leb 0xF4 a (omega arith), le-leb a 0xF4 (omega arith))

pub row-C2 : (a : ℕ) (u : List ℕ) → 0xC2 ≤ a → a ≤ 0xDF → cond (fits (0x80 to 0xBF ∷ []) u) 2 0 ≡ width (a ∷ u)
unfolding width
row-C2 a u l g = simp (le-leb 0 a (omega arith), lt-leb a 0x7F (omega arith), le-leb 0xC2 a (omega arith), le-leb a 0xDF (omega arith), lt-leb 0xE0 a (omega arith), le-leb a 0xE0 (omega arith), lt-leb 0xE1 a (omega arith), le-leb a 0xEC (omega arith), lt-leb 0xED a (omega arith), le-leb a 0xED (omega arith), lt-leb 0xEE a (omega arith), le-leb a 0xEF (omega arith), lt-leb 0xF0 a (omega arith), le-leb a 0xF0 (omega arith), lt-leb 0xF1 a (omega arith), le-leb a 0xF3 (omega arith), lt-leb 0xF4 a (omega arith), le-leb a 0xF4 (omega arith))

pub row-E0 : (a : ℕ) (u : List ℕ) → a ≡ 0xE0 → cond (fits (0xA0 to 0xBF ∷ 0x80 to 0xBF ∷ []) u) 3 0 ≡ width (a ∷ u)
unfolding width
row-E0 a u e = rw e refl

pub row-E1 : (a : ℕ) (u : List ℕ) → 0xE1 ≤ a → a ≤ 0xEC → cond (fits (0x80 to 0xBF ∷ 0x80 to 0xBF ∷ []) u) 3 0 ≡ width (a ∷ u)
unfolding width
row-E1 a u l g = simp (le-leb 0 a (omega arith), lt-leb a 0x7F (omega arith), le-leb 0xC2 a (omega arith), lt-leb a 0xDF (omega arith), le-leb 0xE0 a (omega arith), lt-leb a 0xE0 (omega arith), le-leb 0xE1 a (omega arith), le-leb a 0xEC (omega arith), lt-leb 0xED a (omega arith), le-leb a 0xED (omega arith), lt-leb 0xEE a (omega arith), le-leb a 0xEF (omega arith), lt-leb 0xF0 a (omega arith), le-leb a 0xF0 (omega arith), lt-leb 0xF1 a (omega arith), le-leb a 0xF3 (omega arith), lt-leb 0xF4 a (omega arith), le-leb a 0xF4 (omega arith))

pub row-ED : (a : ℕ) (u : List ℕ) → a ≡ 0xED → cond (fits (0x80 to 0x9F ∷ 0x80 to 0xBF ∷ []) u) 3 0 ≡ width (a ∷ u)
unfolding width
row-ED a u e = rw e refl

pub row-EE : (a : ℕ) (u : List ℕ) → 0xEE ≤ a → a ≤ 0xEF → cond (fits (0x80 to 0xBF ∷ 0x80 to 0xBF ∷ []) u) 3 0 ≡ width (a ∷ u)
unfolding width
row-EE a u l g = simp (le-leb 0 a (omega arith), lt-leb a 0x7F (omega arith), le-leb 0xC2 a (omega arith), lt-leb a 0xDF (omega arith), le-leb 0xE0 a (omega arith), lt-leb a 0xE0 (omega arith), le-leb 0xE1 a (omega arith), lt-leb a 0xEC (omega arith), le-leb 0xED a (omega arith), lt-leb a 0xED (omega arith), le-leb 0xEE a (omega arith), le-leb a 0xEF (omega arith), lt-leb 0xF0 a (omega arith), le-leb a 0xF0 (omega arith), lt-leb 0xF1 a (omega arith), le-leb a 0xF3 (omega arith), lt-leb 0xF4 a (omega arith), le-leb a 0xF4 (omega arith))

pub row-F0 : (a : ℕ) (u : List ℕ) → a ≡ 0xF0 → cond (fits (0x90 to 0xBF ∷ 0x80 to 0xBF ∷ 0x80 to 0xBF ∷ []) u) 4 0 ≡ width (a ∷ u)
unfolding width
row-F0 a u e = rw e refl

pub row-F1 : (a : ℕ) (u : List ℕ) → 0xF1 ≤ a → a ≤ 0xF3 → cond (fits (0x80 to 0xBF ∷ 0x80 to 0xBF ∷ 0x80 to 0xBF ∷ []) u) 4 0 ≡ width (a ∷ u)
unfolding width
row-F1 a u l g = simp (le-leb 0 a (omega arith), lt-leb a 0x7F (omega arith), le-leb 0xC2 a (omega arith), lt-leb a 0xDF (omega arith), le-leb 0xE0 a (omega arith), lt-leb a 0xE0 (omega arith), le-leb 0xE1 a (omega arith), lt-leb a 0xEC (omega arith), le-leb 0xED a (omega arith), lt-leb a 0xED (omega arith), le-leb 0xEE a (omega arith), lt-leb a 0xEF (omega arith), le-leb 0xF0 a (omega arith), lt-leb a 0xF0 (omega arith), le-leb 0xF1 a (omega arith), le-leb a 0xF3 (omega arith), lt-leb 0xF4 a (omega arith), le-leb a 0xF4 (omega arith))

pub row-F4 : (a : ℕ) (u : List ℕ) → a ≡ 0xF4 → cond (fits (0x80 to 0x8F ∷ 0x80 to 0xBF ∷ 0x80 to 0xBF ∷ []) u) 4 0 ≡ width (a ∷ u)
unfolding width
row-F4 a u e = rw e refl

-- no row begins with these
pub none-low : (a : ℕ) (u : List ℕ) → 0x80 ≤ a → a ≤ 0xC1 → 0 ≡ width (a ∷ u)
unfolding width
none-low a u l g = simp (le-leb 0 a (omega arith), lt-leb a 0x7F (omega arith), lt-leb 0xC2 a (omega arith), le-leb a 0xDF (omega arith), lt-leb 0xE0 a (omega arith), le-leb a 0xE0 (omega arith), lt-leb 0xE1 a (omega arith), le-leb a 0xEC (omega arith), lt-leb 0xED a (omega arith), le-leb a 0xED (omega arith), lt-leb 0xEE a (omega arith), le-leb a 0xEF (omega arith), lt-leb 0xF0 a (omega arith), le-leb a 0xF0 (omega arith), lt-leb 0xF1 a (omega arith), le-leb a 0xF3 (omega arith), lt-leb 0xF4 a (omega arith), le-leb a 0xF4 (omega arith))

pub none-high : (a : ℕ) (u : List ℕ) → 0xF5 ≤ a → 0 ≡ width (a ∷ u)
unfolding width
none-high a u l = simp (le-leb 0 a (omega arith), lt-leb a 0x7F (omega arith), le-leb 0xC2 a (omega arith), lt-leb a 0xDF (omega arith), le-leb 0xE0 a (omega arith), lt-leb a 0xE0 (omega arith), le-leb 0xE1 a (omega arith), lt-leb a 0xEC (omega arith), le-leb 0xED a (omega arith), lt-leb a 0xED (omega arith), le-leb 0xEE a (omega arith), lt-leb a 0xEF (omega arith), le-leb 0xF0 a (omega arith), lt-leb a 0xF0 (omega arith), le-leb 0xF1 a (omega arith), lt-leb a 0xF3 (omega arith), le-leb 0xF4 a (omega arith), lt-leb a 0xF4 (omega arith))

-- ---- rows of three and four bytes, byte by byte

pub fits-last : (a b : ℕ) (x y : Range) (s : List ℕ) (i : ℕ) → fits (a to b ∷ x ∷ y ∷ []) (drop i s) ≡ fits (a to b ∷ x ∷ []) (drop i s) && fits (y ∷ []) (drop (i + 2) s)
fits-last a b (◌to◌ p q) y s i =
    let e : i + 1 + 1 ≡ i + 2 = omega arith in
    rw (fits-next a b (p to q ∷ y ∷ []) s i, fits-next p q (y ∷ []) s (i + 1), fits-next a b (p to q ∷ []) s i, e)
    (sym (and_assoc (fits (a to b ∷ []) (drop i s)) (fits (p to q ∷ []) (drop (i + 1) s)) (fits (y ∷ []) (drop (i + 2) s))))

-- where a character stands there is a byte
pub inside : (s : List ℕ) (i : ℕ) → (width (drop i s) ≡ 0 → ⊥) → i < length s
unfolding width
inside s i h = ⊎_elim (λ l. l) (λ l. absurd (h (rw (drop_of_length-le s l, width)))) (cases_lt i (length s))
