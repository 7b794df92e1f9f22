-- Tables of ranges of codes.
use Rattle.std.specs.Prelude.{ℕ, zero, suc, ◌≤◌, ◌<◌, Bool, false, ◌||◌, List, [], ◌∷◌, length}
use Rattle.chars.specs.paper.Quoted.{between}

-- a range, both ends included
infix 90 ◌to◌
pub data Range : Type 0 where
  ◌to◌ : ℕ → ℕ → Range

abbrev pub low : Range → ℕ
low (◌to◌ a b) = a

abbrev pub high : Range → ℕ
high (◌to◌ a b) = b

-- does the code lie in one of the ranges?
abbrev pub inRanges : List Range → ℕ → Bool
inRanges [] c = false
inRanges (◌to◌ a b ∷ t) c = between a b c || inRanges t c

-- the range at an index
abbrev pub rangeAt : List Range → ℕ → Range
rangeAt [] k = 0 to 0
rangeAt (r ∷ t) zero = r
rangeAt (r ∷ t) (suc k) = rangeAt t k

-- RULES, "Unicode tables": "In each table no range ends before it starts, and each starts behind the end of the one before."
pub record Ascending (t : List Range) : Type 0 where
  pub ordered : (k : ℕ) → k < length t → low (rangeAt t k) ≤ high (rangeAt t k)
  pub disjoint : (k : ℕ) → suc k < length t → high (rangeAt t k) < low (rangeAt t (suc k))
