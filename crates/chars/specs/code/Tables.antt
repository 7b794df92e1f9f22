-- How the code's constants hold tables of ranges.
use Rattle.std.specs.Prelude.{ℕ, List, [], ◌∷◌}
use Rattle.chars.specs.paper.Ranges.{Range, ◌to◌}

-- the ranges of a list of pairs, low and high
abbrev pub pairs : List (ℕ × ℕ) → List Range
pairs [] = []
pairs (r ∷ l) = r.0 to r.1 ∷ pairs l
