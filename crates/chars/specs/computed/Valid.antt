-- The longest valid prefix, computed.
use Rattle.std.specs.Prelude.{ℕ, zero, suc, List, [], ◌∷◌}
use Rattle.chars.specs.paper.Utf8.{width}

-- its length, from the place i on, after k bytes that belong to the character before
unfoldable pub validFrom : ℕ → ℕ → List ℕ → ℕ
validFrom i k [] = i
validFrom i (suc k) (b ∷ s) = validFrom (suc i) k s
validFrom i zero (b ∷ s) = elim (width (b ∷ s)) [ zero ↦ i | suc k ↦ validFrom (suc i) k s ]

abbrev pub validPrefix : List ℕ → ℕ
validPrefix s = validFrom 0 0 s
