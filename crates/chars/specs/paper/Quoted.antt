-- Tests on codes, and quoted texts as lists of codes, so that the definitions show the characters as RULES does.
use Rattle.std.specs.Prelude.{ℕ, Bool, false, ◌&&◌, ◌||◌, List, [], ◌∷◌, ◌==◌, nat_le}
use Prim.Native.Char.{code as scalar}
use Prim.Native.String.{String, [] as ε, ◌∷◌ as ◌▸◌}

-- low ≤ c ≤ high
abbrev pub between : ℕ → ℕ → ℕ → Bool
between low high c = nat_le low c && nat_le c high

-- a quoted text's codes
abbrev pub codes : String → List ℕ
codes ε = []
codes (◌▸◌ c t) = scalar c ∷ codes t

abbrev pub member : List ℕ → ℕ → Bool
member [] c = false
member (x ∷ xs) c = c == x || member xs c

-- is the code one of the quoted characters?
abbrev pub oneOf : String → ℕ → Bool
oneOf t c = member (codes t) c
