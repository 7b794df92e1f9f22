-- The order of a table, as a test.
use Rattle.std.specs.Prelude.{ℕ, suc, Bool, true, ◌&&◌, List, [], ◌∷◌, nat_le}
use Rattle.chars.specs.paper.Ranges.{Range, ◌to◌}

-- Do the ranges ascend? f is the least code that the first range may begin with
abbrev pub ascendingFrom : ℕ → List Range → Bool
ascendingFrom f [] = true
ascendingFrom f (◌to◌ a b ∷ t) = nat_le f a && nat_le a b && ascendingFrom (suc b) t
