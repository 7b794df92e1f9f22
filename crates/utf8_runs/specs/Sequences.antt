-- The byte sequences that the program walks, and how it counts.
use Rattle.std.specs.Prelude.{ℕ, zero, suc, ◌+◌, ◌/◌, ◌%◌, ◌^◌, if◌then◌else◌, List, [], ◌∷◌, take, ◌==◌, nat_le, nat_lt, slice_index, slice_set}
use Rattle.chars.specs.computed.Valid.{validPrefix}

abbrev pub edges : List ℕ
edges = 0x7F ∷ 0x80 ∷ 0xBF ∷ 0xC0 ∷ []

-- the sequence of number k that begins with a, of which the first n bytes count
unfoldable pub bytesOf : ℕ → ℕ → ℕ → List ℕ
bytesOf n a k =
    if nat_le n 2 then a ∷ k % 256 ∷ 0 ∷ 0 ∷ []
    else if n == 3 then a ∷ k / 256 % 256 ∷ k % 256 ∷ 0 ∷ []
    else a ∷ k / 16 % 256 ∷ slice_index edges (k / 4 % 4) ∷ slice_index edges (k % 4) ∷ []

-- one more at the answer's place
unfoldable pub tallied : List ℕ → ℕ → List ℕ
tallied counts answer = if nat_lt answer 5 then slice_set counts answer ((slice_index counts answer + 1) % 2 ^ 32) else counts

-- the answers for the first `tails` sequences that begin with a counted
unfoldable pub walked : ℕ → ℕ → ℕ → List ℕ → List ℕ
walked n a zero counts = counts
walked n a (suc k) counts = tallied (walked n a k counts) (validPrefix (take n (bytesOf n a k)))

-- none is counted
abbrev pub noCounts : List ℕ
noCounts = 0 ∷ 0 ∷ 0 ∷ 0 ∷ 0 ∷ []

-- the counts for the first bytes below a
unfoldable pub rows : ℕ → ℕ → ℕ → List ℕ
rows n tails zero = noCounts
rows n tails (suc a) = walked n a tails (rows n tails a)
