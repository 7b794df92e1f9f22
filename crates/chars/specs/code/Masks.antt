-- What masks by blocks say of a code: 64 codes to a block, one bit each.
use Rattle.std.specs.Prelude.{ℕ, ◌/◌, ◌%◌, ◌^◌, Bool, List, slice_index, ◌==◌}

-- is the bit set in the mask of a block, at a place of it?
unfoldable pub inMask : List ℕ → List ℕ → ℕ → ℕ → Bool
inMask masks blocks block place = slice_index masks (slice_index blocks block) / 2 ^ place % 2 == 1

-- that of a code
abbrev pub inMasks : List ℕ → List ℕ → ℕ → Bool
inMasks masks blocks c = inMask masks blocks (c / 64) (c % 64)
