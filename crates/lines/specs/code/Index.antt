-- What `index` reads of bytes at once.
use Rattle.std.specs.Prelude.{ℕ, List, map, ◌==◌}
use Rattle.std.specs.Simd.Lanes.{mask_l}

-- A bit for each of the bytes, the lowest for the first: 1 where the byte is an LF.
unfoldable pub lfMask : List ℕ → ℕ
lfMask s = mask_l (map (λ b. b == 0x0A) s)
