-- The lines that the program writes: of each length one for each first byte, and one for all.
use Rattle.std.specs.Prelude.{ℕ, zero, suc, ◌+◌, ◌/◌, ◌%◌, List, [], ◌∷◌, ◌++◌, codes, decimal}
use Rattle.std.specs.List.{flat_map}
use Rattle.puts.specs.Digits.{glyph}
use Rattle.utf8_runs.specs.Sequences.{noCounts, walked, rows}

-- a byte in hexadecimal, in lower case
unfoldable pub hexOf : ℕ → List ℕ
hexOf a = glyph (a / 16) 0x61 ∷ glyph (a % 16) 0x61 ∷ []

abbrev pub spacedText : ℕ → List ℕ
spacedText count = 0x20 ∷ decimal count

-- the counts, and the line's end
unfoldable pub countsText : List ℕ → List ℕ
countsText counts = flat_map spacedText counts ++ codes "\n"

-- a line: the length, the first byte or `all`, and the counts
unfoldable pub rowText : ℕ → List ℕ → List ℕ → List ℕ
rowText n first counts = decimal n ++ codes " " ++ first ++ countsText counts

-- The lines from the first byte a on, of which k are left, and the last line, for all of them.
unfoldable pub rowsFrom : ℕ → ℕ → ℕ → ℕ → List ℕ
rowsFrom n tails a zero = rowText n (codes "all") (rows n tails a)
rowsFrom n tails a (suc k) = rowText n (hexOf a) (walked n a tails noCounts) ++ rowsFrom n tails (a + 1) k

-- all lines of length n
unfoldable pub rowsText : ℕ → ℕ → List ℕ
rowsText n tails = rowsFrom n tails 0 256
