-- Numbers as bytes: the bytes of a number, the number at a place of bytes, the answer block, and what a host is told.
use Rattle.std.specs.Prelude.{ℕ, ◌+◌, ◌*◌, ◌/◌, ◌%◌, List, [], ◌∷◌, ◌++◌, slice_index}

-- ---- the bytes of a number

-- Little-endian
unfoldable pub le2 : ℕ → List ℕ
le2 x = x % 256 ∷ x / 256 % 256 ∷ []

unfoldable pub le4 : ℕ → List ℕ
le4 x = x % 256 ∷ x / 256 % 256 ∷ x / 65536 % 256 ∷ x / 16777216 % 256 ∷ []

unfoldable pub le8 : ℕ → List ℕ
le8 x = le4 (x % 4294967296) ++ le4 (x / 4294967296)

-- ---- the number at a place

-- Little-endian: the number of one, two, four and eight bytes from a place on. A byte past the end counts as 0.
abbrev pub oneAt : List ℕ → ℕ → ℕ
oneAt bytes at = slice_index bytes at

unfoldable pub twoAt : List ℕ → ℕ → ℕ
twoAt bytes at = oneAt bytes at + oneAt bytes (at + 1) * 256

unfoldable pub fourAt : List ℕ → ℕ → ℕ
fourAt bytes at = twoAt bytes at + twoAt bytes (at + 2) * 65536

unfoldable pub eightAt : List ℕ → ℕ → ℕ
eightAt bytes at = fourAt bytes at + fourAt bytes (at + 4) * 4294967296

-- ---- the answer block

-- RULES, "Answer": "The block then holds four numbers of 4 bytes, little-endian; unused ones are 0."
unfoldable pub blockOf : ℕ → ℕ → ℕ → ℕ → List ℕ
blockOf j a count bytes = le4 j ++ le4 a ++ le4 count ++ le4 bytes

-- what a host is told: the number handed back, and the block afterwards
pub data Told : Type 0 where
  told : ℕ → List ℕ → Told

abbrev pub numberTold : Told → ℕ
numberTold (told j block) = j

abbrev pub blockTold : Told → List ℕ
blockTold (told j block) = block
