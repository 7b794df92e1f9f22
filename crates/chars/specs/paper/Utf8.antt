-- RULES, "Bytes into characters": well-formed UTF-8 by the Unicode Standard, Table 3-7.
use Rattle.std.specs.Prelude.{ℕ, ◌≤◌, ◌+◌, ◌*◌, ◌%◌, Bool, true, IsTrue, false, if◌then◌else◌, ◌&&◌, List, [], ◌∷◌, length, take, drop, slice_index, ◌==◌, nat_le}
use Rattle.chars.specs.paper.Quoted.{between}
use Rattle.chars.specs.paper.Ranges.{Range, ◌to◌}

-- Table 3-7 of the Standard: a row for each of its rows, a range for each byte
abbrev pub table37 : List (List Range)
table37 =
    (0x00 to 0x7F ∷ [])
    ∷ (0xC2 to 0xDF ∷ 0x80 to 0xBF ∷ [])
    ∷ (0xE0 to 0xE0 ∷ 0xA0 to 0xBF ∷ 0x80 to 0xBF ∷ [])
    ∷ (0xE1 to 0xEC ∷ 0x80 to 0xBF ∷ 0x80 to 0xBF ∷ [])
    ∷ (0xED to 0xED ∷ 0x80 to 0x9F ∷ 0x80 to 0xBF ∷ [])
    ∷ (0xEE to 0xEF ∷ 0x80 to 0xBF ∷ 0x80 to 0xBF ∷ [])
    ∷ (0xF0 to 0xF0 ∷ 0x90 to 0xBF ∷ 0x80 to 0xBF ∷ 0x80 to 0xBF ∷ [])
    ∷ (0xF1 to 0xF3 ∷ 0x80 to 0xBF ∷ 0x80 to 0xBF ∷ 0x80 to 0xBF ∷ [])
    ∷ (0xF4 to 0xF4 ∷ 0x80 to 0x8F ∷ 0x80 to 0xBF ∷ 0x80 to 0xBF ∷ [])
    ∷ []

-- do the first bytes lie in the row's ranges?
abbrev pub fits : List Range → List ℕ → Bool
fits [] s = true
fits (◌to◌ a b ∷ row) [] = false
fits (◌to◌ a b ∷ row) (x ∷ s) = between a b x && fits row s

-- ---- well-formed text, declared

-- a row of the table
pub data Row : List (List Range) → List Range → Type 0 where
  here : {row : List Range} {rows : List (List Range)} → Row (row ∷ rows) row
  later : {other row : List Range} {rows : List (List Range)} → Row rows row → Row (other ∷ rows) row

-- "A character is well-formed where its bytes lie in one row of this table, which is Table 3-7 of the Unicode Standard; a text is well-formed
-- where it is such characters end to end."
pub data WellFormed : List ℕ → Type 0 where
  empty : WellFormed []
  char : {row : List Range} {s : List ℕ} → Row table37 row → IsTrue (fits row s) → WellFormed (drop (length row) s) → WellFormed s

-- n is its length: "The longest valid prefix of a script is the longest part from its start that is well-formed"
pub record LongestValid (s : List ℕ) (n : ℕ) : Type 0 where
  pub within : n ≤ length s
  pub valid : WellFormed (take n s)
  pub most : (m : ℕ) → m ≤ length s → WellFormed (take m s) → m ≤ n

-- ---- one character: its width by Table 3-7, its code by Table 3-6. Texts, of which everything is declared, are made of these.

-- the length of the first row that the first bytes meet; 0 where they meet none
abbrev pub rowLength : List (List Range) → List ℕ → ℕ
rowLength [] s = 0
rowLength (row ∷ rows) s =
    let rest = rowLength rows s in
    if fits row s then length row else rest

-- how many bytes the well-formed character has that the bytes begin with; 0 where none stands there
unfoldable pub width : List ℕ → ℕ
width s = rowLength table37 s

-- the code of a character of w bytes: "A character's code is read off its bytes by Table 3-6 of the Standard: byte 1 gives its lower 7, 5, 4 or 3
-- bits, where the character has one, two, three or four bytes, and each later byte six more behind them."
unfoldable pub codeOf : ℕ → List ℕ → ℕ
codeOf w s =
    let a = slice_index s 0 in
    let b = slice_index s 1 % 64 in
    let c = slice_index s 2 % 64 in
    let d = slice_index s 3 % 64 in
    let two = a % 32 * 64 + b in
    let three = a % 16 * 4096 + b * 64 + c in
    let four = a % 8 * 262144 + b * 4096 + c * 64 + d in
    if nat_le w 1 then a
    else if w == 2 then two
    else if w == 3 then three
    else four
