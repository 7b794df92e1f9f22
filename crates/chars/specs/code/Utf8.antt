-- What `utf8` answers: one character decoded, where characters of one row end, where those of three bytes do that are no marks, where ASCII does by
-- sixty-fours, and where the check stops.
use Rattle.std.specs.Prelude.{ℕ, ◌+◌, ◌≤◌, ◌≡◌, ◌⊎◌, Bool, true, not, Option, Some, None, if◌then◌else◌, ◌==◌, ◌&&◌, ◌||◌, nat_le, nat_lt, List, length, drop, slice_index}
use Rattle.std.specs.List.{prefix_len}
use Rattle.chars.specs.declared.utf8.Decoded.{Decoded}
use Rattle.chars.specs.paper.Quoted.{between}
use Rattle.chars.specs.paper.Ranges.{Range}
use Rattle.chars.specs.paper.Utf8.{fits, width, codeOf}
use Rattle.chars.specs.paper.Classes.{isMark}
use Rattle.chars.specs.paper.Text.{from}
use Rattle.chars.specs.computed.Valid.{validFrom}
use Rattle.chars.specs.computed.Marks.{firstMark}
use Rattle.chars.specs.code.Classes.{answers}
use Rattle.chars.specs.code.Runs.{stepsOver}

-- a character of the code c that is w bytes wide, with what the four classes say of that code
abbrev pub decoded : ℕ → ℕ → Option Decoded
decoded c w = Some (record { code = c; width = w; classes = answers c })

-- how many bytes the well-formed character has that stands at a byte offset, or that none does
unfoldable pub widthAt : List ℕ → ℕ → Option ℕ
widthAt s i =
    let t = drop i s in
    if width t == 0 then None else Some (width t)

-- the character that stands at a byte offset, or that none does
unfoldable pub decodeAt : List ℕ → ℕ → Option Decoded
decodeAt s i =
    let t = drop i s in
    if width t == 0 then None else decoded (codeOf (width t) t) (width t)

-- do bytes of a row of Table 3-7 stand at the place i?
abbrev pub rowAt : List Range → List ℕ → ℕ → Bool
rowAt row s i = fits row (drop i s)

-- from the place i on, past the characters of that row
abbrev pub rowsOver : List Range → List ℕ → ℕ → ℕ
rowsOver row = stepsOver (length row) (rowAt row)

-- ---- characters of three bytes, told by tables

-- are the three bytes a well-formed character, and no direction mark?
unfoldable pub plainThree : ℕ → ℕ → ℕ → Bool
plainThree a b c =
    let ill = a == 0xE0 && nat_lt b 0xA0 || a == 0xED && nat_le 0xA0 b in
    let mark = a == 0xE2 && (b == 0x80 && between 0xAA 0xAE c || b == 0x81 && between 0xA6 0xA9 c) in
    between 0xE0 0xEF a && (between 0x80 0xBF b && (between 0x80 0xBF c && not (ill || mark)))

-- does such a character stand at the place i, and from there on, past as many as stand there
unfoldable pub plainAt : List ℕ → ℕ → Bool
plainAt s i = nat_le (i + 3) (length s) && plainThree (slice_index s i) (slice_index s (i + 1)) (slice_index s (i + 2))

abbrev pub plainOver : List ℕ → ℕ → ℕ
plainOver = stepsOver 3 plainAt

-- ---- direction marks

-- does a direction mark stand at the place i?
unfoldable pub markAt : List ℕ → ℕ → Bool
markAt s i = nat_lt 0 (width (drop i s)) && isMark (codeOf (width (drop i s)) (drop i s))

-- the check goes on from the place i to j: only characters stand there that are no marks
pub record CleanTo (s : List ℕ) (i j : ℕ) : Type 0 where
  pub onward : i ≤ j
  pub within : j ≤ length s
  pub same : validFrom j 0 (drop j s) ≡ validFrom i 0 (drop i s)
  pub unmarked : firstMark (from s j) ≡ firstMark (from s i)

-- and stops there: no character stands at j, or a mark
abbrev pub Stops : List ℕ → ℕ → Type 0
Stops s j = (width (drop j s) ≡ 0) ⊎ (markAt s j ≡ true)

-- ---- many bytes of ASCII at once

-- a byte of ASCII, written as the test of `InRange<0x00, 0x7F>` of `runs`, which it is to be equal to
abbrev pub isAscii : ℕ → Bool
isAscii b = nat_le 0x00 b && nat_le b 0x7F

-- do sixty-four such bytes stand at the place i?
abbrev pub manyAt : List ℕ → ℕ → Bool
manyAt s i = nat_le 64 (prefix_len isAscii (drop i s))

-- from the place i on, past as many blocks of sixty-four as stand there
abbrev pub manyOver : List ℕ → ℕ → ℕ
manyOver = stepsOver 64 manyAt
