-- The cases on standard input: each is four decimal digits, the script's length, a line feed and the script.
use Rattle.std.specs.Prelude.{ℕ, zero, suc, ◌+◌, ◌*◌, ◌-◌, min, if◌then◌else◌, List, slice_index, length, take, drop, nat_le}
use Rattle.std.specs.List.{range_with_len, flat_map}
use Rattle.listing_text.specs.Lines.{caseText}

-- the digit of a byte; 0 below them
abbrev pub digit : ℕ → ℕ
digit code = code - 0x30

unfoldable pub scriptLength : List ℕ → ℕ → ℕ
scriptLength list at =
    digit (slice_index list at) * 1000 + digit (slice_index list (at + 1)) * 100 + digit (slice_index list (at + 2)) * 10 + digit (slice_index list (at + 3))

-- where the case's script ends: at the list's end where that cuts it short
unfoldable pub caseEnd : List ℕ → ℕ → ℕ
caseEnd list at = min (at + 5 + scriptLength list at) (length list)

-- the case's script
unfoldable pub caseScript : List ℕ → ℕ → List ℕ
caseScript list at = take (caseEnd list at - (at + 5)) (drop (at + 5) list)

-- where the case after k others starts: right behind them
unfoldable pub casePlace : List ℕ → ℕ → ℕ
casePlace list zero = 0
casePlace list (suc k) = caseEnd list (casePlace list k)

-- its text: the line `-- K`, counted from 1, and the script's listing
unfoldable pub caseOf : List ℕ → ℕ → List ℕ
caseOf list k = caseText (k + 1) (caseScript list (casePlace list k))

-- How many cases stand from a place on: each starts where the one before it ends, and has at least its five bytes. The first argument
-- bounds them.
unfoldable pub countFor : ℕ → List ℕ → ℕ → ℕ
countFor zero list at = 0
countFor (suc most) list at =
    let more = 1 + countFor most list (caseEnd list at) in
    if nat_le (at + 5) (length list) then more else 0

unfoldable pub caseCount : List ℕ → ℕ
caseCount list = countFor (length list) list 0

-- the texts of all cases, one directly after the other
abbrev pub casesText : List ℕ → List ℕ
casesText list = flat_map (caseOf list) (range_with_len 0 (caseCount list))
