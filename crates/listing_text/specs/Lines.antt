-- RULES, "Listing": the text that the listing program prints, as bytes.
use Rattle.std.specs.Prelude.{ℕ, zero, suc, ◌/◌, ◌%◌, false, if◌then◌else◌, List, [], ◌∷◌, ◌++◌, length, take, drop, replicate, ◌==◌, nat_le}
use Rattle.words.specs.Words.{twoAt, fourAt}
use Rattle.chars.specs.paper.Quoted.{codes}
use Rattle.token.specs.paper.Kinds.{kindNumber}
use Rattle.token.specs.paper.Records.{headLength, mostNeed}
use Rattle.token.specs.code.Form.{heldAt}
use Rattle.token.specs.computed.Listing.{decimal, spaced, refusedAt}
use Rattle.token.specs.declared.form.Held.{Held}
use Rattle.token.specs.declared.kinds.TokenKind.TheVariants as tk
use Rattle.entry.specs.paper.Host.{Seen, seen}
use Rattle.entry.specs.computed.Listing.{listingOf}

-- RULES, "Record": the length of the whole record; 0 where none stands whole at the start
unfoldable pub lengthHere : List ℕ → ℕ
lengthHere bytes =
    let n = twoAt bytes 0 in
    if nat_le headLength n then (if nat_le n (length bytes) then n else 0) else 0

-- the kinds that have values, whatever these are
abbrev pub intLit : ℕ
intLit = kindNumber (tk.IntLit 0)

abbrev pub longLit : ℕ
longLit = kindNumber (tk.LongLit 0)

abbrev pub str : ℕ
str = kindNumber (tk.Str 0 0)

abbrev pub newline : ℕ
newline = kindNumber (tk.Newline false)

-- RULES, "Values": those of a kind, from all of them as one number, of which the first of two is in the lower four bytes
unfoldable pub heldValues : ℕ → ℕ → List ℕ
heldValues kind values =
    if kind == intLit then values ∷ []
    else if kind == longLit then values ∷ []
    else if kind == newline then values ∷ []
    else if kind == str then values % 4294967296 ∷ values / 4294967296 ∷ []
    else []

-- kind, start, end and cut, "in base ten, with single spaces"
unfoldable pub headText : Held → List ℕ
headText held = decimal held.number ++ spaced (held.start ∷ held.end ∷ held.cut ∷ [])

-- then the values, as many as the kind has
unfoldable pub valuesText : Held → List ℕ
valuesText held = spaced (heldValues held.number held.values)

unfoldable pub lineText : Held → List ℕ
lineText held = headText held ++ valuesText held ++ codes "\n"

-- A line for each record, by its own length, up to the end or to where no whole record stands. The first argument bounds how many.
unfoldable pub linesFor : ℕ → List ℕ → List ℕ
linesFor zero bytes = []
linesFor (suc most) bytes =
    let n = lengthHere bytes in
    let lines = lineText (heldAt bytes 0) ++ linesFor most (drop n bytes) in
    if n == 0 then [] else lines

-- No record is empty, so there are no more of them than bytes.
unfoldable pub recordLines : List ℕ → List ℕ
recordLines bytes = linesFor (length bytes) bytes

-- By what the host sees (RULES, "Answer"): the number, the place at 4 of the block, the record bytes at 12.
unfoldable pub answerText : Seen → List ℕ
answerText (seen number records block) =
    let lines = recordLines (take (fourAt block 12) records) in
    let refused = refusedAt number (fourAt block 4) in
    if number == 0 then lines else refused

-- all that is lent is 0
unfoldable pub zeros : ℕ → List ℕ
zeros n = replicate n 0

-- up to 3,000 bytes
abbrev pub mostScript : ℕ
mostScript = 3000

-- what is lent for their records
abbrev pub recordsRoom : ℕ
recordsRoom = mostNeed mostScript

-- "a line for each record: kind, start, end, cut and values, in base ten, with single spaces. Of a refused script it prints `refused N at P`, and of a
-- longer one `long`.": over the script's tokens.
unfoldable pub printed : List ℕ → List ℕ
printed script =
    let lines = listingOf script in
    if nat_le (length script) mostScript then lines else codes "long\n"

-- One case of several: a line `-- K`, and the script's listing.
unfoldable pub caseText : ℕ → List ℕ → List ℕ
caseText number script = codes "-- " ++ decimal number ++ codes "\n" ++ printed script
