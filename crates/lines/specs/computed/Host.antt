-- What the host sees of building and of a query, computed.
use Rattle.std.specs.Prelude.{ℕ, suc, if◌then◌else◌, List, ◌++◌, length, drop, slice_index, ◌==◌, nat_lt, Result, Ok, Err}
use Rattle.token.specs.paper.Records.{mostBytes}
use Rattle.words.specs.Words.{blockOf, Told, told}
use Rattle.entry.specs.paper.Refusals.{refusalNumber}
use Rattle.entry.specs.paper.Host.{Seen, seen}
use Rattle.entry.specs.computed.Check.{checkOf}
use Rattle.entry.specs.declared.refusal.Refused.{Refused}
use Rattle.entry.specs.paper.TokenText.{hasText}
use Rattle.lines.specs.computed.Lines.{startsOf, lineCount, searchOf, columnSince}

-- so many lines, where the script is not refused
abbrev pub linesIf : Result (Unit {0}) Refused → ℕ → Result ℕ Refused
linesIf (Ok x) n = Ok n
linesIf (Err e) n = Err e

-- 17, 18, else the number of lines
unfoldable pub checkedOf : List ℕ → Result ℕ Refused
checkedOf script = linesIf (checkOf mostBytes script) (lineCount script)

-- ---- building

unfoldable pub builtBy : Result ℕ Refused → List ℕ → List ℕ → Seen
builtBy (Err e) script index = seen (refusalNumber e.what) index (blockOf (refusalNumber e.what) e.place 0 0)
builtBy (Ok n) script index =
    let built = seen 0 (startsOf script ++ drop n index) (blockOf 0 0 n 0) in
    if nat_lt (length index) n then seen 26 index (blockOf 26 0 n 0) else built

unfoldable pub indexSeen : List ℕ → List ℕ → List ℕ → Seen
indexSeen script index block = if length block == 16 then builtBy (checkedOf script) script index else seen 20 index block

-- ---- a query

-- among n lines
unfoldable pub foundIn : ℕ → List ℕ → List ℕ → ℕ → Told
foundIn n script index a =
    let k = searchOf index n a in
    told 0 (blockOf 0 0 (suc k) (columnSince script (slice_index index k) a))

unfoldable pub answeredBy : Result ℕ Refused → List ℕ → List ℕ → ℕ → Told
answeredBy (Err e) script index a = told (refusalNumber e.what) (blockOf (refusalNumber e.what) e.place 0 0)
answeredBy (Ok n) script index a =
    let found = if nat_lt (length index) n then told 26 (blockOf 26 0 0 0) else foundIn n script index a in
    if hasText script a a then found else told 25 (blockOf 25 0 0 0)

unfoldable pub positionTold : List ℕ → List ℕ → ℕ → List ℕ → Told
positionTold script index a block = if length block == 16 then answeredBy (checkedOf script) script index a else told 20 block
