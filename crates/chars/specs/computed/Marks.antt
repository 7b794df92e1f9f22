-- Where the first direction mark stands, computed, and what is found by one check: where a script stops to be UTF-8, or else its first mark.
use Rattle.std.specs.Prelude.{ℕ, if◌then◌else◌, List, [], ◌∷◌, length, nat_lt, Option, Some, None, Result, Ok, Err}
use Rattle.chars.specs.paper.Classes.{isMark}
use Rattle.chars.specs.paper.Text.{Text, from}
use Rattle.chars.specs.computed.Valid.{validPrefix}

unfoldable pub firstMark : Text → Option ℕ
firstMark [] = None
firstMark (c ∷ s) =
    let rest = firstMark s in
    if isMark c.code then Some c.at else rest

unfoldable pub checked : List ℕ → Result (Option ℕ) ℕ
checked script =
    let valid = validPrefix script in
    let mark = firstMark (from script 0) in
    if nat_lt valid (length script) then Err valid else Ok mark
