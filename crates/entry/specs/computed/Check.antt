-- What is asked of every script before it is read, computed: 17, then 27 over the limit that is given, then 18; and 29, behind them.
use Rattle.std.specs.Prelude.{ℕ, List, length, nat_lt, if◌then◌else◌, Option, Some, None, Result, Ok, Err}
use Rattle.chars.specs.paper.Text.{from}
use Rattle.chars.specs.computed.Valid.{validPrefix}
use Rattle.chars.specs.computed.Marks.{firstMark}
use Rattle.token.specs.paper.Records.{mostBytes}
use Rattle.entry.specs.declared.refusal.Refusal.TheVariants as refusal
use Rattle.entry.specs.declared.refusal.Refused.{Refused}

unfoldable pub checkOf : ℕ → List ℕ → Result (Unit {0}) Refused
checkOf most script =
    let valid = validPrefix script in
    let checked = if nat_lt valid (length script) then Err (record { what = refusal.NotUtf8; place = valid }) else Ok tt in
    let within = if nat_lt most (length script) then Err (record { what = refusal.OverLimit; place = 0 }) else checked in
    if nat_lt mostBytes (length script) then Err (record { what = refusal.TooLong; place = 0 }) else within

-- of a script that passes them, its first mark
abbrev pub markBy : Result (Unit {0}) Refused → Option ℕ → Result (Option ℕ) Refused
markBy (Ok x) mark = Ok mark
markBy (Err e) mark = Err e

abbrev pub unmarkedBy : Result (Option ℕ) Refused → Result (Unit {0}) Refused
unmarkedBy (Ok None) = Ok tt
unmarkedBy (Ok (Some a)) = Err (record { what = refusal.DirectionMark; place = a })
unmarkedBy (Err e) = Err e

unfoldable pub markOf : ℕ → List ℕ → Result (Option ℕ) Refused
markOf most script = markBy (checkOf most script) (firstMark (from script 0))

unfoldable pub cleanOf : ℕ → List ℕ → Result (Unit {0}) Refused
cleanOf most script = unmarkedBy (markOf most script)
