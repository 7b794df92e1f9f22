-- One record as the code answers it.
use Rattle.std.specs.Prelude.{ℕ, ◌==◌, if◌then◌else◌, Option, Some, None, Result, Ok, Err}
use Rattle.token.specs.paper.Kinds.{Token}
use Rattle.token.specs.declared.kinds.TokenKind.{TokenKind}
use Rattle.token.specs.declared.form.Held.{Held}
use Rattle.rolls.specs.paper.Refusals.{refusalNumber}
use Rattle.rolls.specs.paper.Roll.{Stepped, yielded, stopped}
use Rattle.rolls.specs.computed.Roll.{lengthFor, isKind, kindFor}
use Rattle.rolls.specs.declared.record.Yielded.{Yielded}
use Rattle.rolls.specs.declared.refusal.Refused.{Refused}

-- the length of a kind's record, where there is a kind of the number
unfoldable pub lengthIf : ℕ → Option ℕ
lengthIf n = if lengthFor n == 0 then None else Some (lengthFor n)

-- the kind of the number with the values, where there is one
unfoldable pub kindIf : ℕ → ℕ → Option TokenKind
kindIf n v = if lengthFor n == 0 then None else Some (kindFor n v)

-- a record's kind, where there is one of its number and length
unfoldable pub kindOf : Held → Option TokenKind
kindOf h = if isKind h.number h.length then Some (kindFor h.number h.values) else None

-- the token that the code hands on
abbrev pub tokenIn : Yielded → Token
tokenIn y = record { kind = y.kind; start = y.start; end = y.end; cut = y.cut }

-- the step that an answer of the code stands for
abbrev pub stepOf : Result Yielded Refused → Stepped
stepOf (Ok y) = yielded (tokenIn y) y.next.at
stepOf (Err e) = stopped (refusalNumber e.what) e.place
