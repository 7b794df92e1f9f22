-- What the host sees, computed: the verdict in the order of the refusals, and what follows from it.
use Rattle.std.specs.Prelude.{ℕ, Bool, false, if◌then◌else◌, List, ◌++◌, length, drop, ◌==◌, nat_le, nat_lt, Option, Some, None, Result, Ok, Err}
use Rattle.token.specs.paper.Kinds.{Token}
use Rattle.token.specs.computed.Answer.{Answer, answer}
use Rattle.token.specs.paper.Records.{records, tokenCount, recordBytes}
use Rattle.words.specs.Words.{blockOf}
use Rattle.entry.specs.declared.limits.Limits.{Limits}
use Rattle.entry.specs.declared.refusal.Refused.{Refused}
use Rattle.entry.specs.paper.Limits.{compiler}
use Rattle.entry.specs.paper.Refusals.{refusalNumber}
use Rattle.entry.specs.paper.Host.{seen, Seen}
use Rattle.entry.specs.computed.Check.{cleanOf}

-- the answer with `room` bytes lent: accepted, a refusal's number and place, or 19, with the tokens
pub data Verdict : Type 0 where
  granted : List Token → Verdict
  rejected : ℕ → ℕ → Verdict
  lacking : List Token → Verdict

-- more tokens than the limit, where there is one
abbrev pub tooMany : Option ℕ → ℕ → Bool
tooMany None n = false
tooMany (Some most) n = nat_lt most n

-- 28, then 19: records need more than lent
unfoldable pub byRoom : Option ℕ → ℕ → Answer → Verdict
byRoom most room (Answer.tokenized ts) =
    let lent = if nat_le (recordBytes ts) room then granted ts else lacking ts in
    if tooMany most (tokenCount ts) then rejected 28 0 else lent
byRoom most room (Answer.refused j a) = rejected j a

-- 17, 27, 18 and 29 go before
abbrev pub checkedBy : Result (Unit {0}) Refused → Verdict → Verdict
checkedBy (Ok x) v = v
checkedBy (Err e) v = rejected (refusalNumber e.what) e.place

unfoldable pub verdict : Limits → List ℕ → ℕ → Verdict
verdict limits script room = checkedBy (cleanOf limits.bytes script) (byRoom limits.tokens room (answer script))

-- the number, the buffer and the block that follow from it
unfoldable pub seenOf : Verdict → List ℕ → Seen
seenOf (granted ts) buffer = seen 0 (records ts ++ drop (recordBytes ts) buffer) (blockOf 0 0 (tokenCount ts) (recordBytes ts))
seenOf (rejected j a) buffer = seen j buffer (blockOf j a 0 0)
seenOf (lacking ts) buffer = seen 19 buffer (blockOf 19 0 (tokenCount ts) (recordBytes ts))

-- within limits, and within the compiler's
unfoldable pub hostFor : Limits → List ℕ → List ℕ → List ℕ → Seen
hostFor limits script buffer block =
    let judged = seenOf (verdict limits script (length buffer)) buffer in
    if length block == 16 then judged else seen 20 buffer block

abbrev pub hostOf : List ℕ → List ℕ → List ℕ → Seen
hostOf = hostFor compiler
