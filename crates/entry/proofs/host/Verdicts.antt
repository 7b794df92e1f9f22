-- The order of the refusals, computed: which verdict is met.
use Prim.Native.Nat.{ℕ, ◌≤◌, ◌<◌}
use mathlib.Core.Path.{◌≡◌}
use mathlib.Core.Bool.{false, true}
use mathlib.Core.List.{List}
use borrow.Author.Tests.{le-leb, lt-leb}
use Rattle.std.specs.Prelude.{Option, Ok, Err}
use Rattle.token.specs.paper.Kinds.{Token}
use Rattle.token.specs.paper.Records.{tokenCount, recordBytes}
use Rattle.token.specs.computed.Answer.{Answer, tokenized, refused, answer}
use Rattle.entry.specs.declared.limits.Limits.{Limits}
use Rattle.entry.specs.declared.refusal.Refused.{Refused}
use Rattle.entry.specs.paper.Refusals.{refusalNumber}
use Rattle.entry.specs.computed.Check.{cleanOf}
use Rattle.entry.specs.computed.Host.{granted, rejected, lacking, tooMany, byRoom, verdict}

module _ (most : Option ℕ) (room : ℕ) (w : Answer) where
  module _ (ts : List Token) (e : w ≡ tokenized ts) where
    pub room-many : tooMany most (tokenCount ts) ≡ true → byRoom most room w ≡ rejected 28 0
    unfolding byRoom
    room-many m = rw (e, m)

    module _ (few : tooMany most (tokenCount ts) ≡ false) where
      pub room-granted : recordBytes ts ≤ room → byRoom most room w ≡ granted ts
      unfolding byRoom
      room-granted l = rw (e, few, le-leb (recordBytes ts) room l)

      pub room-lacking : room < recordBytes ts → byRoom most room w ≡ lacking ts
      unfolding byRoom
      room-lacking l = rw (e, few, lt-leb (recordBytes ts) room l)

  pub room-rejected : (j a : ℕ) → w ≡ refused j a → byRoom most room w ≡ rejected j a
  unfolding byRoom
  room-rejected j a e = rw e

module _ (limits : Limits) (script : List ℕ) (room : ℕ) where
  pub verdict-checked : (e : Refused) → cleanOf limits.bytes script ≡ Err e → verdict limits script room ≡ rejected (refusalNumber e.what) e.place
  unfolding verdict
  verdict-checked e q = rw q

  pub verdict-rest : cleanOf limits.bytes script ≡ Ok tt → verdict limits script room ≡ byRoom limits.tokens room (answer script)
  unfolding verdict
  verdict-rest q = rw q
