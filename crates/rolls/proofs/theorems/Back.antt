-- Writing the tokens that are read gives the same bytes: field `back` of specs/Theorems.RollTheorems.
use Prim.Native.Nat.{ℕ, ◌+◌}
use mathlib.Core.Path.{◌≡◌, sym, ◌∙◌, ap}
use mathlib.Core.List.{List, [], ◌++◌}
use lib.ListN.{length, take, drop, length-drop, take-append-drop}
use lib.Seq.{drop-drop, drop-length}
use native.Mathlib.Omega.{arith}
use Rattle.words.specs.Joins.{Bytes}
use Rattle.words.proofs.Joins.{drop-bytes}
use Rattle.token.specs.paper.Kinds.{Token}
use Rattle.token.specs.paper.Records.{recordLength, recordOf, records}
use Rattle.token.specs.code.Form.{Whole, formOf, heldAt, storedOf}
use Rattle.token.specs.declared.kinds.TokenKind.TheVariants as tk
use Rattle.token.proofs.form.Laws.{form-known, form-record}
use Rattle.token.proofs.form.ReadBack.{record-form}
use Rattle.rolls.specs.paper.Roll.{lengthAt, Sound, yielded, Steps, Outcome, tokens, refused, prepend, Reads}
use Rattle.rolls.specs.computed.Roll.{readRoll}
use Rattle.rolls.proofs.theorems.Kinds.{bit-one, bit-most}
use Rattle.rolls.proofs.theorems.Values.{heldOf, held-is, length-is}
use Rattle.rolls.proofs.theorems.Reading.{reads}
open record-form use {held-on, stored-again}

-- what stands in a token's record is stored as the token's record
stored-of : (t : Token) → storedOf (heldOf t) ≡ recordOf t
unfolding formOf
stored-of t = rw (bit-one t.cut) (form-record t)

module _ (roll : List ℕ) (b : Bytes roll) (at previous : ℕ) (t : Token) (s : Sound roll at previous t) where
  -- what stands there is what the token's record has
  held-here : heldAt (drop at roll) 0 ≡ heldOf t
  held-here = sym (held-on roll at) ∙ held-is roll b at s.known t s.token

  -- and the record is as long as the token's
  size : lengthAt roll at ≡ recordLength t.kind
  size = length-is roll b at s.known t s.token

  -- a whole record stands there
  whole-here : Whole (drop at roll)
  unfolding formOf
  whole-here =
      let r = s.room in
      let n = size in
      record {
        bytes = drop-bytes roll at b;
        known = rw held-here (form-known t.kind);
        room = rw (held-here, length-drop) (omega arith);
        cut = rw held-here (bit-most t.cut);
      }

  -- the record of a sound token is the bytes that it was read from
  sound-again : recordOf t ≡ take (lengthAt roll at) (drop at roll)
  sound-again =
      sym (stored-of t) ∙ ap storedOf (sym held-here) ∙ stored-again (drop at roll) whole-here
      ∙ ap (λ n. take n (drop at roll)) (ap (λ h. h.length) held-here ∙ sym size)

  -- and what follows them stands behind them
  and-rest : (rest : List ℕ) → rest ≡ drop (at + lengthAt roll at) roll → recordOf t ++ rest ≡ drop at roll
  and-rest rest e =
      rw (sound-again, e, ← (drop-drop (lengthAt roll at) at roll)) (take-append-drop (lengthAt roll at) (drop at roll))

-- ---- the roll

-- what is read from an offset on is stored as the bytes from there on
abbrev Again : List ℕ → Outcome → Type 0
Again bytes (tokens ts) = records ts ≡ bytes
Again bytes (refused j a) = Unit {0}

module _ (roll : List ℕ) (b : Bytes roll) where
  -- a yielded token's record, with the bytes behind it, is the bytes from its offset on
  step-again : (at previous next : ℕ) (t : Token) (rest : List ℕ) → Steps roll at previous (yielded t next) → rest ≡ drop next roll → recordOf t ++ rest ≡ drop at roll
  step-again at previous next t rest (Steps.yields s f) e = and-rest roll b at previous t s rest e

  -- behind a yielded Eof the roll ends
  last-next : (at previous next : ℕ) (t : Token) → Steps roll at previous (yielded t next) → t.kind ≡ tk.Eof → next ≡ length roll
  last-next at previous next t (Steps.yields s f) e = f e

  more-again : (at previous next : ℕ) (t : Token) (x : Outcome) → Steps roll at previous (yielded t next) → Again (drop next roll) x → Again (drop at roll) (prepend t x)
  unfolding records
  more-again at previous next t (tokens ts) s w = step-again at previous next t (records ts) s w
  more-again at previous next t (refused j a) s w = tt

  -- so it is of all that are read
  reads-again : {at previous : ℕ} {x : Outcome} → Reads roll at previous x → Again (drop at roll) x
  unfolding records
  reads-again (Reads.refuses s) = tt
  reads-again {at} {previous} (Reads.last {next = next} {t = t} s e) =
      step-again at previous next t [] s (sym (ap (λ n. drop n roll) (last-next at previous next t s e) ∙ drop-length roll))
  reads-again {at} {previous} (Reads.more {next = next} {t = t} {x = x} s e r) = more-again at previous next t x s (reads-again r)

  pub back : (ts : List Token) → readRoll roll ≡ tokens ts → records ts ≡ roll
  back ts e = reads-again ((reads roll b (tokens ts)).0 e)
