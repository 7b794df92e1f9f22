-- What a host is told, computed, is what is declared of it; and a block has the numbers by which a host steps: fields `tells-roll`, `tells-record` and
-- `by-block` of specs/Theorems.RollTheorems.
use Prim.Native.Nat.{ℕ, ◌+◌, ◌<◌}
use mathlib.Core.Path.{◌≡◌, refl}
use mathlib.Core.Bool.{Bool, true, false, cond}
use mathlib.Core.Logic.{◌↔◌}
use mathlib.Core.List.{List, ◌++◌}
use lib.ListN.{length, take, replicate}
use lib.Dec.{eqb}
use native.Mathlib.Omega.{arith}
use borrow.Author.Tests.{eqb-true, eqb-false, eq-eqb, ne_eqb}
use Rattle.words.specs.Joins.{Bytes}
use Rattle.words.specs.Words.{le4, twoAt, fourAt, Told, told}
use Rattle.words.proofs.Joins.{four-le4, two-fits}
use Rattle.token.specs.paper.Kinds.{Token, kindNumber}
use Rattle.token.specs.paper.Records.{bit, values}
use Rattle.rolls.specs.paper.Roll.{yielded, Steps}
use Rattle.rolls.specs.paper.Host.{outcomeTold, steppedTold, TellsRoll, TellsRecord, tokenBlock}
use Rattle.rolls.specs.computed.Roll.{readAt, readRoll}
use Rattle.rolls.specs.computed.Host.{rollTold, recordTold}
use Rattle.rolls.proofs.theorems.Steps.{steps}
use Rattle.rolls.proofs.theorems.Reading.{reads, onward}

module _ (roll : List ℕ) (b : Bytes roll) where
  -- ---- a roll

  roll-is : (block : List ℕ) → TellsRoll roll block (rollTold roll block)
  unfolding rollTold
  roll-is block = go (eqb (length block) 16) refl
    where
      go : (q : Bool) → eqb (length block) 16 ≡ q → TellsRoll roll block (cond q (outcomeTold (length roll) (readRoll roll)) (told 20 block))
      go true e = TellsRoll.answers (eqb-true (length block) 16 e) ((reads roll b (readRoll roll)).0 refl)
      go false e = TellsRoll.twenty (eqb-false (length block) 16 e)

  roll-only : {block : List ℕ} {x : Told} → TellsRoll roll block x → rollTold roll block ≡ x
  unfolding rollTold
  roll-only {block} (TellsRoll.twenty h) = simp (ne_eqb (length block) 16 h)
  roll-only {block} (TellsRoll.answers {x} h r) = rw (eq-eqb (length block) 16 h, (reads roll b x).1 r)

  pub tells-roll : (block : List ℕ) (x : Told) → (rollTold roll block ≡ x) ↔ TellsRoll roll block x
  tells-roll block x = (λ e. rw e at (roll-is block), roll-only)

  -- ---- one record

  module _ (at previous : ℕ) where
    record-is : (block : List ℕ) → TellsRecord roll at previous block (recordTold roll at previous block)
    unfolding recordTold
    record-is block = go (eqb (length block) 40) refl
      where
        go : (q : Bool) → eqb (length block) 40 ≡ q → TellsRecord roll at previous block (cond q (steppedTold (readAt roll at previous)) (told 20 block))
        go true e = TellsRecord.answers (eqb-true (length block) 40 e) ((steps roll b at previous (readAt roll at previous)).0 refl)
        go false e = TellsRecord.twenty (eqb-false (length block) 40 e)

    record-only : {block : List ℕ} {x : Told} → TellsRecord roll at previous block x → recordTold roll at previous block ≡ x
    unfolding recordTold
    record-only {block} (TellsRecord.twenty h) = simp (ne_eqb (length block) 40 h)
    record-only {block} (TellsRecord.answers {x} h s) = rw (eq-eqb (length block) 40 h, (steps roll b at previous x).1 s)

    pub tells-record : (block : List ℕ) (x : Told) → (recordTold roll at previous block ≡ x) ↔ TellsRecord roll at previous block x
    tells-record block x = (λ e. rw e at (record-is block), record-only)

-- ---- the numbers by which a host steps

-- a kind that is yielded fits 2 bytes
yields-kind : (roll : List ℕ) → Bytes roll → (at previous next : ℕ) (t : Token) → Steps roll at previous (yielded t next) → kindNumber t.kind < 65536
yields-kind roll b at previous next t (Steps.yields s f) = rw s.token.kind-is (two-fits roll (at + 2) b)

-- numbers of a block that fit stand there as they are
block-numbers : (t : Token) (next : ℕ) → kindNumber t.kind < 65536 → t.end < 4294967296 → next < 4294967296
    → (fourAt (tokenBlock t next) 8 ≡ kindNumber t.kind) × (fourAt (tokenBlock t next) 16 ≡ t.end) × (fourAt (tokenBlock t next) 28 ≡ next)
unfolding tokenBlock fourAt twoAt le4
block-numbers t next k e n =
    let fourth = take 8 (values t.kind ++ replicate 8 0) in
    let third = le4 (bit t.cut) ++ (le4 0 ++ (le4 next ++ fourth)) in
    let second = le4 t.start ++ (le4 t.end ++ third) in
    (four-le4 (kindNumber t.kind) second (omega arith), four-le4 t.end third e, four-le4 next fourth n)

pub by-block : (roll : List ℕ) → Bytes roll → (at previous next : ℕ) (t : Token) → length roll < 4294967296 → readAt roll at previous ≡ yielded t next
    → (fourAt (tokenBlock t next) 8 ≡ kindNumber t.kind) × (fourAt (tokenBlock t next) 16 ≡ t.end) × (fourAt (tokenBlock t next) 28 ≡ next)
by-block roll b at previous next t short e =
    let on = onward roll b at previous next t e in
    let within = on.1 in
    block-numbers t next (yields-kind roll b at previous next t ((steps roll b at previous (yielded t next)).0 e)) on.2 (omega arith)
