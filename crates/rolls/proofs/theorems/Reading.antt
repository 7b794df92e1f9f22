-- The whole roll, computed, is what is declared of it, and it ends with its only Eof: fields `reads` and `one-eof` of specs/Theorems.RollTheorems.
use Prim.Native.Nat.{ℕ, zero, suc, ◌+◌, ◌-◌, ◌≤◌, ◌<◌}
use mathlib.Core.Path.{◌≡◌, refl, ◌∙◌, ap}
use mathlib.Core.Bool.{Bool, true, false}
use mathlib.Core.Logic.{◌↔◌}
use mathlib.Core.List.{List, [], ◌∷◌}
use lib.ListN.{length}
use native.Mathlib.Omega.{arith}
use Rattle.words.specs.Joins.{Bytes}
use Rattle.words.proofs.Joins.{four-fits}
use Rattle.token.specs.paper.Kinds.{Token}
use Rattle.token.specs.paper.Records.{headLength}
use Rattle.token.specs.declared.kinds.TokenKind.TheVariants as tk
use Rattle.token.specs.paper.Reading.{OnlyLastEof}
use Rattle.rolls.specs.paper.Roll.{Stepped, yielded, stopped, Steps, Outcome, tokens, refused, prepend, Reads}
use Rattle.rolls.specs.computed.Roll.{readAt, isEof, readIn, readFrom, readRoll}
use Rattle.rolls.proofs.theorems.Kinds.{length-least}
use Rattle.rolls.proofs.theorems.Eofs.{is-eof, not-eof, other-kind}
use Rattle.rolls.proofs.theorems.Steps.{step-is, steps-only, steps}

-- ---- one more record

module _ (most : ℕ) (roll : List ℕ) (at previous : ℕ) where
  -- a refusal ends it
  read-stop : (j a : ℕ) → readAt roll at previous ≡ stopped j a → readIn (suc most) roll at previous ≡ refused j a
  unfolding readIn
  read-stop j a e = rw (e, readIn)

  -- Eof ends it
  pub read-last : (t : Token) (next : ℕ) → readAt roll at previous ≡ yielded t next → isEof t.kind ≡ true
      → readIn (suc most) roll at previous ≡ tokens (t ∷ [])
  unfolding readIn
  read-last t next e q = rw (e, q, readIn)

  -- any other token is followed by what is read behind it
  pub read-more : (t : Token) (next : ℕ) → readAt roll at previous ≡ yielded t next → isEof t.kind ≡ false
      → readIn (suc most) roll at previous ≡ prepend t (readIn most roll next t.end)
  unfolding readIn
  read-more t next e q = rw (e, q, readIn)

-- a record that is yielded has bytes, and they lie within the roll
pub yields-on : (roll : List ℕ) (at previous next : ℕ) (t : Token) → Steps roll at previous (yielded t next) → (at + headLength ≤ next) × (next ≤ length roll)
yields-on roll at previous next t (Steps.yields s f) = let k = length-least s.known in let r = s.room in (omega arith, r)

-- and its token's end fits 4 bytes
yields-end : (roll : List ℕ) → Bytes roll → (at previous next : ℕ) (t : Token) → Steps roll at previous (yielded t next) → t.end < 4294967296
yields-end roll b at previous next t (Steps.yields s f) = rw s.token.end-is (four-fits roll (at + 8) b)

pub onward : (roll : List ℕ) → Bytes roll → (at previous next : ℕ) (t : Token) → readAt roll at previous ≡ yielded t next
    → (at < next) × (next ≤ length roll) × (t.end < 4294967296)
onward roll b at previous next t e =
    let s = (steps roll b at previous (yielded t next)).0 e in
    let o = yields-on roll at previous next t s in
    let l = o.0 in
    (omega arith, o.1, yields-end roll b at previous next t s)

module _ (roll : List ℕ) (b : Bytes roll) where
  -- ---- what is declared is computed, with any bound past the bytes left

  -- by the declaration
  reads-only : {at previous : ℕ} {x : Outcome} → Reads roll at previous x → (most : ℕ) → length roll - at < most → readIn most roll at previous ≡ x
  reads-only r zero h = absurd (omega arith)
  reads-only {at} {previous} (Reads.refuses {j = j} {a = a} s) (suc most) h = read-stop most roll at previous j a (steps-only roll b at previous s)
  reads-only {at} {previous} (Reads.last {next = next} {t = t} s e) (suc most) h =
      read-last most roll at previous t next (steps-only roll b at previous s) (ap isEof e)
  reads-only {at} {previous} (Reads.more {next = next} {t = t} s e r) (suc most) h =
      let o = yields-on roll at previous next t s in
      let l = o.0 in
      let m = o.1 in
      read-more most roll at previous t next (steps-only roll b at previous s) (other-kind t.kind e)
      ∙ ap (prepend t) (reads-only r most (omega arith))

  -- ---- and it is declared of what is computed

  module _ (most at previous : ℕ) where
    reads-more : (t : Token) (next : ℕ) → readAt roll at previous ≡ yielded t next → Reads roll next t.end (readIn most roll next t.end)
        → Reads roll at previous (readIn (suc most) roll at previous)
    reads-more t next e r = go (isEof t.kind) refl
      where
        s : Steps roll at previous (yielded t next)
        s = rw e at (step-is roll b at previous)

        go : (q : Bool) → isEof t.kind ≡ q → Reads roll at previous (readIn (suc most) roll at previous)
        go true q = rw (read-last most roll at previous t next e q) (Reads.last s (is-eof t.kind q))
        go false q = rw (read-more most roll at previous t next e q) (Reads.more s (not-eof t.kind q) r)

    reads-stop : (j a : ℕ) → readAt roll at previous ≡ stopped j a → Reads roll at previous (readIn (suc most) roll at previous)
    reads-stop j a e = rw (read-stop most roll at previous j a e) (Reads.refuses (rw e at (step-is roll b at previous)))

  -- by the bound
  reads-in : (most at previous : ℕ) → length roll - at < most → Reads roll at previous (readIn most roll at previous)
  reads-in zero at previous h = absurd (omega arith)
  reads-in (suc most) at previous h = go (readAt roll at previous) refl (reads-in most)
    where
      go : (y : Stepped) → readAt roll at previous ≡ y
          → ((next end : ℕ) → length roll - next < most → Reads roll next end (readIn most roll next end))
          → Reads roll at previous (readIn (suc most) roll at previous)
      go (stopped j a) e r = reads-stop most at previous j a e
      go (yielded t next) e r =
          let o = yields-on roll at previous next t (rw e at (step-is roll b at previous)) in
          let l = o.0 in
          let m = o.1 in
          reads-more most at previous t next e (r next t.end (omega arith))

  -- ---- from an offset on, with the bound that is computed

  pub from-is : (at previous : ℕ) → Reads roll at previous (readFrom roll at previous)
  unfolding readFrom
  from-is at previous = reads-in (suc (length roll - at)) at previous (omega arith)

  pub from-only : {at previous : ℕ} {x : Outcome} → Reads roll at previous x → readFrom roll at previous ≡ x
  unfolding readFrom
  from-only {at} r = reads-only r (suc (length roll - at)) (omega arith)

  pub reads : (x : Outcome) → (readRoll roll ≡ x) ↔ Reads roll 0 0 x
  unfolding readRoll
  reads x = (λ e. rw e at (from-is 0 0), from-only)

-- ---- the last token is Eof, and no other is

-- of what is read
abbrev EndsWell : Outcome → Type 0
EndsWell (tokens ts) = OnlyLastEof ts
EndsWell (refused j a) = Unit {0}

-- a token before the others
more-ends : (t : Token) (x : Outcome) → (t.kind ≡ tk.Eof → ⊥) → EndsWell x → EndsWell (prepend t x)
more-ends t (tokens ts) e w = OnlyLastEof.other e w
more-ends t (refused j a) e w = tt

-- so it is of all that are read
reads-ends : {roll : List ℕ} {at previous : ℕ} {x : Outcome} → Reads roll at previous x → EndsWell x
reads-ends (Reads.refuses s) = tt
reads-ends (Reads.last s e) = OnlyLastEof.eof e
reads-ends (Reads.more {t = t} {x = x} s e r) = more-ends t x e (reads-ends r)

pub one-eof : (roll : List ℕ) → Bytes roll → (ts : List Token) → readRoll roll ≡ tokens ts → OnlyLastEof ts
one-eof roll b ts e = reads-ends ((reads roll b (tokens ts)).0 e)
