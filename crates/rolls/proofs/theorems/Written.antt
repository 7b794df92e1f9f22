-- What the writer stores is read to the same tokens: field `written` of specs/Theorems.RollTheorems.
use Prim.Native.Nat.{ℕ, zero, suc, ◌+◌, ◌*◌, ◌-◌, ◌%◌, ◌≤◌, ◌<◌}
use mathlib.Core.Path.{◌≡◌, refl, sym, ◌∙◌, ap}
use mathlib.Core.Bool.{false}
use mathlib.Core.List.{List, [], ◌++◌}
use lib.ListN.{length, drop, length-append, length-drop}
use lib.Seq.{drop-drop, drop_at}
use native.Mathlib.Nat.{mod-eq_of_lt}
use native.Mathlib.Omega.{arith}
use borrow.Author.Tests.{le-ltb}
use Rattle.token.specs.paper.Kinds.{kindNumber, Token}
use Rattle.token.specs.paper.Reading.{OnlyLastEof}
use Rattle.token.specs.paper.Records.{bit, valuesOf, headLength, recordLength, recordOf, records, mostBytes}
use Rattle.token.specs.code.Form.{joined, heldAt}
use Rattle.token.specs.declared.kinds.TokenKind.{TokenKind}
use Rattle.token.specs.declared.kinds.TokenKind.TheVariants as tk
use Rattle.token.proofs.form.Stores.{length-record}
use Rattle.token.proofs.form.ReadBack.{record-form}
use Rattle.token.proofs.theorems.Bounded.{ValuesWithin, Bounded, AllBounded, InOrder, token-back}
use Rattle.rolls.specs.paper.Roll.{lengthAt, kindAt, of-kind, yielded, tokens, prepend}
use Rattle.rolls.specs.computed.Roll.{lengthFor, badValues, isWrong, stepHeld, readAt, isEof, readIn, readFrom, readRoll}
use Rattle.rolls.proofs.theorems.Kinds.{Carries, int, long, content, mark, nothing, carries, length-least, is-kind, Fit, bit-most, lower, upper}
use Rattle.rolls.proofs.theorems.Rules.{bad-none}
use Rattle.rolls.proofs.theorems.Values.{heldOf, token-held}
use Rattle.rolls.proofs.theorems.Eofs.{number-eof, other-kind}
use Rattle.rolls.proofs.theorems.Steps.{held-yields, whole-known}
use Rattle.rolls.proofs.theorems.Reading.{read-last, read-more}
open record-form use {held-on}

-- ---- values within their limits

-- they fit
within-fit : (a e : ℕ) {k : TokenKind} → Carries k → e ≤ mostBytes → ValuesWithin a e k → Fit (valuesOf k)
within-fit a e (int v) s h = (omega arith, tt)
within-fit a e (long v) s h = (omega arith, tt)
within-fit a e (content b c) s h = let x = h.1 in let y = h.2 in (omega arith, (omega arith, tt))
within-fit a e (mark m) s h = let l = bit-most m in (omega arith, tt)
within-fit a e (nothing k n l b) s h = rw n tt

-- and break none of 24's rules
str-good : (a e size c b d : ℕ) → b < 4294967296 → d < 4294967296 → a ≤ b → b ≤ d → d ≤ e
    → badValues (record { number = 6; length = size; values = b % 4294967296 + d % 4294967296 * 4294967296; start = a; end = e; cut = c }) ≡ false
unfolding badValues
str-good a e size c b d p q x y z = rw (mod-eq_of_lt p, mod-eq_of_lt q, lower b d p, upper b d p, le-ltb b a x, le-ltb e d z, le-ltb d b y)

-- nor does a kind without values, which has its number's length
bare-good : (n size v a e c : ℕ) → lengthFor n ≡ headLength → badValues (record { number = n; length = size; values = v; start = a; end = e; cut = c }) ≡ false
unfolding lengthFor
bare-good n size v a e c l =
    let no : (j : ℕ) → (lengthFor j ≡ headLength → ⊥) → n ≡ j → ⊥ = λ j f q. f (rw q at l) in
    bad-none (record { number = n; length = size; values = v; start = a; end = e; cut = c }) (no 4 (λ z. omega arith)) (no 5 (λ z. omega arith)) (no 6 (λ z. omega arith))
    (no 17 (λ z. omega arith))

-- the same of any kind
within-good : (a e c : ℕ) {k : TokenKind} → Carries k → e ≤ mostBytes → ValuesWithin a e k
    → badValues (record { number = kindNumber k; length = recordLength k; values = joined (valuesOf k); start = a; end = e; cut = c }) ≡ false
unfolding badValues
within-good a e c (int v) s h = le-ltb 2147483647 v h
within-good a e c (long v) s h = le-ltb 9223372036854775807 v h
within-good a e c (content b d) s h =
    let x = h.0 in
    let y = h.1 in
    let z = h.2 in
    str-good a e (recordLength (tk.Str b d)) c b d (omega arith) (omega arith) x y z
within-good a e c (mark m) s h = le-ltb 1 (bit m) (bit-most m)
within-good a e c (nothing k n l b) s h = bare-good (kindNumber k) (recordLength k) (joined (valuesOf k)) a e c l

module _ (n : ℕ) (short : n ≤ mostBytes) (roll : List ℕ) where
  -- ---- one record

  module _ (at previous : ℕ) (t : Token) (h : Bounded n t) (after : previous ≤ t.start) where
    -- a token within its limits, not before the one before it, breaks no rule
    right : isWrong (heldOf t) previous ≡ false
    unfolding isWrong
    right =
        let l = h.start in
        let m = h.end in
        rw (le-ltb 1 (bit t.cut) (bit-most t.cut), le-ltb t.end t.start l, le-ltb t.start previous after)
        (within-good t.start t.end (bit t.cut) (carries t.kind) (omega arith) h.values)

    -- and its values fit
    fit : Fit (valuesOf t.kind)
    fit = let m = h.end in within-fit t.start t.end (carries t.kind) (omega arith) h.values

    module _ (rest : List ℕ) (here : drop at roll ≡ recordOf t ++ rest) where
      -- what stands there is what the token's record has
      held-there : heldAt roll at ≡ heldOf t
      held-there = held-on roll at ∙ ap (λ l. heldAt l 0) here ∙ token-back n short t h rest

      -- the bytes left are the record and what follows
      left-is : length roll - at ≡ recordLength t.kind + length rest
      left-is = sym (length-drop at roll) ∙ ap length here ∙ length-append (recordOf t) rest ∙ ap (λ m. m + length rest) (length-record t)

      -- a token's record is yielded as the token, if it is no Eof or nothing follows
      step-written : (t.kind ≡ tk.Eof → rest ≡ []) → readAt roll at previous ≡ yielded t (at + recordLength t.kind)
      unfolding heldAt
      step-written f =
          let size : lengthAt roll at ≡ recordLength t.kind = ap (λ x. x.length) held-there in
          let number : kindAt roll at ≡ kindNumber t.kind = ap (λ x. x.number) held-there in
          let k = of-kind t.kind in
          let least = length-least k in
          let left = left-is in
          whole-known roll at previous (omega arith) (omega arith) (rw (number, size) (is-kind k))
          ∙ ap (λ x. stepHeld x at (length roll - at) previous) held-there
          ∙ held-yields (heldOf t) at (length roll - at) previous right (λ e. let z = ap length (f (number-eof t.kind e)) in omega arith)
          ∙ ap (λ x. yielded x (at + recordLength t.kind)) (token-held t fit)

      -- and what follows stands behind it
      rest-there : drop (at + recordLength t.kind) roll ≡ rest
      rest-there =
          sym (drop-drop (recordLength t.kind) at roll)
          ∙ ap (drop (recordLength t.kind)) here
          ∙ drop_at (recordOf t) rest (recordLength t.kind) (length-record t)

  -- ---- and all of them

  -- from an offset on, with any bound past the bytes left
  read-records : {ts : List Token} → OnlyLastEof ts → (most at previous : ℕ) → AllBounded n ts → InOrder previous ts → drop at roll ≡ records ts
      → length roll - at < most → readIn most roll at previous ≡ tokens ts
  unfolding records
  read-records w zero at previous h o e l = absurd (omega arith)
  read-records (OnlyLastEof.eof {t} q) (suc most) at previous h o e l =
      read-last most roll at previous t (at + recordLength t.kind) (step-written at previous t h.0 o.0 [] e (λ z. refl)) (ap isEof q)
  read-records (OnlyLastEof.other {t} {ts} q w) (suc most) at previous h o e l =
      let least = length-least (of-kind t.kind) in
      let left = left-is at previous t h.0 o.0 (records ts) e in
      let step = step-written at previous t h.0 o.0 (records ts) e (λ z. absurd (q z)) in
      read-more most roll at previous t (at + recordLength t.kind) step (other-kind t.kind q)
      ∙ ap (prepend t)
      (read-records w most (at + recordLength t.kind) t.end h.1 o.1 (rest-there at previous t h.0 o.0 (records ts) e) (omega arith))

-- from the start
pub read-written : (n : ℕ) (ts : List Token) → n ≤ mostBytes → AllBounded n ts → InOrder 0 ts → OnlyLastEof ts → readRoll (records ts) ≡ tokens ts
unfolding readRoll readFrom
read-written n ts short h o w = read-records n short (records ts) w (suc (length (records ts) - 0)) 0 0 h o refl (omega arith)
