-- One record: the step branch by branch, and the step that an answer of the code stands for.
use Prim.Native.Nat.{ℕ, ◌+◌, ◌-◌, ◌≤◌, ◌<◌}
use mathlib.Core.Path.{◌≡◌, refl, sym, ◌∙◌, ap}
use mathlib.Core.Bool.{Bool, true, false, or-true}
use mathlib.Core.List.{List}
use lib.ListN.{length, take, drop, length-drop}
use lib.Seq.{take_all}
use native.Mathlib.Nat.{le_of_eq}
use native.Mathlib.Omega.{arith}
use lib.Dec.{eqb}
use borrow.Author.Tests.{eqb-false, le-leb, lt-leb, lt-ltb, le-ltb}
use Rattle.token.specs.code.Form.{heldAt, RecordForm}
use Rattle.token.specs.declared.form.Held.{Held}
use Rattle.rolls.specs.paper.Roll.{yielded, stopped}
use Rattle.std.specs.Prelude.{None}
use Rattle.rolls.specs.code.Record.{kindOf}
use Rattle.rolls.specs.computed.Roll.{lengthFor, isKind, isWrong, tokenOf, stepHeld, readAt, eofFollowed}

-- no kind's number is past the keywords'
pub none-above : (n : ℕ) → 45 < n → 0 ≡ lengthFor n
unfolding lengthFor
none-above n a = grind arith

-- a record with such a number has no kind
pub no_kind : (h : Held) → 45 < h.number → kindOf h ≡ None
unfolding kindOf isKind
no_kind h a = go (eqb h.length 0) refl
  where
    go : (b : Bool) → eqb h.length 0 ≡ b → kindOf h ≡ None
    go true e = rw e refl
    go false e = let n = eqb-false h.length 0 e in rw (← (none-above h.number a), e) refl

-- ---- one step, branch by branch

-- what is read at the start of the bytes that are left is the record at the place
pub held_left : RecordForm → (roll : List ℕ) (at : ℕ) → heldAt (take (length roll - at) (drop at roll)) 0 ≡ heldAt roll at
held_left form roll at =
    let all : take (length roll - at) (drop at roll) ≡ drop at roll = take_all (length roll - at) (drop at roll) (le_of_eq (length-drop at roll)) in
    ap (λ l. heldAt l 0) all ∙ sym (form.held-on roll at)

module _ (h : Held) (at left previous : ℕ) where
  -- a rule is broken
  pub held-wrong : isWrong h previous ≡ true → stepHeld h at left previous ≡ stopped 24 at
  unfolding stepHeld
  held-wrong w = simp w

  module _ (w : isWrong h previous ≡ false) where
    -- bytes after Eof
    pub held-more : eofFollowed h left ≡ true → stepHeld h at left previous ≡ stopped 24 (at + h.length)
    unfolding stepHeld
    held-more m = simp (w, m)

    pub held-token : eofFollowed h left ≡ false → stepHeld h at left previous ≡ yielded (tokenOf h) (at + h.length)
    unfolding stepHeld
    held-token m = simp (w, m)

module _ (roll : List ℕ) (at previous : ℕ) where
  -- no bytes are left
  pub step-end : length roll ≤ at → readAt roll at previous ≡ stopped 24 (length roll)
  unfolding readAt
  step-end i = simp (le-leb (length roll) at i)

  module _ (h : Held) (e : h ≡ heldAt roll at) (i : at < length roll) where
    -- fewer than four
    pub step-few : length roll - at < 4 → readAt roll at previous ≡ stopped 22 at
    unfolding readAt
    step-few f = simp (lt-leb (length roll) at i, lt-ltb (length roll - at) 4 f)

    -- fewer than the record's length
    pub step-short : length roll - at < h.length → readAt roll at previous ≡ stopped 22 at
    unfolding readAt
    step-short s = simp (lt-leb (length roll) at i, ← e, lt-ltb (length roll - at) h.length s, or-true)

    module _ (f : 4 ≤ length roll - at) (s : h.length ≤ length roll - at) where
      -- no kind has this number and this length
      pub step-unknown : isKind h.number h.length ≡ false → readAt roll at previous ≡ stopped 23 at
      unfolding readAt
      step-unknown k = simp (lt-leb (length roll) at i, le-ltb (length roll - at) 4 f, ← e, le-ltb (length roll - at) h.length s, k)

      -- a whole record of a known kind
      pub step-known : isKind h.number h.length ≡ true → readAt roll at previous ≡ stepHeld h at (length roll - at) previous
      unfolding readAt
      step-known k = simp (lt-leb (length roll) at i, le-ltb (length roll - at) 4 f, ← e, le-ltb (length roll - at) h.length s, k)
