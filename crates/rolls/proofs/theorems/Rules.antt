-- 24's rules for a record of a known kind, computed, are those that are declared.
use Prim.Native.Nat.{ℕ, ◌+◌, ◌≤◌, ◌<◌}
use mathlib.Core.Path.{◌≡◌, refl, sym, ◌∙◌, ap}
use mathlib.Core.Bool.{Bool, true, false, ◌||◌, or-true}
use mathlib.Core.Logic.{◌⊎◌, inl, inr, ◌↔◌}
use mathlib.Core.List.{List}
use lib.Dec.{eqb, ltb}
use native.Mathlib.Nat.{add_assoc}
use native.Mathlib.Omega.{arith}
use borrow.Author.Tests.{eqb-true, eqb-false, ne_eqb, ltb-true, lt-ltb}
use Rattle.chars.proofs.Bools.{clash}
use Rattle.words.specs.Joins.{Bytes}
use Rattle.words.specs.Words.{oneAt, twoAt, fourAt, eightAt}
use Rattle.words.proofs.Joins.{four-fits}
use Rattle.token.specs.paper.Records.{headLength, intLength, longLength, strLength, lineLength}
use Rattle.token.specs.code.Form.{valuesAt, heldAt}
use Rattle.token.specs.declared.form.Held.{Held}
use Rattle.rolls.specs.paper.Roll.{lengthAt, kindAt, startAt, endAt, cutAt, contentStart, contentEnd, KindLength, Wrong}
use Rattle.rolls.specs.computed.Roll.{lengthFor, badValues, isWrong}
use Rattle.rolls.proofs.theorems.Kinds.{known-length, lower, upper}

-- ---- tests

or-either : (p q : Bool) → p || q ≡ true → (p ≡ true) ⊎ (q ≡ true)
or-either true q e = inl refl
or-either false q e = inr e

-- ---- values

-- kinds without values have no rule of them
pub bad-none : (h : Held) → (h.number ≡ 4 → ⊥) → (h.number ≡ 5 → ⊥) → (h.number ≡ 6 → ⊥) → (h.number ≡ 17 → ⊥) → badValues h ≡ false
unfolding badValues
bad-none h int long str line = rw (ne_eqb h.number 4 int, ne_eqb h.number 5 long, ne_eqb h.number 6 str, ne_eqb h.number 17 line)

-- ---- signs

module _ (roll : List ℕ) (b : Bytes roll) where
  -- the last of four bytes is 128 or more where the number is past the largest that is not negative
  four-sign : (i : ℕ) → (128 ≤ oneAt roll (i + 3)) ↔ (2147483647 < fourAt roll i)
  unfolding fourAt twoAt
  four-sign i =
      let x = b i in
      let y = b (i + 1) in
      let z = b (i + 2) in
      rw (add_assoc i 2 1) (λ h. omega arith, λ h. omega arith)

  -- the same of eight bytes
  eight-sign : (i : ℕ) → (128 ≤ oneAt roll (i + 7)) ↔ (9223372036854775807 < eightAt roll i)
  unfolding eightAt
  eight-sign i =
      let f = four-fits roll i b in
      let s : (128 ≤ oneAt roll (i + 7)) ↔ (2147483647 < fourAt roll (i + 4)) = rw (add_assoc i 4 3) at (four-sign (i + 4)) in
      (λ h. omega (arith, s.0 h), λ h. s.1 (omega arith))

  module _ (at : ℕ) (known : KindLength (kindAt roll at) (lengthAt roll at)) where
    -- ---- the values' rules, by the kind

    -- IntLit: a negative value
    bad-int : kindAt roll at ≡ 4 → badValues (heldAt roll at) ≡ ltb 2147483647 (fourAt roll (at + headLength))
    unfolding badValues heldAt valuesAt lengthFor
    bad-int e = let s : lengthAt roll at ≡ intLength = known-length known ∙ ap lengthFor e in rw (e, s)

    -- LongLit: the same
    bad-long : kindAt roll at ≡ 5 → badValues (heldAt roll at) ≡ ltb 9223372036854775807 (eightAt roll (at + headLength))
    unfolding badValues heldAt valuesAt lengthFor
    bad-long e = let s : lengthAt roll at ≡ longLength = known-length known ∙ ap lengthFor e in rw (e, s)

    -- Str: content outside its token, or ending before it starts
    bad-str : kindAt roll at ≡ 6
        → badValues (heldAt roll at)
        ≡ ltb (contentStart roll at) (startAt roll at) || ltb (endAt roll at) (contentEnd roll at) || ltb (contentEnd roll at) (contentStart roll at)
    unfolding badValues heldAt valuesAt lengthFor eightAt
    bad-str e =
        let s : lengthAt roll at ≡ strLength = known-length known ∙ ap lengthFor e in
        let f = four-fits roll (at + headLength) b in
        rw (e, s, lower (contentStart roll at) (contentEnd roll at) f, upper (contentStart roll at) (contentEnd roll at) f)

    -- Newline: an after-comment byte above 1
    bad-line : kindAt roll at ≡ 17 → badValues (heldAt roll at) ≡ ltb 1 (oneAt roll (at + headLength))
    unfolding badValues heldAt valuesAt lengthFor
    bad-line e = let s : lengthAt roll at ≡ lineLength = known-length known ∙ ap lengthFor e in rw (e, s)

    module _ (previous : ℕ) where
      -- ---- what breaks a rule breaks it computed

      -- what breaks a rule of the values breaks one
      bad-wrong : badValues (heldAt roll at) ≡ true → isWrong (heldAt roll at) previous ≡ true
      unfolding isWrong
      bad-wrong e = simp (e, or-true)

      pub wrong-is : Wrong roll at previous → isWrong (heldAt roll at) previous ≡ true
      unfolding isWrong heldAt
      wrong-is (Wrong.cut-byte h) = rw (lt-ltb 1 (cutAt roll at) h)
      wrong-is (Wrong.past-end h) = simp (lt-ltb (endAt roll at) (startAt roll at) h, or-true)
      wrong-is (Wrong.before-previous h) = simp (lt-ltb (startAt roll at) previous h, or-true)
      wrong-is (Wrong.after-comment e h) = bad-wrong (bad-line e ∙ lt-ltb 1 (oneAt roll (at + headLength)) h)
      wrong-is (Wrong.negative-int e h) = bad-wrong (bad-int e ∙ lt-ltb 2147483647 (fourAt roll (at + headLength)) ((four-sign (at + headLength)).0 h))
      wrong-is (Wrong.negative-long e h) =
          bad-wrong (bad-long e ∙ lt-ltb 9223372036854775807 (eightAt roll (at + headLength)) ((eight-sign (at + headLength)).0 h))
      wrong-is (Wrong.content-before e h) = bad-wrong (bad-str e ∙ rw (lt-ltb (contentStart roll at) (startAt roll at) h))
      wrong-is (Wrong.content-past e h) = bad-wrong (bad-str e ∙ simp (lt-ltb (endAt roll at) (contentEnd roll at) h, or-true))
      wrong-is (Wrong.content-order e h) = bad-wrong (bad-str e ∙ simp (lt-ltb (contentEnd roll at) (contentStart roll at) h, or-true))

      -- ---- and the other way

      -- of Str
      str-wrong : kindAt roll at ≡ 6 → badValues (heldAt roll at) ≡ true → Wrong roll at previous
      str-wrong e h = last (or-either _ _ (sym (bad-str e) ∙ h))
        where
          first : (ltb (contentStart roll at) (startAt roll at) ≡ true) ⊎ (ltb (endAt roll at) (contentEnd roll at) ≡ true) → Wrong roll at previous
          first (inl h) = Wrong.content-before e (ltb-true (contentStart roll at) (startAt roll at) h)
          first (inr h) = Wrong.content-past e (ltb-true (endAt roll at) (contentEnd roll at) h)

          last : (ltb (contentStart roll at) (startAt roll at) || ltb (endAt roll at) (contentEnd roll at) ≡ true) ⊎ (ltb (contentEnd roll at) (contentStart roll at) ≡ true)
              → Wrong roll at previous
          last (inl h) = first (or-either _ _ h)
          last (inr h) = Wrong.content-order e (ltb-true (contentEnd roll at) (contentStart roll at) h)

      -- of any kind
      values-wrong : badValues (heldAt roll at) ≡ true → Wrong roll at previous
      unfolding heldAt
      values-wrong h = int (eqb (kindAt roll at) 4) refl
        where
          line : (kindAt roll at ≡ 4 → ⊥) → (kindAt roll at ≡ 5 → ⊥) → (kindAt roll at ≡ 6 → ⊥) → (t : Bool) → eqb (kindAt roll at) 17 ≡ t → Wrong roll at previous
          line x y z true q =
              let e = eqb-true (kindAt roll at) 17 q in
              Wrong.after-comment e (ltb-true 1 (oneAt roll (at + headLength)) (sym (bad-line e) ∙ h))
          line x y z false q = clash (sym (bad-none (heldAt roll at) x y z (eqb-false (kindAt roll at) 17 q)) ∙ h)

          str : (kindAt roll at ≡ 4 → ⊥) → (kindAt roll at ≡ 5 → ⊥) → (t : Bool) → eqb (kindAt roll at) 6 ≡ t → Wrong roll at previous
          str x y true q = str-wrong (eqb-true (kindAt roll at) 6 q) h
          str x y false q = line x y (eqb-false (kindAt roll at) 6 q) (eqb (kindAt roll at) 17) refl

          long : (kindAt roll at ≡ 4 → ⊥) → (t : Bool) → eqb (kindAt roll at) 5 ≡ t → Wrong roll at previous
          long x true q =
              let e = eqb-true (kindAt roll at) 5 q in
              let l = ltb-true 9223372036854775807 (eightAt roll (at + headLength)) (sym (bad-long e) ∙ h) in
              Wrong.negative-long e ((eight-sign (at + headLength)).1 l)
          long x false q = str x (eqb-false (kindAt roll at) 5 q) (eqb (kindAt roll at) 6) refl

          int : (t : Bool) → eqb (kindAt roll at) 4 ≡ t → Wrong roll at previous
          int true q =
              let e = eqb-true (kindAt roll at) 4 q in
              let l = ltb-true 2147483647 (fourAt roll (at + headLength)) (sym (bad-int e) ∙ h) in
              Wrong.negative-int e ((four-sign (at + headLength)).1 l)
          int false q = long (eqb-false (kindAt roll at) 4 q) (eqb (kindAt roll at) 5) refl

      pub is-wrong : isWrong (heldAt roll at) previous ≡ true → Wrong roll at previous
      unfolding isWrong heldAt
      is-wrong e = values (or-either _ _ e)
        where
          ends : (ltb 1 (cutAt roll at) ≡ true) ⊎ (ltb (endAt roll at) (startAt roll at) ≡ true) → Wrong roll at previous
          ends (inl h) = Wrong.cut-byte (ltb-true 1 (cutAt roll at) h)
          ends (inr h) = Wrong.past-end (ltb-true (endAt roll at) (startAt roll at) h)

          before : (ltb 1 (cutAt roll at) || ltb (endAt roll at) (startAt roll at) ≡ true) ⊎ (ltb (startAt roll at) previous ≡ true) → Wrong roll at previous
          before (inl h) = ends (or-either _ _ h)
          before (inr h) = Wrong.before-previous (ltb-true (startAt roll at) previous h)

          values : (ltb 1 (cutAt roll at) || ltb (endAt roll at) (startAt roll at) || ltb (startAt roll at) previous ≡ true) ⊎ (badValues (heldAt roll at) ≡ true)
              → Wrong roll at previous
          values (inl h) = before (or-either _ _ h)
          values (inr h) = values-wrong h
