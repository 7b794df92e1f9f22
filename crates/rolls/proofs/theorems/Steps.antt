-- One record, computed, is what is declared of it: field `steps` of specs/Theorems.RollTheorems.
use Prim.Native.Nat.{ℕ, ◌+◌, ◌-◌, ◌≤◌, ◌<◌}
use mathlib.Core.Path.{◌≡◌, refl, sym, ◌∙◌, ap}
use mathlib.Core.Bool.{Bool, true, false, ◌&&◌}
use mathlib.Core.Logic.{inl, inr, ⊎_elim, ◌↔◌}
use mathlib.Core.List.{List}
use lib.ListN.{length}
use lib.Dec.{eqb, leb, ltb}
use mathlib.Mathlib.Data.Bool.Basic.{eq-false_of_not-eq-true}
use native.Mathlib.Omega.{arith}
use borrow.Author.Tests.{eqb-true, ltb-true, ltb-false, lt-ltb, le-ltb, leb-true, leb-false}
use Rattle.chars.proofs.Bools.{clash}
use Rattle.words.specs.Joins.{Bytes}
use Rattle.words.specs.Words.{oneAt}
use Rattle.token.specs.paper.Kinds.{kindNumber, Token}
use Rattle.token.specs.paper.Records.{headLength}
use Rattle.token.specs.code.Form.{heldAt}
use Rattle.token.specs.declared.kinds.TokenKind.TheVariants as tk
use Rattle.token.specs.declared.form.Held.{Held}
use Rattle.rolls.specs.paper.Roll.{lengthAt, kindAt, cutAt, TooFew, KindLength, Wrong, Sound, Stepped, yielded, stopped, Steps}
use Rattle.rolls.specs.computed.Roll.{isKind, isWrong, tokenOf, stepHeld, readAt, isEof, eofFollowed}
use Rattle.rolls.proofs.record.Laws.{held-wrong, held-more, held-token, step-end, step-few, step-short, step-unknown, step-known}
use Rattle.rolls.proofs.theorems.Kinds.{is-kind, known-kind}
use Rattle.rolls.proofs.theorems.Values.{token-at, token-is}
use Rattle.rolls.proofs.theorems.Rules.{wrong-is, is-wrong}
use Rattle.rolls.proofs.theorems.Eofs.{is-eof, not-eof, number-eof}

-- ---- what is declared of one record, as the branches of `record/Laws` have it

-- no bytes stand behind it, if it is Eof
nothing-after : (h : Held) (left : ℕ) → (h.number ≡ 18 → left ≤ h.length) → eofFollowed h left ≡ false
nothing-after h left f = go (eqb h.number 18) refl
  where
    go : (b : Bool) → eqb h.number 18 ≡ b → b && ltb h.length left ≡ false
    go true q = le-ltb h.length left (f (eqb-true h.number 18 q))
    go false q = refl

-- a record that breaks no rule is yielded, if it is no Eof or nothing stands behind it
pub held-yields : (h : Held) (at left previous : ℕ) → isWrong h previous ≡ false → (h.number ≡ 18 → left ≤ h.length)
    → stepHeld h at left previous ≡ yielded (tokenOf h) (at + h.length)
held-yields h at left previous e f = held-token h at left previous e (nothing-after h left f)

module _ (roll : List ℕ) (at previous : ℕ) where
  -- bytes are left, but too few
  short-step : TooFew roll at → readAt roll at previous ≡ stopped 22 at
  unfolding heldAt
  short-step s =
      let l = s.left in
      let h = heldAt roll at in
      ⊎_elim (λ f. step-few roll at previous h refl l (omega arith)) (λ f. step-short roll at previous h refl l (omega arith)) s.fewer

  -- no record that is short
  whole : at < length roll → (TooFew roll at → ⊥) → (at + 4 ≤ length roll) × (at + lengthAt roll at ≤ length roll)
  whole l s =
      let a : (length roll < at + 4) → ⊥ = λ h. s (record { left = l; fewer = inl h }) in
      let b : (length roll < at + lengthAt roll at) → ⊥ = λ h. s (record { left = l; fewer = inr h }) in
      (omega (arith, a), omega (arith, b))

  module _ (four : at + 4 ≤ length roll) (room : at + lengthAt roll at ≤ length roll) where
    -- a whole record of no kind
    whole-unknown : isKind (kindAt roll at) (lengthAt roll at) ≡ false → readAt roll at previous ≡ stopped 23 at
    unfolding heldAt
    whole-unknown e = step-unknown roll at previous (heldAt roll at) refl (omega arith) (omega arith) (omega arith) e

    -- a whole record of a known kind
    pub whole-known : isKind (kindAt roll at) (lengthAt roll at) ≡ true → readAt roll at previous ≡ stepHeld (heldAt roll at) at (length roll - at) previous
    unfolding heldAt
    whole-known e = step-known roll at previous (heldAt roll at) refl (omega arith) (omega arith) (omega arith) e

-- ---- what is declared is computed

-- no kind has this number and length: the test fails
kind-unknown : (n size : ℕ) → (KindLength n size → ⊥) → isKind n size ≡ false
kind-unknown n size u = eq-false_of_not-eq-true (λ e. u (known-kind n size e))

-- the test decides, so that a kind is not only not impossible
kind-known : (n size : ℕ) → ((KindLength n size → ⊥) → ⊥) → KindLength n size
kind-known n size u = go (isKind n size) refl
  where
    go : (b : Bool) → isKind n size ≡ b → KindLength n size
    go true e = known-kind n size e
    go false e = absurd (u (λ k. clash (sym e ∙ is-kind k)))

module _ (roll : List ℕ) (b : Bytes roll) (at previous : ℕ) where
  -- no rule is broken: the test fails
  not-wrong : KindLength (kindAt roll at) (lengthAt roll at) → (Wrong roll at previous → ⊥) → isWrong (heldAt roll at) previous ≡ false
  not-wrong k r = eq-false_of_not-eq-true (λ e. r (is-wrong roll b at k previous e))

  module _ (t : Token) (s : Sound roll at previous t) where
    -- a sound record is whole and known
    sound-step : readAt roll at previous ≡ stepHeld (heldAt roll at) at (length roll - at) previous
    sound-step = whole-known roll at previous s.four s.room (is-kind s.known)

    -- and breaks no rule
    sound-right : isWrong (heldAt roll at) previous ≡ false
    sound-right = not-wrong s.known s.right

    -- Eof behind which bytes stand
    sound-after : t.kind ≡ tk.Eof → at + lengthAt roll at < length roll → readAt roll at previous ≡ stopped 24 (at + lengthAt roll at)
    unfolding heldAt
    sound-after e l =
        let n : kindAt roll at ≡ 18 = sym s.token.kind-is ∙ ap kindNumber e in
        sound-step ∙ held-more (heldAt roll at) at (length roll - at) previous sound-right (rw (n, lt-ltb (lengthAt roll at) (length roll - at) (omega arith)))

    -- any other
    sound-yields : (t.kind ≡ tk.Eof → at + lengthAt roll at ≡ length roll) → readAt roll at previous ≡ yielded t (at + lengthAt roll at)
    unfolding heldAt
    sound-yields f =
        sound-step
        ∙ held-yields (heldAt roll at) at (length roll - at) previous sound-right (λ n. let z = f (number-eof t.kind (s.token.kind-is ∙ n)) in omega arith)
        ∙ ap (λ x. yielded x (at + lengthAt roll at)) (token-is roll b at s.known t s.token)

  pub steps-only : {x : Stepped} → Steps roll at previous x → readAt roll at previous ≡ x
  steps-only (Steps.no-eof l) = step-end roll at previous l
  steps-only (Steps.twenty-two s) = short-step roll at previous s
  steps-only (Steps.twenty-three l s u) =
      let w = whole roll at previous l s in
      whole-unknown roll at previous w.0 w.1 (kind-unknown (kindAt roll at) (lengthAt roll at) u)
  steps-only (Steps.twenty-four l s u x) =
      let w = whole roll at previous l s in
      let k = kind-known (kindAt roll at) (lengthAt roll at) u in
      whole-known roll at previous w.0 w.1 (is-kind k) ∙ held-wrong (heldAt roll at) at (length roll - at) previous (wrong-is roll b at k previous x)
  steps-only (Steps.after-eof {t} s e l) = sound-after t s e l
  steps-only (Steps.yields {t} s f) = sound-yields t s (λ e. omega (arith, f e))

  -- ---- and something is declared in every case

  put : {x : Stepped} → Steps roll at previous x → Steps roll at previous (readAt roll at previous)
  put h = rw (steps-only h) h

  -- Sound: yielded, if it is no Eof or nothing stands behind it
  step-sound : (t : Token) → Sound roll at previous t → Steps roll at previous (readAt roll at previous)
  step-sound t s = ends (isEof t.kind) refl
    where
      past : t.kind ≡ tk.Eof → (q : Bool) → ltb (at + lengthAt roll at) (length roll) ≡ q → Steps roll at previous (readAt roll at previous)
      past e true f = put (Steps.after-eof s e (ltb-true (at + lengthAt roll at) (length roll) f))
      past e false f = let r = s.room in let l = ltb-false (at + lengthAt roll at) (length roll) f in put (Steps.yields s (λ z. omega arith))

      ends : (q : Bool) → isEof t.kind ≡ q → Steps roll at previous (readAt roll at previous)
      ends true e = past (is-eof t.kind e) (ltb (at + lengthAt roll at) (length roll)) refl
      ends false e = put (Steps.yields s (λ z. absurd (not-eof t.kind e z)))

  -- whole and of a known kind: 24, or sound
  module _ (four : at + 4 ≤ length roll) (room : at + lengthAt roll at ≤ length roll) where
    -- it is not short
    not-short : TooFew roll at → ⊥
    not-short s = ⊎_elim (λ f. omega arith) (λ f. omega arith) s.fewer

    -- of a known kind
    step-kind : KindLength (kindAt roll at) (lengthAt roll at) → Steps roll at previous (readAt roll at previous)
    step-kind k = go (isWrong (heldAt roll at) previous) refl
      where
        sound : (Wrong roll at previous → ⊥) → Sound roll at previous (tokenOf (heldAt roll at))
        sound r =
            let c : (1 < cutAt roll at) → ⊥ = λ l. r (Wrong.cut-byte l) in
            let mark : kindAt roll at ≡ 17 → (1 < oneAt roll (at + headLength)) → ⊥ = λ e l. r (Wrong.after-comment e l) in
            record {
              four = four;
              room = room;
              known = k;
              right = r;
              token = token-at roll b at k (omega (arith, c)) (λ e. omega (arith, mark e));
            }

        go : (t : Bool) → isWrong (heldAt roll at) previous ≡ t → Steps roll at previous (readAt roll at previous)
        go true e = put (Steps.twenty-four (omega arith) not-short (λ u. u k) (is-wrong roll b at k previous e))
        go false e = step-sound (tokenOf (heldAt roll at)) (sound (λ w. clash (sym e ∙ wrong-is roll b at k previous w)))

    -- whole
    step-whole : Steps roll at previous (readAt roll at previous)
    step-whole = go (isKind (kindAt roll at) (lengthAt roll at)) refl
      where
        go : (t : Bool) → isKind (kindAt roll at) (lengthAt roll at) ≡ t → Steps roll at previous (readAt roll at previous)
        go true e = step-kind (known-kind (kindAt roll at) (lengthAt roll at) e)
        go false e = put (Steps.twenty-three (omega arith) not-short (λ k. clash (sym e ∙ is-kind k)))

  pub step-is : Steps roll at previous (readAt roll at previous)
  step-is = bytes (leb (length roll) at) refl
    where
      room : at < length roll → at + 4 ≤ length roll → (t : Bool) → ltb (length roll) (at + lengthAt roll at) ≡ t → Steps roll at previous (readAt roll at previous)
      room l f true e = put (Steps.twenty-two (record { left = l; fewer = inr (ltb-true (length roll) (at + lengthAt roll at) e) }))
      room l f false e = step-whole f (ltb-false (length roll) (at + lengthAt roll at) e)

      four : at < length roll → (t : Bool) → ltb (length roll) (at + 4) ≡ t → Steps roll at previous (readAt roll at previous)
      four l true e = put (Steps.twenty-two (record { left = l; fewer = inl (ltb-true (length roll) (at + 4) e) }))
      four l false e = room l (ltb-false (length roll) (at + 4) e) (ltb (length roll) (at + lengthAt roll at)) refl

      bytes : (t : Bool) → leb (length roll) at ≡ t → Steps roll at previous (readAt roll at previous)
      bytes true e = put (Steps.no-eof (leb-true (length roll) at e))
      bytes false e = four (leb-false (length roll) at e) (ltb (length roll) (at + 4)) refl

  pub steps : (x : Stepped) → (readAt roll at previous ≡ x) ↔ Steps roll at previous x
  steps x = (λ e. rw e at step-is, steps-only)
