-- The cursor: one character, and runs of bytes.
use Rattle.token.proofs.cursor.Words.{ℕ, zero, suc, ◌+◌, ◌-◌, ◌≤◌, ◌<◌, ◌≡◌, ◌∙◌, ap, List, ◌∷◌, length, get_or, arith, Text, from, stepAt, text-laws, cursorAt, Cursor, None, Option, Some, refl, drop, sym, Bool, true, false, cond}
use Rattle.std.proofs.lemmas.Option.{none-some, same_Some}
use Rattle.chars.specs.code.Classes.{answers}
use Rattle.token.specs.code.Cursor.{peekAt, peekedOf}
use Rattle.chars.specs.code.Runs.{Each}
use Rattle.chars.specs.code.Utf8.{decoded}
use Rattle.chars.specs.code.Text.{signWidth}
use Rattle.chars.specs.declared.utf8.Decoded.{Decoded}
open text-laws use {at-char, next-on, step-classes, step-text, step-none}

-- the character at i, as the code has it
pub record Here (s : List ℕ) (i code next : ℕ) : Type 0 where
  pub text : from s i ≡ record { code = code; at = i } ∷ from s next
  pub in-script : i < length s
  pub on : i < next
  pub within : next ≤ length s

pub here : (s : List ℕ) (i code wide : ℕ) → decoded code wide ≡ stepAt s i → Here s i code (i + wide)
here s i code wide e = let t = step-text s i code wide e in grind (arith, at-char, next-on)

-- the same of what the code looked at, with the classes
pub record Seen (s : List ℕ) (i : ℕ) (d : Decoded) : Type 0 where
  pub here : Here s i d.code (i + d.width)
  pub classes : d.classes ≡ answers d.code

pub seen : (s : List ℕ) (i : ℕ) (d : Decoded) → Some d ≡ stepAt s i → Seen s i d
seen s i d e =
    let k = step-classes s i d e in
    let q = same_Some d (record { code = d.code; width = d.width; classes = answers d.code }) k in
    record { here = here s i d.code d.width (sym k ∙ e); classes = ap (λ (z : Decoded). z.classes) q }

-- a character ends within the script
pub step_within : (s : List ℕ) (i : ℕ) (d : Decoded) → Some d ≡ stepAt s i → i + d.width ≤ length s
step_within s i d e = (seen s i d e).here.within

pub step_past : (s : List ℕ) (i : ℕ) (d : Decoded) → Some d ≡ stepAt s i → from s (i + d.width) ≡ drop 1 (from s i)
step_past s i d e = sym (ap (drop 1) (seen s i d e).here.text)

-- what a peek says
pub peeked : (s : List ℕ) (i : ℕ) (d : Decoded) (c : Cursor) → Some (d, c) ≡ peekAt s i → Seen s i d × (c.at ≡ i + d.width)
peeked s i d c e = go (stepAt s i) refl e
  where
    go : (x : Option Decoded) → stepAt s i ≡ x → Some (d, c) ≡ peekedOf i x → Seen s i d × (c.at ≡ i + d.width)
    go (Some y) f q =
        let p = same_Some (d, c) (y, cursorAt (i + y.width)) q in
        let a : d ≡ y = ap (λ z. z.0) p in
        (seen s i d (ap Some a ∙ sym f), ap (λ z. z.1.at) p ∙ ap (λ (z : Decoded). i + z.width) (sym a))
    go None f q = absurd (none-some (d, c) (sym q))

pub peeked-end : (s : List ℕ) (i : ℕ) → None ≡ peekAt s i → length s ≤ i
peeked-end s i e = go (stepAt s i) refl e
  where
    go : (x : Option Decoded) → stepAt s i ≡ x → None ≡ peekedOf i x → length s ≤ i
    go (Some y) f q = absurd (none-some (y, cursorAt (i + y.width)) q)
    go None f q = step-none s i (sym f)

-- what the width of an operator sign says of the look there
pub record SignAt (s : List ℕ) (i w : ℕ) : Type 0 where
  pub look : Decoded
  pub there : Some look ≡ stepAt s i
  pub sign : look.classes.op_sign ≡ true
  pub width : w ≡ look.width

pub sign-at : (s : List ℕ) (i w : ℕ) → Some w ≡ signWidth (stepAt s i) → SignAt s i w
sign-at s i w e = go (stepAt s i) refl e
  where
    by : (d : Decoded) (b : Bool) → stepAt s i ≡ Some d → d.classes.op_sign ≡ b → Some w ≡ cond b (Some d.width) None → SignAt s i w
    by d true f p q = record { look = d; there = sym f; sign = p; width = same_Some w d.width q }
    by d false f p q = absurd (none-some w (sym q))

    go : (x : Option Decoded) → stepAt s i ≡ x → Some w ≡ signWidth x → SignAt s i w
    go (Some d) f q = by d d.classes.op_sign f refl q
    go None f q = absurd (none-some w (sym q))

-- and of one that is none
pub record NoSignAt (s : List ℕ) (i : ℕ) : Type 0 where
  pub look : Decoded
  pub there : Some look ≡ stepAt s i
  pub sign : look.classes.op_sign ≡ false

pub no-sign-at : (s : List ℕ) (i : ℕ) → i < length s → None ≡ signWidth (stepAt s i) → NoSignAt s i
no-sign-at s i h e = go (stepAt s i) refl e
  where
    by : (d : Decoded) (b : Bool) → stepAt s i ≡ Some d → d.classes.op_sign ≡ b → None ≡ cond b (Some d.width) None → NoSignAt s i
    by d true f p q = absurd (none-some d.width q)
    by d false f p q = record { look = d; there = sym f; sign = p }

    go : (x : Option Decoded) → stepAt s i ≡ x → None ≡ signWidth x → NoSignAt s i
    go (Some d) f q = by d d.classes.op_sign f refl q
    go None f q = let l = step-none s i (sym f) in absurd (omega (arith, h, l))

-- ---- bytes of one property, passed together: what f finds past any one of them is what it finds before it

module _ {A : Type 0} (f : Text → A) (s : List ℕ) (P : ℕ → Type 0)
    (on : (k : ℕ) → k < length s → P (get_or s k 0) → f (from s (k + 1)) ≡ f (from s k)) where
  pub all-past : (i r : ℕ) → i ≤ r → r ≤ length s → Each P s i r → f (from s r) ≡ f (from s i)
  all-past i r l h a = go (r - i) i (omega arith) a
    where
      go : (n i : ℕ) → i + n ≡ r → Each P s i r → f (from s r) ≡ f (from s i)
      go zero i e a = let z : r ≡ i = omega arith in ap (λ j. f (from s j)) z
      go (suc n) i e a = go n (i + 1) (omega arith) (λ k m. a k (omega arith)) ∙ on i (omega arith) (a i (omega arith) (omega arith))
