-- Records and their lines.
use Prim.Native.Nat.{ℕ, zero, suc, ◌<◌, ◌≤◌}
use mathlib.Core.Path.{◌≡◌, refl, ap}
use mathlib.Core.List.{List, [], ◌∷◌, ◌++◌}
use lib.ListN.{length, drop, length-drop}
use native.Mathlib.Omega.{arith}
use borrow.Author.Tests.{ne_eqb}
use Rattle.token.specs.paper.Records.{headLength}
use Rattle.token.specs.code.Form.{heldAt}
use Rattle.listing_text.specs.Lines.{lengthHere, lineText, linesFor, recordLines}

-- ---- a record's own length

no-record : (b : List ℕ) → length b < headLength → lengthHere b ≡ 0
unfolding lengthHere
no-record b h = grind arith

pub at-least : (b : List ℕ) → (lengthHere b ≡ 0 → ⊥) → headLength ≤ lengthHere b
unfolding lengthHere
at-least b h = grind arith

pub within : (b : List ℕ) → lengthHere b ≤ length b
unfolding lengthHere
within b = grind arith

-- ---- lines, record by record

abbrev first : List ℕ → List ℕ
first b = lineText (heldAt b 0)

abbrev others : List ℕ → List ℕ
others b = drop (lengthHere b) b

-- no more lines are asked for than there can be
enough : (f g : ℕ) (b : List ℕ) → length b ≤ f → length b ≤ g → linesFor f b ≡ linesFor g b
unfolding linesFor
enough zero zero b p q = refl
enough zero (suc g) b p q = simp (no-record b (omega arith))
enough (suc f) zero b p q = simp (no-record b (omega arith))
enough (suc f) (suc g) b p q = grind (arith, at-least, length-drop, enough f g (others b))

pub lines-none : (b : List ℕ) → lengthHere b ≡ 0 → recordLines b ≡ []
unfolding recordLines linesFor
lines-none [] e = refl
lines-none (x ∷ b) e = simp e

pub lines-turn : (b : List ℕ) → (lengthHere b ≡ 0 → ⊥) → recordLines b ≡ first b ++ recordLines (others b)
unfolding recordLines linesFor
lines-turn [] h = absurd (h (no-record [] (omega arith)))
lines-turn (x ∷ b) h =
    let n = at-least (x ∷ b) h in
    let d = length-drop (lengthHere (x ∷ b)) (x ∷ b) in
    let rest = others (x ∷ b) in
    let e = enough (length b) (length rest) rest (omega arith) (omega arith) in
    simp (ne_eqb (lengthHere (x ∷ b)) 0 h) (ap (λ t. first (x ∷ b) ++ t) e)
