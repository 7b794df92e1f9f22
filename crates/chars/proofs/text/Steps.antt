-- One character of a script's text, from what stands at its place.
use Rattle.std.proofs.Common.{ℕ, ◌≤◌, ◌≡◌, List, length, drop, ⊎_elim, arith, ne_eqb, le-ltb, Some, None}
use Rattle.std.proofs.lemmas.Bool.{cases_eq}
use Rattle.chars.specs.declared.utf8.Decoded.{Decoded}
use Rattle.chars.specs.paper.Utf8.{width, codeOf}
use Rattle.chars.specs.code.Utf8.{decoded, decodeAt}
use Rattle.chars.specs.code.Text.{stepAt}

-- what is decoded at i, by the width there
pub record CharStands (s : List ℕ) (i code w : ℕ) : Type 0 where
  pub width-is : width (drop i s) ≡ w
  pub code-is : codeOf w (drop i s) ≡ code
  pub least : 1 ≤ w

pub char-stands : (s : List ℕ) (i code w : ℕ) → decoded code w ≡ decodeAt s i → CharStands s i code w
unfolding decodeAt
char-stands s i code w e = grind arith

-- the same of what is handed back
pub char-found : (s : List ℕ) (i : ℕ) (d : Decoded) → Some d ≡ decodeAt s i → CharStands s i d.code d.width
unfolding decodeAt
char-found s i d e = grind arith

pub nothing-stands : (s : List ℕ) (i : ℕ) → None ≡ decodeAt s i → width (drop i s) ≡ 0
unfolding decodeAt
nothing-stands s i e = ⊎_elim (λ z. z) (λ n. let f = rw (ne_eqb (width (drop i s)) 0 n) at e in cc) (cases_eq (width (drop i s)) 0)

pub step_end : (s : List ℕ) (i : ℕ) → length s ≤ i → None ≡ stepAt s i
unfolding stepAt
step_end s i h = rw (le-ltb i (length s) h)

-- what is handed back has the classes of its code
pub step-classes : (s : List ℕ) (i : ℕ) (d : Decoded) → Some d ≡ stepAt s i → Some d ≡ decoded d.code d.width
unfolding stepAt
step-classes s i d e = grind arith
