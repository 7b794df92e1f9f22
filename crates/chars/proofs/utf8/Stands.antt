-- What is answered of a character: its width, and its code with its width.
use Rattle.std.proofs.lemmas.Grind.{common_steps}
use Rattle.std.proofs.Common.{ℕ, suc, ◌+◌, ◌≤◌, ◌<◌, ◌≡◌, sym, ◌∙◌, ap, Bool, cond, List, ◌∷◌, length, drop, get_or, drop_of_length-le, ⊎_elim, arith, eq-eqb, ne_eqb, Option, Some, None}
use Rattle.std.proofs.lemmas.Bool.{cases_Bool, cases_eq}
use Rattle.std.specs.Bool.{then_some}
use Rattle.chars.specs.paper.Utf8.{width, codeOf}
use Rattle.chars.specs.code.Utf8.{decoded, widthAt, decodeAt}
use Rattle.chars.proofs.utf8.Rows.{inside}

-- ---- a width

-- what is known of the byte at the place, with what follows it, is known of the place: that one character or none stands there
pub found : (s : List ℕ) (i k : ℕ) → i < length s → suc k ≡ width (get_or s i 0 ∷ drop (i + 1) s) → Some (suc k) ≡ widthAt s i
unfolding widthAt
found s i k h e = grind (arith, common_steps)

pub not-found : (s : List ℕ) (i : ℕ) → i < length s → 0 ≡ width (get_or s i 0 ∷ drop (i + 1) s) → None ≡ widthAt s i
unfolding widthAt
not-found s i h e = grind (arith, common_steps)

-- a character of so many bytes where a test of those after the first holds
pub found-if : {r : Option ℕ} {b d : Bool} (s : List ℕ) (i k : ℕ) → i < length s → r ≡ then_some b (suc k) → b ≡ d
    → cond d (suc k) 0 ≡ width (get_or s i 0 ∷ drop (i + 1) s) → r ≡ widthAt s i
found-if {d} s i k h q f e =
    q ∙ ap (λ x. then_some x (suc k)) f
    ∙ ⊎_elim (λ y. ap (λ x. then_some x (suc k)) y ∙ found s i k h (rw y at e)) (λ n. ap (λ x. then_some x (suc k)) n ∙ not-found s i h (rw n at e)) (cases_Bool d)

pub past_end : (s : List ℕ) (i : ℕ) → length s ≤ i → None ≡ widthAt s i
unfolding widthAt width
past_end s i h = rw (drop_of_length-le s h, width)

-- what is said of a place
pub record Wide (s : List ℕ) (i w : ℕ) : Type 0 where
  pub is : width (drop i s) ≡ w
  pub least : 1 ≤ w
  pub within : i < length s

pub stands : (s : List ℕ) (i w : ℕ) → Some w ≡ widthAt s i → Wide s i w
unfolding widthAt
stands s i w e = ⊎_elim (λ z. let f = rw (eq-eqb (width (drop i s)) 0 z) at e in cc) some (cases_eq (width (drop i s)) 0)
  where
    some : (width (drop i s) ≡ 0 → ⊥) → Wide s i w
    some n = let f = rw (ne_eqb (width (drop i s)) 0 n) at e in let q : w ≡ width (drop i s) = cc in record { is = sym q; least = omega arith; within = inside s i n }

pub nothing : (s : List ℕ) (i : ℕ) → None ≡ widthAt s i → width (drop i s) ≡ 0
unfolding widthAt
nothing s i e = ⊎_elim (λ z. z) (λ n. let f = rw (ne_eqb (width (drop i s)) 0 n) at e in cc) (cases_eq (width (drop i s)) 0)

-- ---- a code and a width

pub decode_none : (s : List ℕ) (i : ℕ) → None ≡ widthAt s i → None ≡ decodeAt s i
unfolding decodeAt
decode_none s i e = rw (nothing s i e)

pub decode_some : (s : List ℕ) (i c w : ℕ) → Some w ≡ widthAt s i → c ≡ codeOf w (drop i s) → decoded c w ≡ decodeAt s i
unfolding decodeAt
decode_some s i c w e f =
    let t = stands s i w e in
    let l = t.least in
    rw (f, t.is, ne_eqb w 0 (λ z. omega arith))
