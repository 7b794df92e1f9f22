-- The line starts that are computed are those that are declared, and there is one list of them.
use Prim.Native.Nat.{ℕ, zero, suc, ◌+◌, ◌≤◌, ◌<◌}
use mathlib.Core.Path.{◌≡◌, refl, sym, ◌∙◌}
use mathlib.Core.Bool.{Bool, true, false}
use mathlib.Core.Logic.{◌↔◌, ⊎_elim}
use mathlib.Core.List.{List, ◌∷◌}
use lib.ListN.{length, drop, get_or, drop_of_length-le}
use lib.Dec.{eqb, ltb}
use native.Mathlib.Omega.{arith}
use borrow.Author.Tests.{eqb-true, eqb-false, ltb-true, ltb-false}
use Rattle.chars.specs.paper.Text.{Text, from, place}
use Rattle.chars.specs.code.Text.{charEnd}
use Rattle.chars.proofs.theorems.Promises.{text-laws}
use Rattle.token.specs.paper.Shapes.{LineEnd}
use Rattle.lines.specs.paper.Lines.{Ends, Starts}
use Rattle.lines.specs.computed.Lines.{startsIn, startsOf}
use Rattle.lines.proofs.theorems.Bytes.{Unbroken, starts-lf, starts-pass, starts-past}
use Rattle.lines.proofs.theorems.LineEnds.{in-script, lf-ends, crlf-ends, ends-at, end-one, no-end}
open text-laws use {at-char, next-on, at-end, place-from, wide-tail}

-- ---- one list

pub ends-one : {n : ℕ} {s : Text} {l m : List ℕ} → Ends n s l → Ends n s m → l ≡ m
ends-one Ends.empty Ends.empty = refl
ends-one Ends.empty (Ends.ended e y) = absurd (no-end e)
ends-one (Ends.ended e x) Ends.empty = absurd (no-end e)
ends-one {n} (Ends.ended {r} e x) (Ends.ended {l = m} f y) =
    let z = end-one e f in
    let y' : Ends n r m = rw z y in
    rw (z, ends-one x y')
ends-one (Ends.ended {r} e x) (Ends.passed n y) = absurd (n r e)
ends-one (Ends.passed n x) (Ends.ended {r} e y) = absurd (n r e)
ends-one (Ends.passed n x) (Ends.passed k y) = ends-one x y

-- ---- the computed one

module _ (s : List ℕ) where
  -- a character other than LF has no LF
  char-no-lf : (i : ℕ) → i < length s → (get_or s i 0 ≡ 0x0A → ⊥) → Unbroken s i (charEnd s i)
  char-no-lf i h n k l m e = go (ltb i k) refl
    where
      go : (t : Bool) → ltb i k ≡ t → ⊥
      go true x = let w = wide-tail s i h k (ltb-true i k x) m in omega arith
      go false x = let y = ltb-false i k x in let z : k ≡ i = omega arith in n (rw z at e)

  abbrev EndsFrom : ℕ → Type 0
  EndsFrom i = Ends (length s) (from s i) (startsIn i (drop i s))

  -- a line end from i to j
  ended-at : (i j : ℕ) → j ≤ length s → LineEnd (from s i) (from s j) → startsIn i (drop i s) ≡ j ∷ startsIn j (drop j s) → EndsFrom j → EndsFrom i
  ended-at i j h e q x =
      let w : Ends (length s) (from s i) (place (length s) (from s j) ∷ startsIn j (drop j s)) = Ends.ended e x in
      rw q (rw (place-from s j h) at w)

  -- a character with which no line end begins
  passed-at : (i : ℕ) → i < length s → (get_or s i 0 ≡ 0x0A → ⊥) → (get_or s i 0 ≡ 0x0D → get_or s (i + 1) 0 ≡ 0x0A → ⊥) → EndsFrom (charEnd s i) → EndsFrom i
  passed-at i h n k x =
      let q = at-char s i h in
      let o = next-on s i h in
      rw (q, starts-past s i (charEnd s i) (omega arith) o.1 (char-no-lf i h n))
      (Ends.passed (λ r e. ⊎_elim (λ a. n a.0) (λ a. k a.0 a.1) (ends-at s i e (sym q))) x)

  at-last : (i : ℕ) → length s ≤ i → EndsFrom i
  unfolding startsIn
  at-last i h = rw (at-end s i h, drop_of_length-le s h) Ends.empty

  ends-on : (i : ℕ) → i < length s → ((j : ℕ) → i < j → j ≤ length s → EndsFrom j) → EndsFrom i
  ends-on i h more = go (eqb (get_or s i 0) 0x0A) (eqb (get_or s i 0) 0x0D) (eqb (get_or s (i + 1) 0) 0x0A) refl refl refl
    where
      passed : (get_or s i 0 ≡ 0x0A → ⊥) → (get_or s i 0 ≡ 0x0D → get_or s (i + 1) 0 ≡ 0x0A → ⊥) → EndsFrom i
      passed n k = let o = next-on s i h in passed-at i h n k (more (charEnd s i) o.0 o.1)

      go : (t u v : Bool) → eqb (get_or s i 0) 0x0A ≡ t → eqb (get_or s i 0) 0x0D ≡ u → eqb (get_or s (i + 1) 0) 0x0A ≡ v → EndsFrom i
      go true u v a b c =
          let e = eqb-true (get_or s i 0) 0x0A a in
          ended-at i (i + 1) (omega arith) (lf-ends s i e) (starts-lf s i h e) (more (i + 1) (omega arith) (omega arith))
      go false true true a b c =
          let e = eqb-true (get_or s i 0) 0x0D b in
          let f = eqb-true (get_or s (i + 1) 0) 0x0A c in
          let k = in-script s (i + 1) (omega arith) in
          ended-at i (i + 1 + 1) (omega arith) (crlf-ends s i e f) (starts-pass s i h (eqb-false (get_or s i 0) 0x0A a) ∙ starts-lf s (i + 1) k f)
          (more (i + 1 + 1) (omega arith) (omega arith))
      go false true false a b c = passed (eqb-false (get_or s i 0) 0x0A a) (λ e. eqb-false (get_or s (i + 1) 0) 0x0A c)
      go false false v a b c = passed (eqb-false (get_or s i 0) 0x0A a) (λ e f. eqb-false (get_or s i 0) 0x0D b e)

  pub ends-from : (f i : ℕ) → length s ≤ i + f → EndsFrom i
  ends-from zero i l = at-last i (omega arith)
  ends-from (suc f) i l = go (ltb i (length s)) refl (λ j h. ends-from f j (omega arith))
    where
      go : (t : Bool) → ltb i (length s) ≡ t → ((j : ℕ) → i < j → EndsFrom j) → EndsFrom i
      go true e more = ends-on i (ltb-true i (length s) e) (λ j a b. more j a)
      go false e more = at-last i (ltb-false i (length s) e)

pub starts-are : (script l : List ℕ) → (startsOf script ≡ l) ↔ Starts script l
unfolding startsOf
starts-are script l = (there l, back l)
  where
    all : Ends (length script) (from script 0) (startsIn 0 script)
    all = ends-from script (length script) 0 (omega arith)

    there : (l : List ℕ) → 0 ∷ startsIn 0 script ≡ l → Starts script l
    there l e = rw e at (Starts.starts all)

    back : (l : List ℕ) → Starts script l → 0 ∷ startsIn 0 script ≡ l
    back l (Starts.starts x) = rw (ends-one all x)
