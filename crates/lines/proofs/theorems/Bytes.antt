-- Line starts, lines and columns byte by byte.
use Prim.Native.Nat.{ℕ, zero, suc, ◌+◌, ◌-◌, ◌≤◌, ◌<◌}
use mathlib.Core.Path.{◌≡◌, refl, sym, ◌∙◌, ap}
use mathlib.Core.Bool.{Bool, true, false, cond}
use mathlib.Core.List.{List, [], ◌∷◌, ◌++◌}
use lib.ListN.{length, take, drop, get_or}
use lib.Seq.{take-suc, drop-cons}
use lib.Dec.{eqb}
use native.Mathlib.Nat.{add-zero}
use native.Mathlib.Numerals.{add-one}
use native.Mathlib.Omega.{arith}
use borrow.Author.Tests.{eq-eqb, ne_eqb}
use Rattle.chars.specs.paper.Quoted.{between}
use Rattle.chars.specs.code.Runs.{Each, AllIn}
use Rattle.chars.proofs.theorems.Promises.{code_laws}
use Rattle.lines.specs.computed.Lines.{part, countIn, startsIn, columnFrom, lfsBefore, lineAt, columnAt, columnSince}
use Rattle.lines.proofs.count.Laws.{between-lf, part-join, part-front, part-length, count-append, count-one, count-most}
open code_laws use {between-in, between-out}

-- no LF stands from the place i to the place j
abbrev pub Unbroken : List ℕ → ℕ → ℕ → Type 0
Unbroken = Each (λ b. b ≡ 0x0A → ⊥)

-- ---- line starts

module _ (s : List ℕ) where
  starts-step : (i : ℕ) → i < length s
      → startsIn i (drop i s) ≡ cond (eqb (get_or s i 0) 0x0A) ((i + 1) ∷ startsIn (i + 1) (drop (i + 1) s)) (startsIn (i + 1) (drop (i + 1) s))
  unfolding startsIn
  starts-step i h = rw (add-one, drop-cons s i 0)

  -- behind an LF a line starts, behind another byte none
  pub starts-lf : (i : ℕ) → i < length s → get_or s i 0 ≡ 0x0A → startsIn i (drop i s) ≡ (i + 1) ∷ startsIn (i + 1) (drop (i + 1) s)
  starts-lf i h e = starts-step i h ∙ rw (eq-eqb (get_or s i 0) 0x0A e)

  pub starts-pass : (i : ℕ) → i < length s → (get_or s i 0 ≡ 0x0A → ⊥) → startsIn i (drop i s) ≡ startsIn (i + 1) (drop (i + 1) s)
  starts-pass i h n = starts-step i h ∙ rw (ne_eqb (get_or s i 0) 0x0A n)

  starts-many : (k i : ℕ) → i + k ≤ length s → Unbroken s i (i + k) → startsIn i (drop i s) ≡ startsIn (i + k) (drop (i + k) s)
  starts-many zero i h n = rw add-zero
  starts-many (suc k) i h n =
      let e : i + 1 + k ≡ i + suc k = omega arith in
      starts-pass i (omega arith) (n i (omega arith) (omega arith))
      ∙ starts-many k (i + 1) (omega arith) (λ j l m. n j (omega arith) (omega arith))
      ∙ ap (λ j. startsIn j (drop j s)) e

  -- bytes without LF are passed
  pub starts-past : (i j : ℕ) → i ≤ j → j ≤ length s → Unbroken s i j → startsIn i (drop i s) ≡ startsIn j (drop j s)
  starts-past i j l h n =
      let e : i + (j - i) ≡ j = omega arith in
      starts-many (j - i) i (omega arith) (rw e n) ∙ ap (λ j. startsIn j (drop j s)) e

-- ---- columns

pub column-append : (c : ℕ) (x y : List ℕ) → columnFrom c (x ++ y) ≡ columnFrom (columnFrom c x) y
unfolding columnFrom
column-append c [] y = refl
column-append c (b ∷ x) y = column-append (cond (eqb b 0x0A) 1 (cond (between 0x80 0xBF b) c (suc c))) x y

-- without LF each byte is a column but those 0x80 to 0xBF
pub column-plain : (c : ℕ) (x : List ℕ) → countIn 0x0A 0x0A x ≡ 0 → columnFrom c x ≡ c + (length x - countIn 0x80 0xBF x)
unfolding columnFrom countIn
column-plain c [] e = omega arith
column-plain c (b ∷ x) e =
    go (eqb b 0x0A) (between 0x80 0xBF b) (sym (ap (λ t. cond t (suc lfs) lfs) (between-lf b)) ∙ e) (λ d h. column-plain d x h)
  where
    lfs : ℕ
    lfs = countIn 0x0A 0x0A x

    go : (t u : Bool) → cond t (suc lfs) lfs ≡ 0 → ((d : ℕ) → lfs ≡ 0 → columnFrom d x ≡ d + (length x - countIn 0x80 0xBF x))
        → columnFrom (cond t 1 (cond u c (suc c))) x ≡ c + (suc (length x) - cond u (suc (countIn 0x80 0xBF x)) (countIn 0x80 0xBF x))
    go true u e more = absurd (omega arith)
    go false true e more = more c e ∙ omega arith
    go false false e more = let m = count-most 0x80 0xBF x in more (suc c) e ∙ omega arith

-- from one place to another
pub column-part : (s : List ℕ) (i j : ℕ) → i ≤ j → columnAt s j ≡ columnFrom (columnAt s i) (part s i j)
unfolding columnAt
column-part s i j h =
    let e = sym (part-front s j) ∙ part-join s 0 i j (omega arith) h ∙ ap (λ x. x ++ part s i j) (part-front s i) in
    ap (columnFrom 1) e ∙ column-append 1 (take i s) (part s i j)

-- in a line that starts at i
pub column-since : (s : List ℕ) (i a : ℕ) → i ≤ a → a ≤ length s → columnAt s i ≡ 1 → countIn 0x0A 0x0A (part s i a) ≡ 0 → columnAt s a ≡ columnSince s i a
unfolding columnSince
column-since s i a h l e n =
    let p = column-part s i a h ∙ ap (λ c. columnFrom c (part s i a)) e ∙ column-plain 1 (part s i a) n in
    let k = part-length s i a l in
    omega arith

-- ---- line and column behind one byte

module _ (s : List ℕ) where
  front : (i : ℕ) → i < length s → take (i + 1) s ≡ take i s ++ (get_or s i 0 ∷ [])
  front i h = ap (λ n. take n s) (add-one i) ∙ take-suc s i 0 h

  line-next : (i : ℕ) → i < length s → lineAt s (i + 1) ≡ lineAt s i + cond (eqb (get_or s i 0) 0x0A) 1 0
  unfolding lineAt lfsBefore
  line-next i h =
      let a = ap (countIn 0x0A 0x0A) (front i h) ∙ count-append 0x0A 0x0A (take i s) (get_or s i 0 ∷ []) in
      let b = count-one 0x0A 0x0A (get_or s i 0) ∙ ap (λ t. cond t 1 0) (between-lf (get_or s i 0)) in
      omega arith

  column-next : (i : ℕ) → i < length s
      → columnAt s (i + 1) ≡ cond (eqb (get_or s i 0) 0x0A) 1 (cond (between 0x80 0xBF (get_or s i 0)) (columnAt s i) (suc (columnAt s i)))
  unfolding columnAt columnFrom
  column-next i h = ap (columnFrom 1) (front i h) ∙ column-append 1 (take i s) (get_or s i 0 ∷ [])

  -- an LF begins a line
  pub past-lf : (i : ℕ) → i < length s → get_or s i 0 ≡ 0x0A → (lineAt s (i + 1) ≡ lineAt s i + 1) × (columnAt s (i + 1) ≡ 1)
  past-lf i h e = let z = eq-eqb (get_or s i 0) 0x0A e in (line-next i h ∙ rw z, column-next i h ∙ rw z)

  -- a byte 0x80 to 0xBF begins neither a line nor a column
  pub past-tail : (i : ℕ) → i < length s → 0x80 ≤ get_or s i 0 → get_or s i 0 ≤ 0xBF → (lineAt s (i + 1) ≡ lineAt s i) × (columnAt s (i + 1) ≡ columnAt s i)
  past-tail i h l m =
      let z = ne_eqb (get_or s i 0) 0x0A (λ e. omega arith) in
      (line-next i h ∙ rw (z, add-zero), column-next i h ∙ rw (z, between-in 0x80 0xBF (get_or s i 0) l m))

  -- every other byte a column
  pub past-other : (i : ℕ) → i < length s → (get_or s i 0 ≡ 0x0A → ⊥) → (0x80 ≤ get_or s i 0 → 0xBF < get_or s i 0)
      → (lineAt s (i + 1) ≡ lineAt s i) × (columnAt s (i + 1) ≡ columnAt s i + 1)
  past-other i h n f =
      let z = ne_eqb (get_or s i 0) 0x0A n in
      (line-next i h ∙ rw (z, add-zero), column-next i h ∙ rw (z, between-out 0x80 0xBF (get_or s i 0) f, add-one))

  tails-many : (k i : ℕ) → i + k ≤ length s → AllIn 0x80 0xBF s i (i + k) → (lineAt s (i + k) ≡ lineAt s i) × (columnAt s (i + k) ≡ columnAt s i)
  tails-many zero i h t = (rw add-zero, rw add-zero)
  tails-many (suc k) i h t =
      let e : i + suc k ≡ i + 1 + k = omega arith in
      let b = t i (omega arith) (omega arith) in
      let p = past-tail i (omega arith) b.0 b.1 in
      let r = tails-many k (i + 1) (omega arith) (λ j l m. t j (omega arith) (omega arith)) in
      (ap (lineAt s) e ∙ r.0 ∙ p.0, ap (columnAt s) e ∙ r.1 ∙ p.1)

  -- nor do bytes 0x80 to 0xBF in a row
  pub past-tails : (i j : ℕ) → i ≤ j → j ≤ length s → AllIn 0x80 0xBF s i j → (lineAt s j ≡ lineAt s i) × (columnAt s j ≡ columnAt s i)
  past-tails i j l h t = let e : i + (j - i) ≡ j = omega arith in rw e at (tails-many (j - i) i (omega arith) (rw e t))
