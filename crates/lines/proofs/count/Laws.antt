-- Counting bytes of a range; parts of a script.
use Prim.Native.Nat.{ℕ, suc, ◌+◌, ◌-◌, ◌≤◌, ◌<◌}
use mathlib.Core.Path.{◌≡◌, refl, sym, ◌∙◌, ap}
use mathlib.Core.Bool.{Bool, true, false, cond}
use mathlib.Core.List.{List, [], ◌∷◌, ◌++◌}
use lib.ListN.{length, take, drop, get_or, length-drop}
use lib.Seq.{take-suc, take-add, take-length, get_or-drop, drop-drop, length-take-le}
use lib.Dec.{eqb}
use native.Mathlib.Nat.{sub-zero, zero-add}
use native.Mathlib.Numerals.{add-one}
use native.Mathlib.Omega.{arith}
use borrow.Author.Tests.{eqb-true, eqb-false}
use Rattle.chars.specs.paper.Quoted.{between}
use Rattle.chars.proofs.theorems.Promises.{code_laws}
use Rattle.lines.specs.computed.Lines.{part, countIn, lineCount}
open code_laws use {between-in, between-out}

-- ---- parts

-- one byte more
pub part-more : (s : List ℕ) (i j : ℕ) → i ≤ j → j < length s → part s i (j + 1) ≡ part s i j ++ (get_or s j 0 ∷ [])
part-more s i j h k =
    let d = length-drop i s in
    let e : j + 1 - i ≡ suc (j - i) = omega arith in
    let f : i + (j - i) ≡ j = omega arith in
    ap (λ n. take n (drop i s)) e
    ∙ take-suc (drop i s) (j - i) 0 (omega arith)
    ∙ ap (λ b. take (j - i) (drop i s) ++ (b ∷ [])) (get_or-drop i s (j - i) 0 ∙ ap (λ n. get_or s n 0) f)

-- none
pub part-none : (s : List ℕ) (i : ℕ) → part s i i ≡ []
part-none s i = let e : i - i ≡ 0 = omega arith in ap (λ n. take n (drop i s)) e

-- two that meet
pub part-join : (s : List ℕ) (i j k : ℕ) → i ≤ j → j ≤ k → part s i k ≡ part s i j ++ part s j k
part-join s i j k h l =
    let e : k - i ≡ j - i + (k - j) = omega arith in
    let f : i + (j - i) ≡ j = omega arith in
    ap (λ n. take n (drop i s)) e
    ∙ take-add (j - i) (k - j) (drop i s)
    ∙ ap (λ t. take (j - i) (drop i s) ++ take (k - j) t) (drop-drop (j - i) i s ∙ ap (λ n. drop n s) f)

-- the front, and all
pub part-front : (s : List ℕ) (j : ℕ) → part s 0 j ≡ take j s
part-front s j = ap (λ n. take n s) (sub-zero j)

pub part-all : (s : List ℕ) → part s 0 (length s) ≡ s
part-all s = part-front s (length s) ∙ take-length s

pub part-length : (s : List ℕ) (i j : ℕ) → j ≤ length s → length (part s i j) ≡ j - i
part-length s i j h = let d = length-drop i s in length-take-le (j - i) (drop i s) (omega arith)

-- ---- counting

-- the range that has LF alone
pub between-lf : (b : ℕ) → between 0x0A 0x0A b ≡ eqb b 0x0A
between-lf b = go (eqb b 0x0A) refl
  where
    go : (t : Bool) → eqb b 0x0A ≡ t → between 0x0A 0x0A b ≡ t
    go true e = let z = eqb-true b 0x0A e in between-in 0x0A 0x0A b (omega arith) (omega arith)
    go false e = between-out 0x0A 0x0A b (λ l. let z = eqb-false b 0x0A e in omega arith)

module _ (low high : ℕ) where
  pub count-append : (x y : List ℕ) → countIn low high (x ++ y) ≡ countIn low high x + countIn low high y
  unfolding countIn
  count-append [] y = sym (zero-add _)
  count-append (b ∷ x) y = go (between low high b) (count-append x y)
    where
      go : (t : Bool) → countIn low high (x ++ y) ≡ countIn low high x + countIn low high y
          → cond t (suc (countIn low high (x ++ y))) (countIn low high (x ++ y)) ≡ cond t (suc (countIn low high x)) (countIn low high x) + countIn low high y
      go true e = omega arith
      go false e = e

  pub count-most : (s : List ℕ) → countIn low high s ≤ length s
  unfolding countIn
  count-most [] = omega arith
  count-most (b ∷ s) = go (between low high b) (count-most s)
    where
      go : (t : Bool) → countIn low high s ≤ length s → cond t (suc (countIn low high s)) (countIn low high s) ≤ suc (length s)
      go true h = omega arith
      go false h = omega arith

  pub count-one : (b : ℕ) → countIn low high (b ∷ []) ≡ cond (between low high b) 1 0
  unfolding countIn
  count-one b = refl

  -- nothing counted before the first byte
  pub count-none : (s : List ℕ) (i : ℕ) → countIn low high (part s i i) ≡ 0
  unfolding countIn
  count-none s i = ap (countIn low high) (part-none s i)

  -- one byte more, and a part more
  pub count-more : (s : List ℕ) (i j : ℕ) → i ≤ j → j < length s
      → countIn low high (part s i (j + 1)) ≡ countIn low high (part s i j) + cond (between low high (get_or s j 0)) 1 0
  count-more s i j h k =
      ap (countIn low high) (part-more s i j h k)
      ∙ count-append (part s i j) (get_or s j 0 ∷ [])
      ∙ ap (λ m. countIn low high (part s i j) + m) (count-one (get_or s j 0))

  pub count-join : (s : List ℕ) (i j k : ℕ) → i ≤ j → j ≤ k → countIn low high (part s i j) + countIn low high (part s j k) ≡ countIn low high (part s i k)
  count-join s i j k h l = sym (count-append (part s i j) (part s j k)) ∙ ap (countIn low high) (sym (part-join s i j k h l))

  pub count-within : (s : List ℕ) (i j : ℕ) → j ≤ length s → countIn low high (part s i j) ≤ j - i
  count-within s i j h = let a = count-most (part s i j) in let b = part-length s i j h in omega arith

  -- of the bytes in front one more
  pub count-next : (s : List ℕ) (i : ℕ) → i < length s
      → countIn low high (take (i + 1) s) ≡ countIn low high (take i s) + cond (between low high (get_or s i 0)) 1 0
  count-next s i h =
      rw (add-one, take-suc s i 0 h) (count-append (take i s) (get_or s i 0 ∷ []) ∙ ap (λ m. countIn low high (take i s) + m) (count-one (get_or s i 0)))

-- for the functions that count
pub ruleset counting = (count-none, count-next, count-most, count-within, count-append, take-length)

-- a line is a byte at least, but the last
pub lines_most : (s : List ℕ) → lineCount s ≤ length s + 1
unfolding lineCount
lines_most s = let c = count-most 0x0A 0x0A s in omega arith
