-- The search by halves.
use Prim.Native.Nat.{ℕ, zero, suc, ◌+◌, ◌-◌, ◌≤◌, ◌<◌, ◌/◌, ◌%◌}
use mathlib.Core.Path.{◌≡◌, refl, sym, ◌∙◌}
use mathlib.Core.Bool.{Bool, true, false, cond}
use mathlib.Core.List.{List}
use lib.ListN.{get_or}
use lib.Dec.{leb}
use native.Mathlib.Nat.{div-add-mod', mod-lt}
use native.Mathlib.Omega.{arith}
use borrow.Author.Tests.{leb-true, leb-false, le-leb, lt-leb}
use Rattle.lines.specs.computed.Lines.{searchIn, searchOf, columnSince}

-- a column is at least 1, and at most one more than the place
pub column-between : (s : List ℕ) (start a : ℕ) → (1 ≤ columnSince s start a) × (columnSince s start a ≤ a + 1)
unfolding columnSince
column-between s start a = (omega arith, omega arith)

-- a half of two or more is something, and not all
pub half : (n : ℕ) → 1 < n → (1 ≤ n / 2) × (n / 2 < n)
half n h = let d = div-add-mod' n 2 in let m : n % 2 < 2 = mod-lt n (omega arith) in (omega arith, omega arith)

module _ (index : List ℕ) (a : ℕ) where
  -- one number is found
  pub search-one : (m low size : ℕ) → size ≤ 1 → searchIn m index a low size ≡ low
  unfolding searchIn
  search-one zero low size h = refl
  search-one (suc m) low size h = rw (le-leb size 1 h)

  -- of two or more one half goes
  search-step : (m low size : ℕ) → 1 < size
      → searchIn (suc m) index a low size
      ≡ searchIn m index a (cond (leb (get_or index (low + size / 2) 0) a) (low + size / 2) low) (cond (leb (get_or index (low + size / 2) 0) a) (size - size / 2) (size / 2))
  unfolding searchIn
  search-step m low size h = rw (lt-leb size 1 h)

  -- what is left is smaller
  less : (t : Bool) (size : ℕ) → 1 < size → (1 ≤ cond t (size - size / 2) (size / 2)) × (cond t (size - size / 2) (size / 2) < size)
  less true size h = let k = half size h in (omega arith, omega arith)
  less false size h = half size h

  -- so as many turns as there are numbers are enough, and more do not matter
  pub search-turns : (m n low size : ℕ) → size ≤ m → size ≤ n → searchIn m index a low size ≡ searchIn n index a low size
  search-turns zero n low size h k = search-one zero low size (omega arith) ∙ sym (search-one n low size (omega arith))
  search-turns (suc m) zero low size h k = search-one (suc m) low size (omega arith) ∙ sym (search-one zero low size (omega arith))
  search-turns (suc m) (suc n) low size h k = go (leb size 1) refl (λ l s. search-turns m n l s)
    where
      go : (t : Bool) → leb size 1 ≡ t → ((l s : ℕ) → s ≤ m → s ≤ n → searchIn m index a l s ≡ searchIn n index a l s)
          → searchIn (suc m) index a low size ≡ searchIn (suc n) index a low size
      go true e on = let q = leb-true size 1 e in search-one (suc m) low size q ∙ sym (search-one (suc n) low size q)
      go false e on =
          let q = leb-false size 1 e in
          let t = leb (get_or index (low + size / 2) 0) a in
          let l = less t size q in
          search-step m low size q
          ∙ on (cond t (low + size / 2) low) (cond t (size - size / 2) (size / 2)) (omega arith) (omega arith)
          ∙ sym (search-step n low size q)

  -- ---- one turn of the loop

  turn : (low size : ℕ) (t : Bool) → 1 < size → leb (get_or index (low + size / 2) 0) a ≡ t
      → searchIn (cond t (size - size / 2) (size / 2)) index a (cond t (low + size / 2) low) (cond t (size - size / 2) (size / 2)) ≡ searchIn size index a low size
  turn low zero t h e = absurd (omega arith)
  turn low (suc m) t h e =
      let l = less t (suc m) h in
      search-turns _ m (cond t (low + suc m / 2) low) (cond t (suc m - suc m / 2) (suc m / 2)) (omega arith) (omega arith)
      ∙ sym (search-step m low (suc m) h ∙ rw e)

  pub search-right : (low size : ℕ) → 1 < size → get_or index (low + size / 2) 0 ≤ a
      → searchIn (size - size / 2) index a (low + size / 2) (size - size / 2) ≡ searchIn size index a low size
  search-right low size h k = turn low size true h (le-leb _ a k)

  pub search-left : (low size : ℕ) → 1 < size → a < get_or index (low + size / 2) 0 → searchIn (size / 2) index a low (size / 2) ≡ searchIn size index a low size
  search-left low size h k = turn low size false h (lt-leb _ a k)

  -- ---- what is found

  -- one of the numbers
  pub search-below : (m low size : ℕ) → size ≤ m → 1 ≤ size → searchIn m index a low size < low + size
  search-below zero low size h k = absurd (omega arith)
  search-below (suc m) low size h k = go (leb size 1) refl (λ l s. search-below m l s)
    where
      half-of : (t : Bool) → 1 < size → ((l s : ℕ) → s ≤ m → 1 ≤ s → searchIn m index a l s < l + s)
          → searchIn m index a (cond t (low + size / 2) low) (cond t (size - size / 2) (size / 2)) < low + size
      half-of true q on = let l = half size q in let r = on (low + size / 2) (size - size / 2) (omega arith) (omega arith) in omega arith
      half-of false q on = let l = half size q in let r = on low (size / 2) (omega arith) (omega arith) in omega arith

      go : (t : Bool) → leb size 1 ≡ t → ((l s : ℕ) → s ≤ m → 1 ≤ s → searchIn m index a l s < l + s) → searchIn (suc m) index a low size < low + size
      go true e on = let q = search-one (suc m) low size (leb-true size 1 e) in omega arith
      go false e on =
          let q = leb-false size 1 e in
          rw (search-step m low size q) (half-of (leb (get_or index (low + size / 2) 0) a) q on)

  -- where the numbers up to the one at n, and only these, are at most a, it is the one at n
  pub search-finds : (m low size n : ℕ) → size ≤ m → low ≤ n → n < low + size
      → ((k : ℕ) → k < low + size → leb (get_or index k 0) a ≡ leb k n) → searchIn m index a low size ≡ n
  search-finds zero low size n h b c is = absurd (omega arith)
  search-finds (suc m) low size n h b c is =
      go (leb size 1) refl (λ l s. search-finds m l s n)
    where
      On : Type 0
      On = (l s : ℕ) → s ≤ m → l ≤ n → n < l + s → ((k : ℕ) → k < l + s → leb (get_or index k 0) a ≡ leb k n) → searchIn m index a l s ≡ n

      half-of : (t : Bool) → leb (low + size / 2) n ≡ t → 1 < size → On
          → searchIn m index a (cond t (low + size / 2) low) (cond t (size - size / 2) (size / 2)) ≡ n
      half-of true w q on =
          let l = half size q in
          let r = leb-true (low + size / 2) n w in
          on (low + size / 2) (size - size / 2) (omega arith) r (omega arith) (λ k j. is k (omega arith))
      half-of false w q on =
          let l = half size q in
          let r = leb-false (low + size / 2) n w in
          on low (size / 2) (omega arith) b r (λ k j. is k (omega arith))

      go : (t : Bool) → leb size 1 ≡ t → On → searchIn (suc m) index a low size ≡ n
      go true e on = let q = leb-true size 1 e in search-one (suc m) low size q ∙ omega arith
      go false e on =
          let q = leb-false size 1 e in
          let l = half size q in
          search-step m low size q ∙ rw (is (low + size / 2) (omega arith)) (half-of (leb (low + size / 2) n) refl q on)

-- of the first `lines` numbers one is found
pub search-within : (index : List ℕ) (lines a : ℕ) → 1 ≤ lines → searchOf index lines a < lines
unfolding searchOf
search-within index lines a h = let r = search-below index a lines 0 lines (omega arith) h in omega arith

-- for the loop that halves
pub ruleset halves = (half, search-one, search-right, search-left)
