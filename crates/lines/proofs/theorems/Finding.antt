-- Over the line starts of the script the search finds the line of a place, and the column since its start is the place's column.
use Prim.Native.Nat.{ℕ, zero, suc, ◌+◌, ◌-◌, ◌≤◌, ◌<◌}
use mathlib.Core.Path.{◌≡◌, refl, sym, ◌∙◌, ap}
use mathlib.Core.Bool.{Bool, true, false, cond}
use mathlib.Core.List.{List, [], ◌∷◌}
use lib.ListN.{length, take, get_or}
use lib.Seq.{get_or-take}
use lib.Dec.{eqb, leb, leb-suc-suc}
use native.Mathlib.Nat.{zero-add, sub-zero}
use native.Mathlib.Omega.{arith}
use borrow.Author.Tests.{leb-true, le-leb, lt-leb}
use Rattle.lines.specs.computed.Lines.{part, countIn, startsIn, startsOf, lineCount, lfsBefore, columnFrom, columnAt, searchOf, columnSince}
use Rattle.lines.proofs.count.Laws.{between-lf, part-front, part-all, count-join}
use Rattle.lines.proofs.index.Laws.{starts-count}
use Rattle.lines.proofs.find.Laws.{search-finds}
use Rattle.lines.proofs.theorems.Bytes.{column-since}

-- ---- the starts behind LFs

-- each lies behind the place where the bytes begin
start-behind : (s : List ℕ) (i r : ℕ) → r < length (startsIn i s) → i < get_or (startsIn i s) r 0
unfolding startsIn
start-behind [] i r h = absurd (omega arith)
start-behind (b ∷ s) i r h = go (eqb b 0x0A) r h (λ r k. start-behind s (suc i) r k)
  where
    go : (t : Bool) (r : ℕ) → r < length (cond t (suc i ∷ startsIn (suc i) s) (startsIn (suc i) s))
        → ((r : ℕ) → r < length (startsIn (suc i) s) → suc i < get_or (startsIn (suc i) s) r 0)
        → i < get_or (cond t (suc i ∷ startsIn (suc i) s) (startsIn (suc i) s)) r 0
    go true zero h more = omega arith
    go true (suc r) h more = let k = more r (omega arith) in omega arith
    go false r h more = let k = more r h in omega arith

-- the one at r is at most a place exactly where more than r LFs stand before that place
start-at-most : (s : List ℕ) (i r a : ℕ) → r < length (startsIn i s) → a ≤ length s
    → leb (get_or (startsIn i s) r 0) (i + a) ≡ leb (suc r) (countIn 0x0A 0x0A (take a s))
unfolding startsIn countIn
start-at-most [] i r a h l = absurd (omega arith)
start-at-most (b ∷ s) i r zero h l = let k = start-behind (b ∷ s) i r h in lt-leb _ (i + 0) (omega arith) ∙ sym (lt-leb (suc r) 0 (omega arith))
start-at-most (b ∷ s) i r (suc a) h l =
    let e : i + suc a ≡ suc i + a = omega arith in
    rw (e, between-lf b) (go (eqb b 0x0A) r h (λ r k. start-at-most s (suc i) r a k (omega arith)))
  where
    lfs : ℕ
    lfs = countIn 0x0A 0x0A (take a s)

    go : (t : Bool) (r : ℕ) → r < length (cond t (suc i ∷ startsIn (suc i) s) (startsIn (suc i) s))
        → ((r : ℕ) → r < length (startsIn (suc i) s) → leb (get_or (startsIn (suc i) s) r 0) (suc i + a) ≡ leb (suc r) lfs)
        → leb (get_or (cond t (suc i ∷ startsIn (suc i) s) (startsIn (suc i) s)) r 0) (suc i + a) ≡ leb (suc r) (cond t (suc lfs) lfs)
    go true zero h more = le-leb (suc i) (suc i + a) (omega arith) ∙ sym (le-leb 1 (suc lfs) (omega arith))
    go true (suc r) h more = more r (omega arith) ∙ sym (leb-suc-suc (suc r) lfs)
    go false r h more = more r h

-- and is in the first column
start-column : (s : List ℕ) (i r c : ℕ) → r < length (startsIn i s) → columnFrom c (take (get_or (startsIn i s) r 0 - i) s) ≡ 1
unfolding startsIn columnFrom
start-column [] i r c h = absurd (omega arith)
start-column (b ∷ s) i r c h = go (eqb b 0x0A) refl r h (λ r k. start-behind s (suc i) r k) (λ r c k. start-column s (suc i) r c k)
  where
    -- one byte on
    on : (x : ℕ) → i < x → ((d : ℕ) → columnFrom d (take (x - suc i) s) ≡ 1) → columnFrom c (take (x - i) (b ∷ s)) ≡ 1
    on x l more = let e : x - i ≡ suc (x - suc i) = omega arith in rw e (more _)

    go : (t : Bool) → eqb b 0x0A ≡ t → (r : ℕ) → r < length (cond t (suc i ∷ startsIn (suc i) s) (startsIn (suc i) s))
        → ((r : ℕ) → r < length (startsIn (suc i) s) → suc i < get_or (startsIn (suc i) s) r 0)
        → ((r c : ℕ) → r < length (startsIn (suc i) s) → columnFrom c (take (get_or (startsIn (suc i) s) r 0 - suc i) s) ≡ 1)
        → columnFrom c (take (get_or (cond t (suc i ∷ startsIn (suc i) s) (startsIn (suc i) s)) r 0 - i) (b ∷ s)) ≡ 1
    go true e zero h behind more = let q : suc i - i ≡ 1 = omega arith in rw (q, e)
    go true e (suc r) h behind more = let k = behind r (omega arith) in on (get_or (startsIn (suc i) s) r 0) (omega arith) (λ d. more r d (omega arith))
    go false e r h behind more = let k = behind r h in on (get_or (startsIn (suc i) s) r 0) (omega arith) (λ d. more r d h)

-- ---- all starts

module _ (s : List ℕ) where
  pub start-most : (r a : ℕ) → r < lineCount s → a ≤ length s → leb (get_or (startsOf s) r 0) a ≡ leb r (lfsBefore s a)
  unfolding startsOf lineCount lfsBefore
  start-most zero a h l = le-leb 0 a (omega arith) ∙ sym (le-leb 0 (countIn 0x0A 0x0A (take a s)) (omega arith))
  start-most (suc r) a h l = let c = starts-count 0 s in rw zero-add at (start-at-most s 0 r a (omega arith) l)

  first-column : (r : ℕ) → r < lineCount s → columnAt s (get_or (startsOf s) r 0) ≡ 1
  unfolding startsOf lineCount columnAt columnFrom
  first-column zero h = refl
  first-column (suc r) h = let c = starts-count 0 s in rw sub-zero at (start-column s 0 r 1 (omega arith))

  -- LFs before a place: all are no more than the script's; those behind a place before it are the rest
  pub lfs-below : (a : ℕ) → a ≤ length s → lfsBefore s a < lineCount s
  unfolding lineCount lfsBefore
  lfs-below a l =
      let j = count-join 0x0A 0x0A s 0 a (length s) (omega arith) l in
      let f = ap (countIn 0x0A 0x0A) (part-front s a) in
      let g = ap (countIn 0x0A 0x0A) (part-all s) in
      omega arith

  lfs-rest : (i a : ℕ) → i ≤ a → lfsBefore s i + countIn 0x0A 0x0A (part s i a) ≡ lfsBefore s a
  unfolding lfsBefore
  lfs-rest i a l =
      let j = count-join 0x0A 0x0A s 0 i a (omega arith) l in
      let f = ap (countIn 0x0A 0x0A) (part-front s i) in
      let g = ap (countIn 0x0A 0x0A) (part-front s a) in
      omega arith

  -- ---- a place, in an index whose first numbers are the starts

  module _ (index : List ℕ) (a : ℕ) (is : take (lineCount s) index ≡ startsOf s) (l : a ≤ length s) where
    same-start : (k : ℕ) → k < lineCount s → get_or index k 0 ≡ get_or (startsOf s) k 0
    same-start k h = sym (get_or-take (lineCount s) index k 0 h) ∙ ap (λ t. get_or t k 0) is

    pub finds-line : searchOf index (lineCount s) a ≡ lfsBefore s a
    unfolding searchOf
    finds-line =
        let b = lfs-below a l in
        search-finds
        index
        a
        (lineCount s)
        0
        (lineCount s)
        (lfsBefore s a)
        (omega arith)
        (omega arith)
        (omega arith)
        (λ k h. ap (λ x. leb x a) (same-start k (omega arith)) ∙ start-most k a (omega arith) l)

    pub finds-column : columnSince s (get_or index (lfsBefore s a) 0) a ≡ columnAt s a
    finds-column =
        let n = lfsBefore s a in
        let b = lfs-below a l in
        let i = get_or (startsOf s) n 0 in
        let h = leb-true i a (start-most n a b l ∙ le-leb n n (omega arith)) in
        let m = leb-true n (lfsBefore s i) (sym (start-most n i b (omega arith)) ∙ le-leb i i (omega arith)) in
        let r = lfs-rest i a h in
        ap (λ x. columnSince s x a) (same-start n b) ∙ sym (column-since s i a h l (first-column n b) (omega arith))
