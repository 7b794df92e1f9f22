-- Laws of a table of ranges in ascending order: what one test over its ranges says of many codes, and what the order test says.
use Rattle.std.proofs.Common.{ℕ, zero, suc, ◌≤◌, ◌<◌, ◌≡◌, refl, ap, Bool, true, false, ◌&&◌, ◌||◌, ⊎_elim, List, [], ◌∷◌, not-suc-le-zero, le_of_suc-le-suc, arith, ltb-true, leb-true, leb-false, le-leb, leb, ltb, length, take, drop}
use Rattle.std.proofs.lemmas.Bool.{or_cases}
use Rattle.std.proofs.Math.Bool.{or-true}
use Rattle.chars.specs.paper.Quoted.{between}
use Rattle.chars.specs.paper.Ranges.{Range, ◌to◌, low, high, rangeAt, inRanges, Ascending}
use Rattle.chars.specs.computed.Ascending.{ascendingFrom}
use Rattle.chars.proofs.Bools.{clash, and-both}

-- ---- a code and one range

pub between-in : (l h c : ℕ) → l ≤ c → c ≤ h → between l h c ≡ true
between-in l h c p q = rw (le-leb l c, le-leb c h)

pub between-out : (l h c : ℕ) → (l ≤ c → h < c) → between l h c ≡ false
between-out l h c p = grind (arith, p)

pub in-between : (l h c : ℕ) → between l h c ≡ true → (l ≤ c) × (c ≤ h)
in-between l h c e = let k = and-both (leb l c) (leb c h) e in (leb-true l c k.0, leb-true c h k.1)

pub not-between : (l h c : ℕ) → between l h c ≡ false → l ≤ c → h < c
not-between l h c e p = leb-false c h (rw (le-leb l c p) at e)

-- ---- a table and the codes from l to h, by one test over its ranges

-- no range meets them
abbrev pub clear : ℕ → ℕ → List Range → Bool
clear l h [] = true
clear l h (◌to◌ a b ∷ t) = (ltb b l || ltb h a) && clear l h t

-- one range holds all of them
abbrev pub covered : ℕ → ℕ → List Range → Bool
covered l h [] = false
covered l h (◌to◌ a b ∷ t) = leb a l && leb h b || covered l h t

module _ (l h c : ℕ) (p : l ≤ c) (q : c ≤ h) where
  pub clear-out : (t : List Range) → clear l h t ≡ true → inRanges t c ≡ false
  clear-out [] e = refl
  clear-out (◌to◌ a b ∷ t) e =
      let k = and-both (ltb b l || ltb h a) (clear l h t) e in
      let off : a ≤ c → b < c =
      λ m. ⊎_elim (λ f. let z = ltb-true b l f in omega arith) (λ f. let z = ltb-true h a f in absurd (omega arith)) (or_cases (ltb b l) (ltb h a) k.0) in
      rw (between-out a b c off) (clear-out t k.1)

  pub covered-in : (t : List Range) → covered l h t ≡ true → inRanges t c ≡ true
  covered-in [] e = clash e
  covered-in (◌to◌ a b ∷ t) e =
      ⊎_elim here (λ g. rw (covered-in t g) (or-true (between a b c))) (or_cases (leb a l && leb h b) (covered l h t) e)
    where
      here : leb a l && leb h b ≡ true → between a b c || inRanges t c ≡ true
      here f = grind arith

-- up to h only the first k ranges count
pub only-first : (k : ℕ) (t : List Range) (h c : ℕ) → clear 0 h (drop k t) ≡ true → c ≤ h → inRanges t c ≡ inRanges (take k t) c
only-first zero t h c e l = clear-out 0 h c (omega arith) l t e
only-first (suc k) [] h c e l = refl
only-first (suc k) (◌to◌ a b ∷ t) h c e l = ap (λ z. between a b c || z) (only-first k t h c e l)

-- ---- what the order test says

-- of its first range and of the rest
record FirstRange (f a b : ℕ) (t : List Range) : Type 0 where
  start : f ≤ a
  ends : a ≤ b
  rest : ascendingFrom (suc b) t ≡ true

first-range : (f a b : ℕ) (t : List Range) → ascendingFrom f (a to b ∷ t) ≡ true → FirstRange f a b t
first-range f a b t e = grind arith

-- every range begins at the bound or above
low-from : (f : ℕ) (t : List Range) → ascendingFrom f t ≡ true → (k : ℕ) → k < length t → f ≤ low (rangeAt t k)
low-from f [] e k h = absurd (not-suc-le-zero h)
low-from f (◌to◌ a b ∷ t) e zero h = (first-range f a b t e).start
low-from f (◌to◌ a b ∷ t) e (suc k) h =
    let q = first-range f a b t e in
    let i = low-from (suc b) t q.rest k (le_of_suc-le-suc h) in
    omega arith

ordered-from : (f : ℕ) (t : List Range) → ascendingFrom f t ≡ true → (k : ℕ) → k < length t → low (rangeAt t k) ≤ high (rangeAt t k)
ordered-from f [] e k h = absurd (not-suc-le-zero h)
ordered-from f (◌to◌ a b ∷ t) e zero h = (first-range f a b t e).ends
ordered-from f (◌to◌ a b ∷ t) e (suc k) h = ordered-from (suc b) t (first-range f a b t e).rest k (le_of_suc-le-suc h)

disjoint-from : (f : ℕ) (t : List Range) → ascendingFrom f t ≡ true → (k : ℕ) → suc k < length t → high (rangeAt t k) < low (rangeAt t (suc k))
disjoint-from f [] e k h = absurd (not-suc-le-zero h)
disjoint-from f (◌to◌ a b ∷ t) e zero h = low-from (suc b) t (first-range f a b t e).rest zero (le_of_suc-le-suc h)
disjoint-from f (◌to◌ a b ∷ t) e (suc k) h = disjoint-from (suc b) t (first-range f a b t e).rest k (le_of_suc-le-suc h)

-- a table that passes the test ascends
pub ascending : (t : List Range) → ascendingFrom 0 t ≡ true → Ascending t
ascending t e = record { ordered = ordered-from 0 t e; disjoint = disjoint-from 0 t e }
