-- Where lines start, byte by byte and many at a time.
use Prim.Native.Nat.{ℕ, zero, suc, ◌+◌, ◌-◌, ◌*◌, ◌/◌, ◌%◌, ◌^◌, ◌≤◌, ◌<◌}
use mathlib.Core.Path.{◌≡◌, refl, sym, ◌∙◌, ap}
use mathlib.Core.Bool.{Bool, true, false, cond}
use mathlib.Core.List.{List, [], ◌∷◌, ◌++◌, append-nil, map}
use lib.ListN.{length, take, drop, get_or, set, replicate, length-append, length-set}
use lib.Seq.{sets, length-sets, drop-drop}
use lib.Dec.{eqb}
use native.Mathlib.Nat.{add-zero, mul_comm, pow-suc, div-div-eq-div-mul}
use lib.Count.{count_trailing_zeros, under}
use lib.Lanes.{chunk, mask_l, top, zip2}
use mir.Syntax.{w8}
use mir.Val.{bits, hbits}
use Rattle.std.proofs.lemmas.Simd.{bitmask_splat, length-chunk}
use Rattle.std.specs.List.{range_with_len}
use Rattle.std.proofs.lemmas.List.{drop-take}
use Rattle.std.proofs.lemmas.List.FromFn.{length-range_with_len}
use native.Mathlib.Numerals.{add-one}
use native.Mathlib.Omega.{arith}
use borrow.Author.Tests.{eq-eqb, ne_eqb}
use Rattle.words.proofs.Stores.{after, sets-front}
use Rattle.lines.specs.computed.Lines.{part, countIn, startsIn, startsOf, lineCount}
use Rattle.lines.specs.code.Index.{lfMask}
use Rattle.lines.proofs.count.Laws.{between-lf, part-more, part-none, part-join, part-all, part-length}

-- ---- starts

pub starts-append : (i : ℕ) (x y : List ℕ) → startsIn i (x ++ y) ≡ startsIn i x ++ startsIn (i + length x) y
unfolding startsIn
starts-append i [] y = ap (λ k. startsIn k y) (sym (add-zero i))
starts-append i (b ∷ x) y =
    let e : suc i + length x ≡ i + suc (length x) = omega arith in
    go (eqb b 0x0A) (starts-append (suc i) x y ∙ ap (λ k. startsIn (suc i) x ++ startsIn k y) e)
  where
    go : (t : Bool) → startsIn (suc i) (x ++ y) ≡ startsIn (suc i) x ++ startsIn (i + suc (length x)) y
        → cond t (suc i ∷ startsIn (suc i) (x ++ y)) (startsIn (suc i) (x ++ y))
        ≡ cond t (suc i ∷ startsIn (suc i) x) (startsIn (suc i) x) ++ startsIn (i + suc (length x)) y
    go true h = ap (λ l. suc i ∷ l) h
    go false h = h

-- there are as many as LFs
pub starts-count : (i : ℕ) (s : List ℕ) → length (startsIn i s) ≡ countIn 0x0A 0x0A s
unfolding startsIn countIn
starts-count i [] = refl
starts-count i (b ∷ s) = rw (between-lf b) (go (eqb b 0x0A) (starts-count (suc i) s))
  where
    go : (t : Bool) → length (startsIn (suc i) s) ≡ countIn 0x0A 0x0A s
        → length (cond t (suc i ∷ startsIn (suc i) s) (startsIn (suc i) s)) ≡ cond t (suc (countIn 0x0A 0x0A s)) (countIn 0x0A 0x0A s)
    go true h = ap suc h
    go false h = h

pub lines-length : (s : List ℕ) → length (startsOf s) ≡ lineCount s
unfolding startsOf lineCount
lines-length s = ap suc (starts-count 0 s)

-- two parts that meet
pub starts-join : (s : List ℕ) (i j k : ℕ) → i ≤ j → j ≤ k → j ≤ length s → startsIn i (part s i k) ≡ startsIn i (part s i j) ++ startsIn j (part s j k)
starts-join s i j k h l m =
    let e : i + length (part s i j) ≡ j = let p = part-length s i j m in omega arith in
    ap (startsIn i) (part-join s i j k h l)
    ∙ starts-append i (part s i j) (part s j k)
    ∙ ap (λ n. startsIn i (part s i j) ++ startsIn n (part s j k)) e

-- their numbers add up
pub starts-sum : (s : List ℕ) (i j k : ℕ) → i ≤ j → j ≤ k → j ≤ length s
    → length (startsIn i (part s i j)) + length (startsIn j (part s j k)) ≡ length (startsIn i (part s i k))
starts-sum s i j k h l m = sym (ap length (starts-join s i j k h l m) ∙ length-append (startsIn i (part s i j)) (startsIn j (part s j k)))

-- one byte
part-one : (s : List ℕ) (j : ℕ) → j < length s → part s j (j + 1) ≡ get_or s j 0 ∷ []
part-one s j h = part-more s j j (omega arith) h ∙ ap (λ l. l ++ (get_or s j 0 ∷ [])) (part-none s j)

pub one-lf : (s : List ℕ) (j : ℕ) → j < length s → get_or s j 0 ≡ 0x0A → startsIn j (part s j (j + 1)) ≡ (j + 1) ∷ []
unfolding startsIn
one-lf s j h e = ap (startsIn j) (part-one s j h) ∙ rw (eq-eqb (get_or s j 0) 0x0A e, ← add-one j)

pub one-other : (s : List ℕ) (j : ℕ) → j < length s → (get_or s j 0 ≡ 0x0A → ⊥) → startsIn j (part s j (j + 1)) ≡ []
unfolding startsIn
one-other s j h n = ap (startsIn j) (part-one s j h) ∙ rw (ne_eqb (get_or s j 0) 0x0A n)

-- none before the first byte
pub starts-none : (s : List ℕ) (i : ℕ) → startsIn i (part s i i) ≡ []
unfolding startsIn
starts-none s i = ap (startsIn i) (part-none s i)

-- ---- bytes by their mask

-- of n bytes at once, by what the comparison with as many LFs answers
pub mask-of : (n : ℕ) (s : List ℕ) (at : ℕ) → at + n ≤ length s → n ≤ 64
    → mask_l (map (top (hbits w8)) (zip2 (λ a b. cond (eqb a b) (2 ^ bits w8 - 1) 0) (chunk at n s) (replicate n 0x0A))) % 2 ^ 64 ≡ lfMask (part s at (at + n))
unfolding lfMask
mask-of n s at h few =
    let e : n ≡ at + n - at = omega arith in
    bitmask_splat w8 eqb (chunk at n s) n 0x0A (length-chunk at n s h) few ∙ ap (λ m. lfMask (take m (drop at s))) e

-- no LF is marked
mask-none : (i : ℕ) (s : List ℕ) → lfMask s ≡ 0 → startsIn i s ≡ []
unfolding lfMask startsIn
mask-none i [] e = refl
mask-none i (b ∷ s) e = go (eqb b 0x0A) e (mask-none (suc i) s)
  where
    go : (t : Bool) → cond t 1 0 + 2 * lfMask s ≡ 0 → (lfMask s ≡ 0 → startsIn (suc i) s ≡ []) → cond t (suc i ∷ startsIn (suc i) s) (startsIn (suc i) s) ≡ []
    go true e f = absurd (omega arith)
    go false e f = f (omega arith)

-- all are
mask-all : (i : ℕ) (s : List ℕ) → lfMask s + 1 ≡ 2 ^ length s → startsIn i s ≡ range_with_len (i + 1) (length s)
unfolding lfMask startsIn
mask-all i [] e = refl
mask-all i (b ∷ s) e = go (eqb b 0x0A) (e ∙ pow-suc 2 (length s)) (mask-all (suc i) s)
  where
    go : (t : Bool) → cond t 1 0 + 2 * lfMask s + 1 ≡ 2 ^ length s * 2 → (lfMask s + 1 ≡ 2 ^ length s → startsIn (suc i) s ≡ range_with_len (suc i + 1) (length s))
        → cond t (suc i ∷ startsIn (suc i) s) (startsIn (suc i) s) ≡ (i + 1) ∷ range_with_len (i + 1 + 1) (length s)
    go true e f = rw (add-one i) (ap (λ l. suc i ∷ l) (f (omega arith)))
    go false e f = absurd (omega arith)

-- so many of them
pub starts-all : (n : ℕ) (s : List ℕ) (i : ℕ) → i + n ≤ length s → lfMask (part s i (i + n)) + 1 ≡ 2 ^ n → startsIn i (part s i (i + n)) ≡ range_with_len (i + 1) n
starts-all n s i h e =
    let long : length (part s i (i + n)) ≡ n = let l = part-length s i (i + n) h in omega arith in
    mask-all i (part s i (i + n)) (e ∙ sym (ap (λ n. 2 ^ n) long)) ∙ ap (range_with_len (i + 1)) long

-- the lowest bit, and the others
low : (t : Bool) (m : ℕ) → ((cond t 1 0 + 2 * m) % 2 ≡ cond t 1 0) × ((cond t 1 0 + 2 * m) / 2 ≡ m)
low true m = (omega arith, omega arith)
low false m = (omega arith, omega arith)

-- the first LF of bytes that begin at the place i: there are o others before it
record First (i o : ℕ) (s : List ℕ) : Type 0 where
  within : o < length s
  starts : startsIn i s ≡ suc (i + o) ∷ startsIn (suc (i + o)) (drop (suc o) s)
  rest : lfMask s / 2 ^ o ≡ 1 + 2 * lfMask (drop (suc o) s)

-- by the lowest bit that is 1
first-lf : (k i : ℕ) (s : List ℕ) → length s ≤ k → 0 < lfMask s → First i (count_trailing_zeros k (lfMask s)) s
unfolding count_trailing_zeros lfMask startsIn
first-lf k i [] h some = absurd (omega arith)
first-lf zero i (b ∷ s) h some = absurd (omega arith)
first-lf (suc k) i (b ∷ s) h some =
    let l = low (eqb b 0x0A) (lfMask s) in rw (l.0, l.1) (go (eqb b 0x0A) refl some (first-lf k (suc i) s (omega arith)))
  where
    go : (t : Bool) → eqb b 0x0A ≡ t → 0 < cond t 1 0 + 2 * lfMask s → (0 < lfMask s → First (suc i) (count_trailing_zeros k (lfMask s)) s)
        → First i (under (cond t 1 0) (count_trailing_zeros k (lfMask s))) (b ∷ s)
    go true e some f =
        record {
          within = omega arith;
          starts = rw e (ap (λ n. suc n ∷ startsIn (suc n) s) (sym (add-zero i)));
          rest = rw e (omega arith);
        }
    go false e some f =
        let r = f (omega arith) in
        let o = count_trailing_zeros k (lfMask s) in
        let half : (0 + 2 * lfMask s) / 2 ≡ lfMask s = omega arith in
        record {
          within = omega (arith, r.within);
          starts = rw e (r.starts ∙ ap (λ n. suc n ∷ startsIn (suc n) (drop (suc o) s)) (omega arith));
          rest =
              rw e (
              ap (λ d. (0 + 2 * lfMask s) / d) (pow-suc 2 o ∙ mul_comm (2 ^ o) 2) ∙ sym (div-div-eq-div-mul (0 + 2 * lfMask s) 2 (2 ^ o))
              ∙ ap (λ m. m / 2 ^ o) half ∙ r.rest
              );
        }

-- one digit more, a 0
zeros-double : (k m : ℕ) → count_trailing_zeros (suc k) (2 * m) ≡ suc (count_trailing_zeros k m)
unfolding count_trailing_zeros
zeros-double k m =
    let e : 2 * m % 2 ≡ 0 = omega arith in
    let f : 2 * m / 2 ≡ m = omega arith in
    rw (e, f)

zeros-odd : (k m : ℕ) → m % 2 ≡ 1 → count_trailing_zeros (suc k) m ≡ 0
unfolding count_trailing_zeros
zeros-odd k m e = rw e refl

-- a part without its first bytes
part-drop : (s : List ℕ) (i j n : ℕ) → i + n ≤ j → drop n (part s i j) ≡ part s (i + n) j
part-drop s i j n h =
    let k : j - i ≡ n + (j - (i + n)) = omega arith in
    ap (λ m. drop n (take m (drop i s))) k ∙ drop-take n (j - (i + n)) (drop i s) ∙ ap (take (j - (i + n))) (drop-drop n i s)

-- the mask without its first bits
pub mask-drop : (n : ℕ) (s : List ℕ) → lfMask s / 2 ^ n ≡ lfMask (drop n s)
unfolding lfMask
mask-drop zero s = omega arith
mask-drop (suc n) [] = omega arith
mask-drop (suc n) (b ∷ s) =
    let m = (low (eqb b 0x0A) (lfMask s)).1 in
    ap (λ d. (cond (eqb b 0x0A) 1 0 + 2 * lfMask s) / d) (pow-suc 2 n ∙ mul_comm (2 ^ n) 2)
    ∙ sym (div-div-eq-div-mul (cond (eqb b 0x0A) 1 0 + 2 * lfMask s) 2 (2 ^ n))
    ∙ ap (λ d. d / 2 ^ n) m
    ∙ mask-drop n s

-- of more bytes up to the same place
pub mask-behind : (s : List ℕ) (i j n : ℕ) → i + n ≤ j → lfMask (part s i j) / 2 ^ n ≡ lfMask (part s (i + n) j)
mask-behind s i j n h = mask-drop n (part s i j) ∙ ap lfMask (part-drop s i j n h)

-- of the last sixty-four bytes, those before the place i shifted out
pub mask-last : (s : List ℕ) (i : ℕ) → 64 ≤ length s → i ≤ length s → length s ≤ i + 64
    → lfMask (part s (length s - 64) (length s - 64 + 64)) / 2 ^ (64 - (length s - i)) ≡ lfMask (part s i (length s))
mask-last s i h b m =
    let e : length s - 64 + 64 ≡ length s = omega arith in
    let f : length s - 64 + (64 - (length s - i)) ≡ i = omega arith in
    rw e (mask-behind s (length s - 64) (length s) (64 - (length s - i)) (omega arith) ∙ ap (λ k. lfMask (part s k (length s))) f)

-- The starts up to the place j that are left, by x, the lowest bit of which says that a line starts at i: the others are the mask of the bytes from i on.
unfoldable pub ahead : List ℕ → ℕ → ℕ → ℕ → List ℕ
ahead s i j x =
    let rest = startsIn i (part s i j) in
    cond (eqb (x % 2) 1) (i ∷ rest) rest

-- the first of them, n places on
pub record Next (s : List ℕ) (i j x n : ℕ) : Type 0 where
  pub within : i + n ≤ j
  pub some : 1 ≤ x / 2 ^ n
  pub starts : ahead s i j x ≡ (i + n) ∷ ahead s (i + n) j (x / 2 ^ n - 1)
  pub mask : (x / 2 ^ n - 1) / 2 ≡ lfMask (part s (i + n) j)
  pub less : 2 * (j - (i + n)) + (x / 2 ^ n - 1) % 2 < 2 * (j - i) + x % 2

module _ (s : List ℕ) (i j : ℕ) where
  pub ahead-all : i < j → j ≤ length s
      → (lfMask (part s i j) / 2 ≡ lfMask (part s (i + 1) j)) × (ahead s (i + 1) j (lfMask (part s i j)) ≡ startsIn i (part s i j))
  unfolding ahead startsIn lfMask
  ahead-all h b =
      let p = part s (i + 1) j in
      let e : part s i j ≡ get_or s i 0 ∷ p = part-join s i (i + 1) j (omega arith) (omega arith) ∙ ap (λ l. l ++ p) (part-one s i (omega arith)) in
      let t = eqb (get_or s i 0) 0x0A in
      let l = low t (lfMask p) in
      rw e (l.1, rw (l.0, add-one i) (go t))
    where
      go : (t : Bool) → cond (eqb (cond t 1 0) 1) (suc i ∷ startsIn (suc i) (part s (suc i) j)) (startsIn (suc i) (part s (suc i) j))
          ≡ cond t (suc i ∷ startsIn (suc i) (part s (suc i) j)) (startsIn (suc i) (part s (suc i) j))
      go true = refl
      go false = refl

  module _ (x : ℕ) (mask : x / 2 ≡ lfMask (part s i j)) where
    even : x % 2 ≡ 0 → x ≡ 2 * lfMask (part s i j)
    even e = omega arith

    pub ahead-none : x ≡ 0 → ahead s i j x ≡ []
    unfolding ahead
    ahead-none z = rw z (mask-none i (part s i j) (omega arith))

    odd-next : i ≤ j → x % 2 ≡ 1 → Next s i j x 0
    unfolding ahead
    odd-next h e =
        let z : (x / 2 ^ 0 - 1) % 2 ≡ 0 = omega arith in
        record {
          within = omega arith;
          some = omega arith;
          starts = rw (add-zero i, e, z) refl;
          mask = rw (add-zero i) (omega arith);
          less = omega arith;
        }

    even-next : j ≤ length s → j - i ≤ 63 → (x ≡ 0 → ⊥) → x % 2 ≡ 0 → Next s i j x (suc (count_trailing_zeros 63 (lfMask (part s i j))))
    unfolding ahead
    even-next b few some e =
        let p = part s i j in
        let o = count_trailing_zeros 63 (lfMask p) in
        let m = even e in
        let long = part-length s i j b in
        let f = first-lf 63 i p (omega arith) (omega arith) in
        let g : i + suc o ≤ j = omega (arith, f.within) in
        let h : 2 * lfMask p / 2 ≡ lfMask p = omega arith in
        let d = part-drop s i j (suc o) g in
        let r : x / 2 ^ suc o ≡ 1 + 2 * lfMask (part s (i + suc o) j) =
        ap (λ m. m / 2 ^ suc o) m
        ∙ ap (λ m. 2 * lfMask p / m) (pow-suc 2 o ∙ mul_comm (2 ^ o) 2)
        ∙ sym (div-div-eq-div-mul (2 * lfMask p) 2 (2 ^ o))
        ∙ ap (λ m. m / 2 ^ o) h
        ∙ f.rest
        ∙ ap (λ l. 1 + 2 * lfMask l) d in
        let z : (x / 2 ^ suc o - 1) % 2 ≡ 0 = omega (arith, r) in
        record {
          within = g;
          some = omega (arith, r);
          starts = rw (e, z) (f.starts ∙ ap (λ n. n ∷ startsIn n (drop (suc o) p)) (omega arith) ∙ ap (λ l. (i + suc o) ∷ startsIn (i + suc o) l) d);
          mask = omega (arith, r);
          less = omega (arith, z, g);
        }

    pub next-start : i ≤ j → j ≤ length s → j - i ≤ 63 → (x ≡ 0 → ⊥) → Next s i j x (count_trailing_zeros 64 x)
    next-start h b few some = go (x % 2) refl (omega arith)
      where
        go : (r : ℕ) → x % 2 ≡ r → r < 2 → Next s i j x (count_trailing_zeros 64 x)
        go zero e l =
            let k : count_trailing_zeros 64 x ≡ suc (count_trailing_zeros 63 (lfMask (part s i j))) =
            ap (count_trailing_zeros 64) (even e) ∙ zeros-double 63 (lfMask (part s i j)) in
            rw k (even-next b few some e)
        go (suc zero) e l = rw (zeros-odd 63 x e) (odd-next h e)
        go (suc (suc r)) e l = absurd (omega arith)

-- ---- stores

-- the starts up to a place, stored from a number on; then those of the next part
pub starts-stored : (s l : List ℕ) (w i j k : ℕ) → i ≤ j → j ≤ k → j ≤ length s
    → sets (sets l w (startsIn i (part s i j))) (w + length (startsIn i (part s i j))) (startsIn j (part s j k)) ≡ sets l w (startsIn i (part s i k))
starts-stored s l w i j k h g b =
    after (startsIn i (part s i j)) (startsIn j (part s j k)) l _ w _ refl refl ∙ ap (sets l w) (sym (starts-join s i j k h g b))

-- one number more in a row
range-more : (a n : ℕ) → range_with_len a (n + 1) ≡ range_with_len a n ++ ((a + n) ∷ [])
range-more a zero = ap (λ k. k ∷ []) (sym (add-zero a))
range-more a (suc n) =
    let e : a + 1 + n ≡ a + suc n = omega arith in
    ap (range_with_len a) (add-one (suc n)) ∙ ap (λ l. a ∷ l) (ap (range_with_len (a + 1)) (sym (add-one n)) ∙ range-more (a + 1) n ∙ ap (λ k. range_with_len (a + 1) n ++ (k ∷ [])) e)

pub stored-next : (l : List ℕ) (w a n : ℕ) → set (sets l w (range_with_len a n)) (w + n) (a + n) ≡ sets l w (range_with_len a (n + 1))
stored-next l w a n =
    after (range_with_len a n) ((a + n) ∷ []) l _ w _ refl (let e = length-range_with_len a n in omega arith) ∙ ap (sets l w) (sym (range-more a n))

-- one byte: behind an LF one more is stored, behind another byte none
module _ (s : List ℕ) (i j : ℕ) (h : i ≤ j) (b : j < length s) where
  pub count-lf : get_or s j 0 ≡ 0x0A → length (startsIn i (part s i (j + 1))) ≡ length (startsIn i (part s i j)) + 1
  count-lf q =
      let o = one-lf s j b q in
      let c = starts-sum s i j (j + 1) h (omega arith) (omega arith) in
      omega (arith, ap length o)

  pub stored-lf : (l : List ℕ) (w : ℕ) → get_or s j 0 ≡ 0x0A
      → sets l w (startsIn i (part s i (j + 1))) ≡ set (sets l w (startsIn i (part s i j))) (w + length (startsIn i (part s i j))) (j + 1)
  stored-lf l w q = sym (starts-stored s l w i j (j + 1) h (omega arith) (omega arith)) ∙ rw (one-lf s j b q)

  pub none-other : (get_or s j 0 ≡ 0x0A → ⊥) → startsIn i (part s i (j + 1)) ≡ startsIn i (part s i j)
  none-other q =
      starts-join s i j (j + 1) h (omega arith) (omega arith) ∙ ap (λ l. startsIn i (part s i j) ++ l) (one-other s j b q) ∙ append-nil (startsIn i (part s i j))

-- there is room for one more where there is room for all
pub starts-room : (s : List ℕ) (i j k : ℕ) → i ≤ j → j < k → k ≤ length s → get_or s j 0 ≡ 0x0A
    → length (startsIn i (part s i j)) + 1 ≤ length (startsIn i (part s i k))
starts-room s i j k h b g q =
    let o = one-lf s j (omega arith) q in
    let c = starts-sum s i j (j + 1) h (omega arith) (omega arith) in
    let d = starts-sum s i (j + 1) k (omega arith) (omega arith) (omega arith) in
    omega (arith, ap length o)

-- for the loop over the bytes
pub ruleset each_byte = (starts-none, count-lf, stored-lf, none-other, starts-room, length-sets)

-- all of them, behind the first line's start
pub starts-front : (s l : List ℕ) → lineCount s ≤ length l → sets (set l 0 0) 1 (startsIn 0 (part s 0 (length s))) ≡ startsOf s ++ drop (lineCount s) l
unfolding startsOf lineCount
starts-front s l h =
    let c = starts-count 0 s in
    ap (λ t. sets l 0 (0 ∷ startsIn 0 t)) (part-all s)
    ∙ sets-front l (0 ∷ startsIn 0 s) (omega arith)
    ∙ ap (λ n. (0 ∷ startsIn 0 s) ++ drop (suc n) l) c

-- as many numbers as lines are the first line's start and those behind LFs
pub lines-all : (s : List ℕ) → lineCount s ≡ 1 + length (startsIn 0 (part s 0 (length s)))
unfolding lineCount
lines-all s = let c = starts-count 0 s in let e = ap (λ t. length (startsIn 0 t)) (part-all s) in omega arith

-- a script has a line
pub some_line : (s : List ℕ) → 1 ≤ lineCount s
unfolding lineCount
some_line s = omega arith

-- so there is room for the starts of a part where there is room for all
pub starts-fit : (s : List ℕ) (i j : ℕ) → i ≤ j → j ≤ length s
    → length (startsIn i (part s i j)) + (1 + length (startsIn 0 (part s 0 i))) ≤ lineCount s
starts-fit s i j h b =
    let l = lines-all s in
    let c = starts-sum s 0 i j (omega arith) h (omega arith) in
    let d = starts-sum s 0 j (length s) (omega arith) b b in
    omega arith

-- before the first byte
pub starts-begin : (i : ℕ) → startsIn i [] ≡ []
unfolding startsIn
starts-begin i = refl

-- behind more bytes there are as many more as start there
module _ (s : List ℕ) (i k : ℕ) (h : i ≤ k) (b : k ≤ length s) where
  pub sum-more : length (startsIn 0 (part s 0 k)) ≡ length (startsIn 0 (part s 0 i)) + length (startsIn i (part s i k))
  sum-more = sym (starts-sum s 0 i k (omega arith) h (omega arith))

  pub stored-more : (l : List ℕ)
      → sets (sets l 1 (startsIn 0 (part s 0 i))) (1 + length (startsIn 0 (part s 0 i))) (startsIn i (part s i k)) ≡ sets l 1 (startsIn 0 (part s 0 k))
  stored-more l = starts-stored s l 1 0 i k (omega arith) h (omega arith)

-- for the loop over the last bytes
module _ (s : List ℕ) (i j k : ℕ) (h : i ≤ j) (m : j ≤ k) (b : k ≤ length s) where
  pub few-more : length (startsIn i (part s i k)) ≡ length (startsIn i (part s i j)) + length (startsIn j (part s j k))
  few-more = sym (starts-sum s i j k h m (omega arith))

  pub few-stored : (l : List ℕ) (w : ℕ)
      → sets (sets l w (startsIn i (part s i j))) (w + length (startsIn i (part s i j))) (startsIn j (part s j k)) ≡ sets l w (startsIn i (part s i k))
  few-stored l w = starts-stored s l w i j k h m (omega arith)

pub few-fit : (s : List ℕ) (i j k : ℕ) → i ≤ j → j ≤ k → k ≤ length s
    → length (startsIn i (part s i j)) + length (startsIn j (part s j k)) ≤ length (startsIn i (part s i (length s)))
few-fit s i j k h m b =
    let c = starts-sum s i j k h m (omega arith) in
    let d = starts-sum s i k (length s) (omega arith) b b in
    omega arith

pub ruleset each_few = (starts-none, few-more, few-stored, few-fit, length-sets)

-- for the loop over the script
pub ruleset each_block = (some_line, starts-begin, starts-fit, sum-more, stored-more, starts-front, length-sets, length-set)
