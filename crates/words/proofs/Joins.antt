-- Reading undoes writing, and writing undoes reading. What is known of a width follows from what is known of its half, so that one law, `double`,
-- goes from one byte to two, to four and to eight.
use Rattle.std.proofs.Common.{ℕ, ◌+◌, ◌*◌, ◌/◌, ◌%◌, ◌≤◌, ◌<◌, ◌≡◌, refl, sym, ◌∙◌, ap, List, [], ◌∷◌, ◌++◌, append_assoc, length, take, drop, length-append, length-drop, get_or-drop, take-add, drop_at, add-zero, zero-add, add_assoc, mod-lt, mod-eq_of_lt, div-lt_iff_lt-mul, mul-le-mul_right, arith}
use Rattle.std.proofs.Math.Nat.{mod-mod, mod-add-div', div-eq_of_lt, add-mul-mod_self_right, add-mul-div_right}
use Rattle.words.specs.Words.{le2, le4, le8, oneAt, twoAt, fourAt, eightAt}
use Rattle.words.specs.Joins.{Bytes, Joins}

pub drop-bytes : (l : List ℕ) (i : ℕ) → Bytes l → Bytes (drop i l)
drop-bytes l i h j = rw get_or-drop (h (i + j))

-- What is known of numbers of n bytes, of which there are m.
pub record Width (write : ℕ → List ℕ) (read : List ℕ → ℕ → ℕ) (n m : ℕ) : Type 0 where
  -- each takes n bytes
  pub size : (x : ℕ) → length (write x) ≡ n
  -- what bytes make is one of them
  pub fits : (l : List ℕ) (i : ℕ) → Bytes l → read l i < m
  -- the number at j of what stands from i on
  pub from : (l : List ℕ) (i j : ℕ) → read (drop i l) j ≡ read l (i + j)
  -- read back as it was written
  pub back : (x : ℕ) (l : List ℕ) → x < m → read (write x ++ l) 0 ≡ x
  -- written as it was read
  pub forth : (l : List ℕ) → Bytes l → n ≤ length l → write (read l 0) ≡ take n l

-- The lower half stands first, the upper half n bytes past it.
abbrev lowerFirst : (List ℕ → ℕ → ℕ) → ℕ → ℕ → List ℕ → ℕ → ℕ
lowerFirst read n m l i = read l i + read l (i + n) * m

module _ (write : ℕ → List ℕ) (read : List ℕ → ℕ → ℕ) (n m : ℕ) (half : Width write read n m) where
  -- the number at a place is the first of what stands from there on
  place : (l : List ℕ) (i : ℕ) → read l i ≡ read (drop i l) 0
  place l i = sym (half.from l i 0 ∙ ap (read l) (add-zero i))

  -- the least number is read from no bytes at all
  m-least : 0 < m
  m-least = omega (arith, half.fits [] 0 (λ i. omega arith))

  -- a number's halves
  lower : (a b : ℕ) → a < m → (a + b * m) % m ≡ a
  lower a b h = add-mul-mod_self_right a b m ∙ mod-eq_of_lt h

  upper : (a b : ℕ) → a < m → (a + b * m) / m ≡ b
  upper a b h = add-mul-div_right a b m-least ∙ ap (λ k. k + b) (div-eq_of_lt h) ∙ zero-add b

  -- both halves, read where they were written
  halves-back : (x y : ℕ) (l : List ℕ) → x < m → y < m → lowerFirst read n m (write x ++ (write y ++ l)) 0 ≡ x + y * m
  halves-back x y l h k =
      let past = write y ++ l in
      let all = write x ++ past in
      let a : read all 0 ≡ x = half.back x past h in
      let b : read all n ≡ y = place all n ∙ ap (λ t. read t 0) (drop_at (write x) past n (half.size x)) ∙ half.back y l k in
      rw (zero-add, a, b)

  -- and written as they were read
  halves-forth : (l : List ℕ) → Bytes l → n + n ≤ length l → write (read l 0) ++ write (read l n) ≡ take (n + n) l
  halves-forth l h k =
      let a : write (read l 0) ≡ take n l = half.forth l h (omega arith) in
      let left : n ≤ length (drop n l) = rw length-drop (omega arith) in
      let b : write (read l n) ≡ take n (drop n l) = ap write (place l n) ∙ half.forth (drop n l) (drop-bytes l n h) left in
      rw (a, b) (sym (take-add n n l))

  -- a number of two halves
  double : (twice : ℕ → List ℕ) → ((x : ℕ) → twice x ≡ write (x % m) ++ write (x / m)) → Width twice (lowerFirst read n m) (n + n) (m * m)
  double twice e = record {
    size = λ x. simp (e, length-append, half.size);
    fits = λ l i h. omega (arith, half.fits l i h, mul-le-mul_right m (half.fits l (i + n) h));
    from = λ l i j. simp (half.from, add_assoc);
    back = λ x l h. rw (e, append_assoc) (halves-back (x % m) (x / m) l (mod-lt x m-least) ((div-lt_iff_lt-mul m-least).1 h) ∙ mod-add-div' x m);
    forth = λ l h k.
        let a = read l 0 in
        let b = read l n in
        let f = half.fits l 0 h in
        rw (zero-add, e, lower a b f, upper a b f) (halves-forth l h k);
  }

-- ---- the widths

ones : Width (λ x. x % 256 ∷ []) oneAt 1 256
ones = record {
  size = λ x. refl;
  fits = λ l i h. h i;
  from = λ l i j. get_or-drop i l j 0;
  back = λ x l h. mod-eq_of_lt h;
  forth = byte;
}
  where
    byte : (l : List ℕ) → Bytes l → 1 ≤ length l → oneAt l 0 % 256 ∷ [] ≡ take 1 l
    byte [] h k = absurd (omega arith)
    byte (a ∷ l) h k = rw (mod-eq_of_lt (h 0))

-- Each number's bytes are those of its halves.
two-halves : (x : ℕ) → le2 x ≡ x % 256 % 256 ∷ x / 256 % 256 ∷ []
unfolding le2
two-halves x = rw mod-mod

pub four-halves : (x : ℕ) → le4 x ≡ le2 (x % 65536) ++ le2 (x / 65536)
unfolding le4 le2
four-halves x = grind arith

eight-halves : (x : ℕ) → le8 x ≡ le4 (x % 4294967296) ++ le4 (x / 4294967296)
unfolding le8
eight-halves x = refl

pub twos : Width le2 twoAt 2 65536
unfolding twoAt
twos = double _ _ _ _ ones le2 two-halves

pub fours : Width le4 fourAt 4 4294967296
unfolding fourAt
fours = double _ _ _ _ twos le4 four-halves

pub eights : Width le8 eightAt 8 18446744073709551616
unfolding eightAt
eights = double _ _ _ _ fours le8 eight-halves

-- ---- the laws by their names, for whoever reads stored numbers

pub two-fits : (l : List ℕ) (i : ℕ) → Bytes l → twoAt l i < 65536
two-fits = twos.fits

pub four-fits : (l : List ℕ) (i : ℕ) → Bytes l → fourAt l i < 4294967296
four-fits = fours.fits

pub eight-fits : (l : List ℕ) (i : ℕ) → Bytes l → eightAt l i < 18446744073709551616
eight-fits = eights.fits

pub two-from : (l : List ℕ) (i j : ℕ) → twoAt (drop i l) j ≡ twoAt l (i + j)
two-from = twos.from

pub four-from : (l : List ℕ) (i j : ℕ) → fourAt (drop i l) j ≡ fourAt l (i + j)
four-from = fours.from

pub eight-from : (l : List ℕ) (i j : ℕ) → eightAt (drop i l) j ≡ eightAt l (i + j)
eight-from = eights.from

pub two-drop : (l : List ℕ) (i : ℕ) → twoAt l i ≡ twoAt (drop i l) 0
two-drop = place _ _ _ _ twos

pub four-drop : (l : List ℕ) (i : ℕ) → fourAt l i ≡ fourAt (drop i l) 0
four-drop = place _ _ _ _ fours

pub two-le2 : (x : ℕ) (l : List ℕ) → x < 65536 → twoAt (le2 x ++ l) 0 ≡ x
two-le2 = twos.back

pub four-le4 : (x : ℕ) (l : List ℕ) → x < 4294967296 → fourAt (le4 x ++ l) 0 ≡ x
four-le4 = fours.back

pub eight-le8 : (x : ℕ) (l : List ℕ) → x < 18446744073709551616 → eightAt (le8 x ++ l) 0 ≡ x
eight-le8 = eights.back

pub le4-four : (l : List ℕ) → Bytes l → 4 ≤ length l → le4 (fourAt l 0) ≡ take 4 l
le4-four = fours.forth

pub le8-eight : (l : List ℕ) → Bytes l → 8 ≤ length l → le8 (eightAt l 0) ≡ take 8 l
le8-eight = eights.forth

pub joins : Joins
joins = record {
  two-le2 = two-le2;
  four-le4 = four-le4;
  eight-le8 = eight-le8;
  le2-two = twos.forth;
  le4-four = le4-four;
  le8-eight = le8-eight;
  two-fits = two-fits;
  four-fits = four-fits;
  eight-fits = eight-fits;
  two-drop = two-drop;
  four-drop = four-drop;
  eight-drop = place _ _ _ _ eights;
}
