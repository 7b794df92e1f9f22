-- Runs of digits: they have one end, and their value is what reading them gives.
use Rattle.token.proofs.cursor.Words.{ℕ, zero, suc, ◌+◌, ◌*◌, ◌-◌, ◌^◌, ◌%◌, ◌≤◌, ◌<◌, ◌≡◌, refl, sym, ◌∙◌, ap, true, false, ◌⊎◌, inl, inr, List, [], ◌∷◌, ◌++◌, length, length-append, length-drop, mod-eq_of_lt, take, drop, get_or, get_or-drop, eqb, ◌||◌, end, stopped, add-mul, mul-le-mul_right, pow-zero, pow-suc, pow-le-pow_right, arith, ltb-true, leb-true, Text, from, digitValue, Found, readDigits, numberOf, Untested, IsBase, digitIn, RunEnds, digitsTo, fitting, cases_lt, isDigit, isHexDigit}
use Rattle.std.proofs.Common.{add_assoc, mul_assoc}
use Rattle.std.proofs.lemmas.Nat.{mul-mod_first}
use Rattle.std.proofs.Math.Seq.{take-suc}
unfoldable use Rattle.token.specs.paper.Shapes.{valueOfDigits}
use Rattle.token.proofs.cursor.Bytes.{inside}
use Rattle.token.proofs.cursor.Runs.{passed-to}
use Rattle.token.proofs.digits.Laws.{digits-ascii, class-at, digit-low, base-some, read-next, over-read}

-- ---- one end

sooner : {base most : ℕ} {s : List ℕ} {at e f : ℕ} → RunEnds base most s at e → RunEnds base most s at f → e < f → ⊥
sooner {e = e} x y l =
    elim x.ends [
      | inl n ↦ let d = y.digits e x.on l in grind arith
      | inr (inl q) ↦ omega (arith, q, y.within, l)
      | inr (inr q) ↦ omega (arith, q, y.counted, l)
    ]

pub one-end : {base most : ℕ} {s : List ℕ} {at e f : ℕ} → RunEnds base most s at e → RunEnds base most s at f → e ≡ f
one-end x y =
    let a = sooner x y in
    let b = sooner y x in
    grind arith

-- ---- a run by its first byte

module _ {base : ℕ} {s : List ℕ} {at e : ℕ} where
  pub run-none : RunEnds base 0 s at e → e ≡ at
  run-none r = omega (arith, r.on, r.counted)

  module _ {m : ℕ} (r : RunEnds base (suc m) s at e) where
    pub run-off : digitIn base (get_or s at 0) ≡ false → e ≡ at
    run-off f = let d = r.digits at in let o = r.on in grind arith

    pub run-on : digitIn base (get_or s at 0) ≡ true → RunEnds base m s (at + 1) e
    run-on f =
        let c = (class-at (digitIn base) (digits-ascii base) s at f).0 in
        let o = r.on in
        let n = r.ends in
        let q : at < e = grind arith in
        record {
          on = omega (arith, q);
          digits = λ i x y. r.digits i (omega (arith, x)) y;
          within = r.within;
          counted = omega (arith, r.counted);
          ends = grind arith;
        }

-- ---- one digit

-- a digit's value lies below the base
pub value-under : (base b : ℕ) → IsBase base → digitIn base b ≡ true → digitValue b < base
unfolding digitIn isHexDigit isDigit
value-under base b h e = grind arith

-- and is 0 only of `0`
value-some : (base b : ℕ) → digitIn base b ≡ true → (b ≡ 0x30 → ⊥) → 1 ≤ digitValue b
unfolding digitIn isHexDigit isDigit
value-some base b e n = grind arith

-- ---- the value of one digit more

lift-digit : (x p v b d : ℕ) → x * (p * b) + (v * b + d) ≡ (x * p + v) * b + d
lift-digit x p v b d = sym (rw (add-mul (x * p) v b, mul_assoc x p b) (add_assoc (x * (p * b)) (v * b) d))

value-more : (b d : ℕ) (ds : List ℕ) → valueOfDigits b (ds ++ (d ∷ [])) ≡ valueOfDigits b ds * b + digitValue d
unfolding valueOfDigits
value-more b d [] = rw (pow-zero b) (omega arith)
value-more b d (x ∷ ds) =
    let n : length (ds ++ (d ∷ [])) ≡ suc (length ds) = length-append ds (d ∷ []) ∙ omega arith in
    rw (n, pow-suc b (length ds), value-more b d ds) (lift-digit (digitValue x) (b ^ length ds) (valueOfDigits b ds) b (digitValue d))

-- of the digits from a place to another
abbrev pub valueTo : ℕ → List ℕ → ℕ → ℕ → ℕ
valueTo b s at i = valueOfDigits b (digitsTo s at i)

module _ (b : ℕ) (s : List ℕ) (at : ℕ) where
  pub none-to : (i : ℕ) → i ≡ at → valueTo b s at i ≡ 0
  unfolding valueOfDigits
  none-to i e = let z : i - at ≡ 0 = omega (arith, e) in rw z refl

  pub more-to : (i : ℕ) → at ≤ i → i < length s → valueTo b s at (i + 1) ≡ valueTo b s at i * b + digitValue (get_or s i 0)
  more-to i h k =
      let z : i + 1 - at ≡ suc (i - at) = omega arith in
      let p : at + (i - at) ≡ i = omega arith in
      let g : get_or (drop at s) (i - at) 0 ≡ get_or s i 0 = get_or-drop at s (i - at) 0 ∙ ap (λ j. get_or s j 0) p in
      rw (z, take-suc (drop at s) (i - at) 0 (rw (length-drop at s) (omega arith)), g) (value-more b (get_or s i 0) (take (i - at) (drop at s)))

-- modulo 2^64
pub wrapped : (v w b d : ℕ) → v ≡ w % 2 ^ 64 → (v * b % 2 ^ 64 + d) % 2 ^ 64 ≡ (w * b + d) % 2 ^ 64
wrapped v w b d e = rw (e, mul-mod_first w b (2 ^ 64)) (omega arith)

-- ---- what a run's digits are

-- one digit more
more-digit : (base v d n : ℕ) → v < base ^ n → d < base → v * base + d < base ^ suc n
more-digit base v d n h k =
    let l : v + 1 ≤ base ^ n = omega arith in
    omega (arith, mul-le-mul_right base l, add-mul v 1 base, pow-suc base n)

-- and no value with fewer
lead-digit : (base v d n : ℕ) → base ^ n ≤ v * base → base ^ suc n ≤ (v * base + d) * base
lead-digit base v d n h =
    let l : base ^ n ≤ v * base + d = omega arith in
    omega (arith, mul-le-mul_right base l, pow-suc base n)

first-digit : (base d : ℕ) → 1 ≤ d → base ^ 1 ≤ (0 * base + d) * base
first-digit base d h =
    let l : 1 ≤ 0 * base + d = omega arith in
    omega (arith, mul-le-mul_right base l, pow-suc base 0 ∙ ap (λ x. x * base) (pow-zero base))

-- What n digits from a place on come to: a value below the base's power, with as many digits where no `0` leads, and what reading them gives.
pub record ReadTo (base : ℕ) (s : List ℕ) (at n v : ℕ) : Type 0 where
  pub small : v < base ^ n
  pub lead : (get_or s at 0 ≡ 0x30 → ⊥) → 0 < n → base ^ n ≤ v * base
  pub same : readDigits (digitIn base) base v (from s (at + n)) ≡ readDigits (digitIn base) base 0 (from s at)

module _ (base : ℕ) (h : IsBase base) (s : List ℕ) (at : ℕ) where
  one-more : (n v : ℕ) → digitIn base (get_or s (at + n) 0) ≡ true → ReadTo base s at n v
      → ReadTo base s at (suc n) (v * base + digitValue (get_or s (at + n) 0))
  one-more n v f r =
      record {
        small = more-digit base v _ n r.small (value-under base _ h f);
        lead = λ o w. leads o;
        same = rw (← z) (read-next (digitIn base) (digits-ascii base) s (at + n) base v f ∙ r.same);
      }
    where
      z : at + n + 1 ≡ at + suc n
      z = omega arith

      leads : (get_or s at 0 ≡ 0x30 → ⊥) → base ^ suc n ≤ (v * base + digitValue (get_or s (at + n) 0)) * base
      leads o = elim (cases_lt 0 n) [
        | inl w ↦ lead-digit base v _ n (r.lead o w)
        | inr w ↦
            let z : n ≡ 0 = omega arith in
            let u : v ≡ 0 = omega (arith, rw z at r.small, pow-zero base) in
            let g : get_or s (at + n) 0 ≡ 0x30 → ⊥ = grind arith in
            rw (z, u) (first-digit base _ (rw z at (value-some base _ f g)))
      ]

  none-yet : (v : ℕ) → v ≡ 0 → ReadTo base s at 0 v
  none-yet v e =
      let z : at + 0 ≡ at = omega arith in
      record { small = omega (arith, e, pow-zero base); lead = λ o w. omega (arith, w); same = rw (e, z) refl }

  digits-are : (n : ℕ) → at + n ≤ length s → ((i : ℕ) → at ≤ i → i < at + n → digitIn base (get_or s i 0) ≡ true) → ReadTo base s at n (valueTo base s at (at + n))
  digits-are zero k d = none-yet _ (none-to base s at (at + 0) (omega arith))
  digits-are (suc n) k d =
      let z : at + suc n ≡ at + n + 1 = omega arith in
      rw (ap (valueTo base s at) z ∙ more-to base s at (at + n) (omega arith) (omega arith))
      (one-more n _ (d (at + n) (omega arith) (omega arith)) (digits-are n (omega arith) (λ i x y. d i x (omega arith))))

  run-digits : {most e : ℕ} → RunEnds base most s at e → ReadTo base s at (e - at) (valueTo base s at e)
  run-digits {most} {e} r =
      let z : at + (e - at) ≡ e = omega (arith, r.on) in
      rw z at (digits-are (e - at) (rw z r.within) (λ i x y. r.digits i x (rw z at y)))

-- ---- the most digits that are read

-- the values of so many digits fit 64 bits
fitting-room : (base : ℕ) → IsBase base → base ^ fitting base ≤ 18446744073709551616
fitting-room base (inl x) = rw x (leb-true (10 ^ 19) 18446744073709551616 refl)
fitting-room base (inr x) = rw x (leb-true (16 ^ 16) 18446744073709551616 refl)

-- and are not changed by what is taken modulo 2^64
pub digits-fit : (base : ℕ) → IsBase base → (s : List ℕ) (at : ℕ) {most e : ℕ} → RunEnds base most s at e → e - at ≤ fitting base
    → valueTo base s at e % 2 ^ 64 ≡ valueTo base s at e
digits-fit base h s at r l =
    let d = (run-digits base h s at r).small in
    let p = pow-le-pow_right (base-some base h) l in
    mod-eq_of_lt (omega (arith, d, p, fitting-room base h))

-- with one digit more the least is above every most
above : (base most : ℕ) → Untested base most → 9223372036854775807 < base ^ most
above base most (inl x, e) = rw (e, x) (ltb-true 9223372036854775807 (10 ^ 19) refl)
above base most (inr x, e) = rw (e, x) (ltb-true 9223372036854775807 (16 ^ 16) refl)

-- ---- more digits than are read

module _ (base most : ℕ) (h : Untested base most) (s : List ℕ) (at e : ℕ) (r : RunEnds base most s at e) where
  -- a digit more behind the run: then it ends at the count
  full : digitIn base (get_or s e 0) ≡ true → e - at ≡ most
  full f = let j = (class-at (digitIn base) (digits-ascii base) s e f).0 in let o = r.ends in grind arith

  -- as many digits as are read are read to their value
  pub read-run : (v : ℕ) → (e - at ≤ fitting base → v ≡ valueTo base s at e) → readDigits (digitIn base) base v (from s e) ≡ readDigits (digitIn base) base 0 (from s at)
  read-run v own =
      let q : at + (e - at) ≡ e = omega (arith, r.on) in
      let m = h.1 in
      rw (own (omega (arith, r.counted, r.on, m))) (rw q at (run-digits base h.0 s at r).same)

  -- and where its first digit is no `0`, it makes the number too large
  pub over-full : digitIn base (get_or s e 0) ≡ true → (get_or s at 0 ≡ 0x30 → ⊥)
      → (t : Text) → numberOf t (readDigits (digitIn base) base 0 (from s at)) ≡ Found.stuck 6 t
  over-full f o t =
      let b = h.0 in
      let z = full f in
      let d = run-digits base b s at r in
      let v = valueTo base s at e in
      let p : 0 < most = grind arith in
      let l : base ^ most ≤ v * base = omega (arith, d.lead o (omega arith), ap (λ x. base ^ x) z) in
      let q : at + (e - at) ≡ e = omega (arith, r.on) in
      ap (numberOf t) (sym (rw q at d.same) ∙ sym (read-next (digitIn base) (digits-ascii base) s e base v f))
      ∙ over-read t (digitIn base) base (base-some base b) (v * base + digitValue (get_or s e 0)) (from s (e + 1)) (omega (arith, l, above base most h))

-- ---- the walk

-- after n digits, at most so many, where the count is full or no digit stands
pub stops-here : (base most : ℕ) (s : List ℕ) (at n i : ℕ) → i ≡ at + n → n ≤ most → i ≤ length s → ((k : ℕ) → at ≤ k → k < i → digitIn base (get_or s k 0) ≡ true)
    → (digitIn base (get_or s i 0) ≡ false) ⊎ (n ≡ most) → RunEnds base most s at i
stops-here base most s at n i p l w d o = record { on = omega (arith, p); digits = d; within = w; counted = omega (arith, p, l); ends = grind arith }

-- ---- zeros

-- a `0` that leads a number adds nothing
zero-on : (base : ℕ) (s : List ℕ) (i : ℕ) → get_or s i 0 ≡ 0x30 → readDigits (digitIn base) base 0 (from s (i + 1)) ≡ readDigits (digitIn base) base 0 (from s i)
zero-on base s i e =
    let f = digit-low base (get_or s i 0) (omega arith) (omega arith) in
    let d : digitValue (get_or s i 0) ≡ 0 = ap digitValue e in
    let v : 0 ≡ 0 * base + digitValue (get_or s i 0) = omega arith in
    ap (λ x. readDigits (digitIn base) base x (from s (i + 1))) v ∙ read-next (digitIn base) (digits-ascii base) s i base 0 f

-- where the zeros end
pub zeros-to : (s : List ℕ) (i r : ℕ) → i ≤ length s → r ≡ end (λ b. eqb b 0x30 || eqb b 0x30) s i
    → (r ≤ length s) × (get_or s r 0 ≡ 0x30 → ⊥) × ((base : ℕ) → readDigits (digitIn base) base 0 (from s r) ≡ readDigits (digitIn base) base 0 (from s i))
zeros-to s i r h e =
    let o = stopped (λ b. eqb b 0x30 || eqb b 0x30) s i in
    ((all 10).1, λ z. let n = inside s r (omega arith) in grind arith, λ base. (all base).2)
  where
    all : (base : ℕ) → (i ≤ r) × (r ≤ length s) × (readDigits (digitIn base) base 0 (from s r) ≡ readDigits (digitIn base) base 0 (from s i))
    all base = passed-to (readDigits (digitIn base) base 0) s (λ b. eqb b 0x30 || eqb b 0x30) (λ k l o. zero-on base s k (grind arith)) i r h e
