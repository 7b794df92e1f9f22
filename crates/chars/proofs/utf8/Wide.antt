-- A character by its bytes, one case for each width; past ASCII each of its bytes is past ASCII too, and so is its code.
use Rattle.std.proofs.Common.{ℕ, zero, suc, ◌≤◌, ◌<◌, ◌≡◌, Bool, true, false, ◌&&◌, ◌⊎◌, inl, inr, ⊎_elim, List, [], ◌∷◌, length, get_or, leb, arith, leb-true}
use Rattle.chars.specs.paper.Quoted.{between}
use Rattle.chars.specs.paper.Ranges.{Range, ◌to◌}
use Rattle.chars.specs.paper.Utf8.{table37, fits, Row, here, later, width, codeOf}
use Rattle.chars.proofs.Bools.{clash, and-both}
use Rattle.chars.proofs.utf8.Valid.{width-found}

-- a byte of a row lies in its range
pub inside : (a b x : ℕ) (r : Bool) → between a b x && r ≡ true → (a ≤ x) × (x ≤ b) × (r ≡ true)
inside a b x r e =
    let p = and-both (between a b x) r e in
    let q = and-both (leb a x) (leb x b) p.0 in
    (leb-true a x q.0, leb-true x b q.1, p.1)

-- a byte that follows the first
pub record Next (x : ℕ) : Type 0 where
  pub low : 0x80 ≤ x
  pub high : x ≤ 0xBF

-- the bytes begin with a character of so many bytes
pub data Stood : ℕ → List ℕ → Type 0 where
  one : {x : ℕ} {t : List ℕ} → x ≤ 0x7F → Stood 1 (x ∷ t)
  two : {x y : ℕ} {t : List ℕ} → 0xC2 ≤ x → x ≤ 0xDF → Next y → Stood 2 (x ∷ y ∷ t)
  three : {x y z : ℕ} {t : List ℕ} → 0xE0 ≤ x → x ≤ 0xEF → Next y → Next z → (0xE1 ≤ x) ⊎ (0xA0 ≤ y) → (x ≡ 0xED → y ≤ 0x9F) → Stood 3 (x ∷ y ∷ z ∷ t)
  four : {x y z v : ℕ} {t : List ℕ} → 0xF0 ≤ x → x ≤ 0xF4 → Next y → Next z → Next v → (0xF1 ≤ x) ⊎ (0x90 ≤ y) → (x ≤ 0xF3) ⊎ (y ≤ 0x8F) → Stood 4 (x ∷ y ∷ z ∷ v ∷ t)

-- ---- row by row

ones : (t : List ℕ) → fits (0x00 to 0x7F ∷ []) t ≡ true → Stood 1 t
ones [] e = clash e
ones (x ∷ t) e = Stood.one (inside 0x00 0x7F x true e).1

twos : (t : List ℕ) → fits (0xC2 to 0xDF ∷ 0x80 to 0xBF ∷ []) t ≡ true → Stood 2 t
twos [] e = clash e
twos (x ∷ []) e = clash (inside 0xC2 0xDF x false e).2
twos (x ∷ y ∷ t) e =
    let f = inside 0xC2 0xDF x _ e in
    let g = inside 0x80 0xBF y _ f.2 in
    Stood.two f.0 f.1 (record { low = g.0; high = g.1 })

threes : (a b p q : ℕ) → 0xE0 ≤ a → b ≤ 0xEF → 0x80 ≤ p → q ≤ 0xBF → (0xE1 ≤ a) ⊎ (0xA0 ≤ p) → (a ≤ 0xED → 0xED ≤ b → q ≤ 0x9F)
    → (t : List ℕ) → fits (a to b ∷ p to q ∷ 0x80 to 0xBF ∷ []) t ≡ true → Stood 3 t
threes a b p q ha hb hp hq m n [] e = clash e
threes a b p q ha hb hp hq m n (x ∷ []) e = clash (inside a b x false e).2
threes a b p q ha hb hp hq m n (x ∷ y ∷ []) e = clash (inside p q y false (inside a b x _ e).2).2
threes a b p q ha hb hp hq m n (x ∷ y ∷ z ∷ t) e =
    let f = inside a b x _ e in
    let g = inside p q y _ f.2 in
    let h = inside 0x80 0xBF z _ g.2 in
    let u : (0xE1 ≤ x) ⊎ (0xA0 ≤ y) = ⊎_elim (λ k. inl (omega arith)) (λ k. inr (omega arith)) m in
    let v : x ≡ 0xED → y ≤ 0x9F = λ k. let l = n (omega arith) (omega arith) in omega arith in
    Stood.three (omega arith) (omega arith) (record { low = omega arith; high = omega arith }) (record { low = h.0; high = h.1 }) u v

fours : (a b p q : ℕ) → 0xF0 ≤ a → b ≤ 0xF4 → 0x80 ≤ p → q ≤ 0xBF → (0xF1 ≤ a) ⊎ (0x90 ≤ p) → (b ≤ 0xF3) ⊎ (q ≤ 0x8F)
    → (t : List ℕ) → fits (a to b ∷ p to q ∷ 0x80 to 0xBF ∷ 0x80 to 0xBF ∷ []) t ≡ true → Stood 4 t
fours a b p q ha hb hp hq m n [] e = clash e
fours a b p q ha hb hp hq m n (x ∷ []) e = clash (inside a b x false e).2
fours a b p q ha hb hp hq m n (x ∷ y ∷ []) e = clash (inside p q y false (inside a b x _ e).2).2
fours a b p q ha hb hp hq m n (x ∷ y ∷ z ∷ []) e = clash (inside 0x80 0xBF z false (inside p q y _ (inside a b x _ e).2).2).2
fours a b p q ha hb hp hq m n (x ∷ y ∷ z ∷ v ∷ t) e =
    let f = inside a b x _ e in
    let g = inside p q y _ f.2 in
    let h = inside 0x80 0xBF z _ g.2 in
    let i = inside 0x80 0xBF v _ h.2 in
    let k : (0xF1 ≤ x) ⊎ (0x90 ≤ y) = ⊎_elim (λ l. inl (omega arith)) (λ l. inr (omega arith)) m in
    let l : (x ≤ 0xF3) ⊎ (y ≤ 0x8F) = ⊎_elim (λ k. inl (omega arith)) (λ k. inr (omega arith)) n in
    Stood.four (omega arith) (omega arith) (record { low = omega arith; high = omega arith }) (record { low = h.0; high = h.1 }) (record { low = i.0; high = i.1 }) k l

pub met : {row : List Range} → Row table37 row → (t : List ℕ) → fits row t ≡ true → Stood (length row) t
met here = ones
met (later here) = twos
met (later (later here)) = threes 0xE0 0xE0 0xA0 0xBF (omega arith) (omega arith) (omega arith) (omega arith) (inr (omega arith)) (λ h l. omega arith)
met (later (later (later here))) = threes 0xE1 0xEC 0x80 0xBF (omega arith) (omega arith) (omega arith) (omega arith) (inl (omega arith)) (λ h l. omega arith)
met (later (later (later (later here)))) = threes 0xED 0xED 0x80 0x9F (omega arith) (omega arith) (omega arith) (omega arith) (inl (omega arith)) (λ h l. omega arith)
met (later (later (later (later (later here))))) = threes 0xEE 0xEF 0x80 0xBF (omega arith) (omega arith) (omega arith) (omega arith) (inl (omega arith)) (λ h l. omega arith)
met (later (later (later (later (later (later here)))))) = fours 0xF0 0xF0 0x90 0xBF (omega arith) (omega arith) (omega arith) (omega arith) (inr (omega arith)) (inl (omega arith))
met (later (later (later (later (later (later (later here))))))) = fours 0xF1 0xF3 0x80 0xBF (omega arith) (omega arith) (omega arith) (omega arith) (inl (omega arith)) (inl (omega arith))
met (later (later (later (later (later (later (later (later here)))))))) = fours 0xF4 0xF4 0x80 0x8F (omega arith) (omega arith) (omega arith) (omega arith) (inl (omega arith)) (inr (omega arith))
met (later (later (later (later (later (later (later (later (later w))))))))) = elim w [ ]

pub stood : (t : List ℕ) → (width t ≡ 0) ⊎ Stood (width t) t
stood t = go (width-found t)
  where
    go : (width t ≡ 0) ⊎ ((row : List Range) × Row table37 row × (fits row t ≡ true) × (width t ≡ length row)) → (width t ≡ 0) ⊎ Stood (width t) t
    go (inl e) = inl e
    go (inr (row, w, f, e)) = inr (rw e (met w t f))

-- ---- past ASCII

pub record Wide (w : ℕ) (t : List ℕ) : Type 0 where
  pub first : 0xC2 ≤ get_or t 0 0
  pub others : (k : ℕ) → 1 ≤ k → k < w → Next (get_or t k 0)
  pub code : 0x80 ≤ codeOf w t

-- what is known of 1, 2 and 3
each : (P : ℕ → Type 0) → P 1 → P 2 → P 3 → (k : ℕ) → 1 ≤ k → k < 4 → P k
each P a b c zero l m = absurd (omega arith)
each P a b c (suc zero) l m = a
each P a b c (suc (suc zero)) l m = b
each P a b c (suc (suc (suc zero))) l m = c
each P a b c (suc (suc (suc (suc k)))) l m = absurd (omega arith)

is-wide : {w : ℕ} {t : List ℕ} → Stood w t → 0x80 ≤ get_or t 0 0 → Wide w t
unfolding codeOf
is-wide (Stood.one a) h = absurd (omega arith)
is-wide (Stood.two {x} {y} {t} a b p) h = record {
  first = omega arith;
  others = λ k l m. each (λ k. k < 2 → Next (get_or (x ∷ y ∷ t) k 0)) (λ m. p) (λ m. absurd (omega arith)) (λ m. absurd (omega arith)) k l (omega arith) m;
  code = omega arith;
}
is-wide (Stood.three {x} {y} {z} {t} a b p q m n) h = record {
  first = omega arith;
  others = λ k l m. each (λ k. k < 3 → Next (get_or (x ∷ y ∷ z ∷ t) k 0)) (λ m. p) (λ m. q) (λ m. absurd (omega arith)) k l (omega arith) m;
  code = ⊎_elim (λ k. omega arith) (λ k. omega arith) m;
}
is-wide (Stood.four {x} {y} {z} {v} {t} a b p q r m n) h = record {
  first = omega arith;
  others = λ k l m. each (λ k. Next (get_or (x ∷ y ∷ z ∷ v ∷ t) k 0)) p q r k l m;
  code = ⊎_elim (λ k. omega arith) (λ k. omega arith) m;
}

-- a first byte past ASCII begins a wide character or none
pub wide : (t : List ℕ) → 0x80 ≤ get_or t 0 0 → (width t ≡ 0) ⊎ Wide (width t) t
wide t h = elim (stood t) [ inl e ↦ inl e | inr s ↦ inr (is-wide s h) ]
