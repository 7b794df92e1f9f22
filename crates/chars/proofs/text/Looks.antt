-- One look at a character, by its width.
use Rattle.std.proofs.Common.{ℕ, ◌+◌, ◌-◌, ◌*◌, ◌/◌, ◌%◌, ◌≤◌, ◌<◌, ◌≡◌, refl, sym, ◌∙◌, ap, ◌⊎◌, inl, inr, Bool, true, false, not, ◌&&◌, List, ◌∷◌, length, drop, get_or, eqb, ⊎_elim, arith, eq-eqb, ne_eqb, eqb-true, lt-ltb, ltb, leb, ltb-false, leb-false, ◌||◌, max, Some}
use Rattle.std.proofs.lemmas.Bool.{cases_eq, cases_lt}
use Rattle.chars.specs.paper.Quoted.{between}
use Rattle.chars.specs.paper.Utf8.{here, later, width, codeOf}
use Rattle.std.specs.Option.{is_some}
use Rattle.chars.specs.code.Classes.{answers}
use Rattle.chars.specs.code.Utf8.{decoded, widthAt, plainThree}
use Rattle.chars.specs.code.Text.{beginsThree, threeBytes, stepAt}
use Rattle.chars.proofs.Bools.{clash, and-both, or-neither}
use Rattle.chars.proofs.classes.Laws.{above-no-start, above-no-id, above-no-sign, above-no-print}
use Rattle.chars.proofs.classes.Ranges.{between-in, in-between}
use Rattle.chars.proofs.utf8.Codes.{code-one, code-two, code-three}
use Rattle.chars.proofs.utf8.Rows as rows
use Rattle.chars.proofs.utf8.Valid.{width-fit}
use Rattle.chars.proofs.utf8.Wide.{Next, Stood, stood}
use Rattle.chars.proofs.utf8.Widths.{width-within}

-- two tests say the same where each implies the other
same : (p q : Bool) → (p ≡ true → q ≡ true) → (q ≡ true → p ≡ true) → p ≡ q
same true q f g = sym (f refl)
same false true f g = g refl
same false false f g = refl

-- what a test takes, it lacks where that is not so
pub lacks : (p q : Bool) → (q ≡ true → p ≡ true) → p ≡ false → false ≡ q
lacks p true f e = sym e ∙ f refl
lacks p false f e = refl

-- ---- a width, by bytes

byte0 : (s : List ℕ) (i : ℕ) → i < length s → get_or (drop i s) 0 0 ≡ get_or s i 0
byte0 s i h = ap (λ t. get_or t 0 0) (rows.here s i h)

-- the bytes from a place on, the first of them taken apart
module _ (s : List ℕ) (i : ℕ) where
  pub two-apart : i + 1 < length s → drop i s ≡ get_or s i 0 ∷ get_or s (i + 1) 0 ∷ drop (i + 2) s
  two-apart h =
      let e : i + 1 + 1 ≡ i + 2 = omega arith in
      rows.here s i (omega arith) ∙ ap (λ u. get_or s i 0 ∷ u) (rows.here s (i + 1) h ∙ ap (λ k. get_or s (i + 1) 0 ∷ drop k s) e)

  pub three-apart : i + 2 < length s → drop i s ≡ get_or s i 0 ∷ get_or s (i + 1) 0 ∷ get_or s (i + 2) 0 ∷ drop (i + 3) s
  three-apart h =
      let e : i + 2 + 1 ≡ i + 3 = omega arith in
      two-apart (omega arith) ∙ ap (λ u. get_or s i 0 ∷ get_or s (i + 1) 0 ∷ u) (rows.here s (i + 2) h ∙ ap (λ k. get_or s (i + 2) 0 ∷ drop k s) e)

  -- where fewer bytes stand there is no character of so many
  pub short : (w : ℕ) → i < length s → length s < i + w → false ≡ eqb (width (drop i s)) w
  short w h l = let m = width-within s i (omega arith) in sym (ne_eqb (width (drop i s)) w (λ e. omega arith))

module _ (a b : ℕ) (u : List ℕ) where
  two-wide : between 0xC2 0xDF a && between 0x80 0xBF b ≡ true → width (a ∷ b ∷ u) ≡ 2
  two-wide e = let k = and-both (between 0xC2 0xDF a) (between 0x80 0xBF b) e in width-fit (later here) (a ∷ b ∷ u) (rw (k.0, k.1))

-- and back
wide-two : {w : ℕ} {t : List ℕ} → Stood w t → w ≡ 2 → between 0xC2 0xDF (get_or t 0 0) && between 0x80 0xBF (get_or t 1 0) ≡ true
wide-two (Stood.one p) q = absurd (omega arith)
wide-two (Stood.two {x} {y} p q n) r = rw (between-in 0xC2 0xDF x p q, between-in 0x80 0xBF y n.low n.high)
wide-two (Stood.three p q m n k l) r = absurd (omega arith)
wide-two (Stood.four p q m n k l v) r = absurd (omega arith)

pub two-is : (s : List ℕ) (i : ℕ) → i + 1 < length s → between 0xC2 0xDF (get_or s i 0) && between 0x80 0xBF (get_or s (i + 1) 0) ≡ eqb (width (drop i s)) 2
two-is s i h =
    let a = get_or s i 0 in
    let b = get_or s (i + 1) 0 in
    let u = drop (i + 2) s in
    same (between 0xC2 0xDF a && between 0x80 0xBF b) (eqb (width (a ∷ b ∷ u)) 2) (λ e. eq-eqb (width (a ∷ b ∷ u)) 2 (two-wide a b u e))
    (λ e. let q = eqb-true (width (a ∷ b ∷ u)) 2 e in ⊎_elim (λ z. absurd (omega arith)) (λ t. wide-two t q) (stood (a ∷ b ∷ u)))
    ∙ ap (λ t. eqb (width t) 2) (sym (two-apart s i h))

pub first-of-two : (s : List ℕ) (i : ℕ) → i < length s → eqb (width (drop i s)) 2 ≡ true → between 0xC2 0xDF (get_or s i 0) ≡ true
first-of-two s i h e =
    let q = eqb-true (width (drop i s)) 2 e in
    ap (between 0xC2 0xDF) (sym (byte0 s i h)) ∙ (and-both _ _ (⊎_elim (λ z. absurd (omega arith)) (λ t. wide-two t q) (stood (drop i s)))).0

-- ---- three bytes

-- by the block of 64 codes
three-first : (a b : ℕ) → 0xE0 ≤ a → 0x80 ≤ b → beginsThree a b ≡ true → (a ≡ 0xE0 → 0xA0 ≤ b) × (a ≡ 0xED → 0xA0 ≤ b → 0xBF < b)
unfolding beginsThree
three-first a b h k e =
    let x = (64 * a + b - 0x3880) / 32 in
    let q = and-both (not (eqb x 0)) (not (eqb x 27)) e in
    let n : (x ≡ 0 → ⊥) = λ z. clash (sym (ap not (eq-eqb x 0 z)) ∙ q.0) in
    let m : (x ≡ 27 → ⊥) = λ z. clash (sym (ap not (eq-eqb x 27 z)) ∙ q.1) in
    (λ f. ⊎_elim (λ l. absurd (n (omega arith))) (λ l. l) (cases_lt b 0xA0), λ f g. ⊎_elim (λ l. absurd (m (omega arith))) (λ l. omega arith) (cases_lt b 0xC0))

first-three : (a b : ℕ) → 0xE0 ≤ a → a ≤ 0xEF → 0x80 ≤ b → b ≤ 0xBF → (0xE1 ≤ a) ⊎ (0xA0 ≤ b) → (a ≡ 0xED → b ≤ 0x9F) → beginsThree a b ≡ true
unfolding beginsThree
first-three a b h k l m u v =
    let x = (64 * a + b - 0x3880) / 32 in
    let n : (x ≡ 0 → ⊥) = λ z. ⊎_elim (λ p. omega arith) (λ p. omega arith) u in
    let o : (x ≡ 27 → ⊥) = λ z. let f : a ≡ 0xED = omega arith in let g = v f in omega arith in
    rw (ne_eqb x 0 n, ne_eqb x 27 o)

-- the two tests of the second byte that a character of three bytes passes
apart : (a b : ℕ) → 0x80 ≤ b → b ≤ 0xBF → (a ≡ 0xE0 → 0xA0 ≤ b) → (a ≡ 0xED → 0xA0 ≤ b → 0xBF < b) → 0xE0 ≤ a → ((0xE1 ≤ a) ⊎ (0xA0 ≤ b)) × (a ≡ 0xED → b ≤ 0x9F)
apart a b l m u v h =
    (⊎_elim (λ e. inr (u e)) (λ n. inl (omega arith)) (cases_eq a 0xE0), λ e. ⊎_elim (λ k. omega arith) (λ k. absurd (let z = v e k in omega arith)) (cases_lt b 0xA0))

three-fits : (a b c : ℕ) (u : List ℕ) → 0xE0 ≤ a → a ≤ 0xEF → Next b → Next c → (0xE1 ≤ a) ⊎ (0xA0 ≤ b) → (a ≡ 0xED → b ≤ 0x9F) → width (a ∷ b ∷ c ∷ u) ≡ 3
three-fits a b c u h k m n e d =
    let l = m.low in
    let g = m.high in
    let y = between-in 0x80 0xBF b l g in
    let z = between-in 0x80 0xBF c n.low n.high in
    ⊎_elim (λ q. let f : 0xA0 ≤ b = ⊎_elim (λ p. absurd (omega arith)) (λ p. p) e in
    width-fit (later (later here)) (a ∷ b ∷ c ∷ u) (rw (between-in 0xE0 0xE0 a (omega arith) (omega arith), between-in 0xA0 0xBF b f g, z)))
    (λ q. ⊎_elim (λ r. width-fit (later (later (later (later here)))) (a ∷ b ∷ c ∷ u) (rw (between-in 0xED 0xED a (omega arith) (omega arith), between-in 0x80 0x9F b l (d r), z)))
    (λ r. ⊎_elim (λ t. width-fit (later (later (later here))) (a ∷ b ∷ c ∷ u) (rw (between-in 0xE1 0xEC a (omega arith) (omega arith), y, z)))
    (λ t. width-fit (later (later (later (later (later here))))) (a ∷ b ∷ c ∷ u) (rw (between-in 0xEE 0xEF a (omega arith) (omega arith), y, z))) (cases_lt a 0xED)) (cases_eq a 0xED)) (cases_eq a 0xE0)

three-wide : (a b c : ℕ) (u : List ℕ) → threeBytes a b c ≡ true → width (a ∷ b ∷ c ∷ u) ≡ 3
three-wide a b c u e =
    let p = and-both (between 0xE0 0xEF a) _ e in
    let q = and-both (between 0x80 0xBF b) _ p.1 in
    let r = and-both (between 0x80 0xBF c) (beginsThree a b) q.1 in
    let x = in-between 0xE0 0xEF a p.0 in
    let y = in-between 0x80 0xBF b q.0 in
    let z = in-between 0x80 0xBF c r.0 in
    let t = three-first a b x.0 y.0 r.1 in
    let v = apart a b y.0 y.1 t.0 t.1 x.0 in
    three-fits a b c u x.0 x.1 (record { low = y.0; high = y.1 }) (record { low = z.0; high = z.1 }) v.0 v.1

wide-three : {w : ℕ} {t : List ℕ} → Stood w t → w ≡ 3 → threeBytes (get_or t 0 0) (get_or t 1 0) (get_or t 2 0) ≡ true
wide-three (Stood.one p) q = absurd (omega arith)
wide-three (Stood.two p q n) r = absurd (omega arith)
wide-three (Stood.three {x} {y} {z} p q m n k l) r =
    rw (between-in 0xE0 0xEF x p q, between-in 0x80 0xBF y m.low m.high, between-in 0x80 0xBF z n.low n.high) (first-three x y p q m.low m.high k l)
wide-three (Stood.four p q m n k l v) r = absurd (omega arith)

pub three-is : (s : List ℕ) (i : ℕ) → i + 2 < length s → threeBytes (get_or s i 0) (get_or s (i + 1) 0) (get_or s (i + 2) 0) ≡ eqb (width (drop i s)) 3
three-is s i h =
    let a = get_or s i 0 in
    let b = get_or s (i + 1) 0 in
    let c = get_or s (i + 2) 0 in
    let u = drop (i + 3) s in
    same (threeBytes a b c) (eqb (width (a ∷ b ∷ c ∷ u)) 3) (λ e. eq-eqb (width (a ∷ b ∷ c ∷ u)) 3 (three-wide a b c u e))
    (λ e. let q = eqb-true (width (a ∷ b ∷ c ∷ u)) 3 e in ⊎_elim (λ z. absurd (omega arith)) (λ t. wide-three t q) (stood (a ∷ b ∷ c ∷ u)))
    ∙ ap (λ t. eqb (width t) 3) (sym (three-apart s i h))

pub first-of-three : (s : List ℕ) (i : ℕ) → i < length s → eqb (width (drop i s)) 3 ≡ true → between 0xE0 0xEF (get_or s i 0) ≡ true
first-of-three s i h e =
    let q = eqb-true (width (drop i s)) 3 e in
    ap (between 0xE0 0xEF) (sym (byte0 s i h)) ∙ (and-both _ _ (⊎_elim (λ z. absurd (omega arith)) (λ t. wide-three t q) (stood (drop i s)))).0

-- one that is no mark is one
pub plain-three : (a b c : ℕ) → plainThree a b c ≡ true → threeBytes a b c ≡ true
unfolding plainThree
plain-three a b c e =
    let p = and-both (between 0xE0 0xEF a) _ e in
    let q = and-both (between 0x80 0xBF b) _ p.1 in
    let r = and-both (between 0x80 0xBF c) _ q.1 in
    let x = in-between 0xE0 0xEF a p.0 in
    let y = in-between 0x80 0xBF b q.0 in
    let n = or-neither (eqb a 0xE0 && ltb b 0xA0 || eqb a 0xED && leb 0xA0 b) _ (not-false _ r.1) in
    let i = or-neither (eqb a 0xE0 && ltb b 0xA0) (eqb a 0xED && leb 0xA0 b) n.0 in
    rw (p.0, q.0, r.0)
    (first-three a b x.0 x.1 y.0 y.1
    (⊎_elim (λ f. let g = rw f at i.0 in inr (ltb-false b 0xA0 g)) (λ f. inl (omega arith)) (cases_eq a 0xE0))
    (λ f. let g = rw f at i.1 in let k = leb-false 0xA0 b g in omega arith))
  where
    not-false : (z : Bool) → not z ≡ true → z ≡ false
    not-false true k = clash k
    not-false false k = refl

-- ---- four bytes

wide-four : {w : ℕ} {t : List ℕ} → Stood w t → w ≡ 4 → 0xF0 ≤ get_or t 0 0
wide-four (Stood.one p) q = absurd (omega arith)
wide-four (Stood.two p q n) r = absurd (omega arith)
wide-four (Stood.three p q m n k l) r = absurd (omega arith)
wide-four (Stood.four p q m n k l v) r = p

high-four : {w : ℕ} {t : List ℕ} → Stood w t → 0xF0 ≤ get_or t 0 0 → w ≡ 4
high-four (Stood.one p) q = absurd (omega arith)
high-four (Stood.two p q n) r = absurd (omega arith)
high-four (Stood.three p q m n k l) r = absurd (omega arith)
high-four (Stood.four p q m n k l v) r = refl

pub four-high : (s : List ℕ) (i : ℕ) → i < length s → 0xF0 ≤ get_or s i 0 → (width (drop i s) ≡ 0 → ⊥) → width (drop i s) ≡ 4
four-high s i h k n = ⊎_elim (λ z. absurd (n z)) (λ t. high-four t (let b = byte0 s i h in omega arith)) (stood (drop i s))

pub four-low : (s : List ℕ) (i : ℕ) → i < length s → get_or s i 0 < 0xF0 → false ≡ eqb (width (drop i s)) 4
four-low s i h k = sym (ne_eqb (width (drop i s)) 4 (λ e. ⊎_elim (λ z. omega arith) (λ t. let b = byte0 s i h in let f = wide-four t e in omega arith) (stood (drop i s))))

-- where any character stands there
pub four-some : (s : List ℕ) (i : ℕ) → i < length s → 0xF0 ≤ get_or s i 0 → is_some (widthAt s i) ≡ eqb (width (drop i s)) 4
unfolding widthAt
four-some s i h k =
    ⊎_elim (λ z. rw z) (λ n. let w = four-high s i h k n in rw w) (cases_eq (width (drop i s)) 0)

-- the code of four bytes is above U+FFFF
four-above : {w : ℕ} {t : List ℕ} → Stood w t → w ≡ 4 → 0xFFFF < codeOf w t
unfolding codeOf
four-above (Stood.one p) q = absurd (omega arith)
four-above (Stood.two p q n) r = absurd (omega arith)
four-above (Stood.three p q m n k l) r = absurd (omega arith)
four-above (Stood.four {x} {y} {z} {v} p q m n k l o) r = let a = m.low in let b = m.high in ⊎_elim (λ g. omega arith) (λ g. omega arith) l

pub four-code : (s : List ℕ) (i : ℕ) → width (drop i s) ≡ 4 → 0xFFFF < codeOf 4 (drop i s)
four-code s i e = ⊎_elim (λ z. absurd (omega arith)) (λ t. by (width (drop i s)) t e) (stood (drop i s))
  where
    by : (w : ℕ) → Stood w (drop i s) → w ≡ 4 → 0xFFFF < codeOf 4 (drop i s)
    by w t f = let k = four-above {w = w} {t = drop i s} t f in let q : codeOf w (drop i s) ≡ codeOf 4 (drop i s) = ap (λ z. codeOf z (drop i s)) f in omega arith

-- ---- a look

pub look-is : (s : List ℕ) (i w x : ℕ) → i < length s → width (drop i s) ≡ w → 1 ≤ w → x ≡ codeOf w (drop i s) → decoded x w ≡ stepAt s i
unfolding stepAt
look-is s i w x h e l f = let m : max 1 w ≡ w = omega arith in rw (lt-ltb i (length s) h, e, f, m)

pub look-alone : (s : List ℕ) (i : ℕ) → i < length s → width (drop i s) ≤ 1 → decoded (get_or s i 0) 1 ≡ stepAt s i
unfolding stepAt
look-alone s i h l = let m : max 1 (width (drop i s)) ≡ 1 = omega arith in rw (lt-ltb i (length s) h, m, code-one s i (width (drop i s)) l)

-- what is neither of two, three nor four bytes
pub alone : (s : List ℕ) (i : ℕ) → eqb (width (drop i s)) 2 ≡ false → eqb (width (drop i s)) 3 ≡ false → eqb (width (drop i s)) 4 ≡ false → width (drop i s) ≤ 1
alone s i p q r = ⊎_elim (λ z. omega arith) (λ t. by (lengths t)) (stood (drop i s))
  where
    lengths : {w : ℕ} {t : List ℕ} → Stood w t → (w ≡ 1) ⊎ (w ≡ 2) ⊎ (w ≡ 3) ⊎ (w ≡ 4)
    lengths (Stood.one p) = inl refl
    lengths (Stood.two p q n) = inr (inl refl)
    lengths (Stood.three p q m n k l) = inr (inr (inl refl))
    lengths (Stood.four p q m n k l v) = inr (inr (inr refl))

    by : (width (drop i s) ≡ 1) ⊎ (width (drop i s) ≡ 2) ⊎ (width (drop i s) ≡ 3) ⊎ (width (drop i s) ≡ 4) → width (drop i s) ≤ 1
    by (inl e) = omega arith
    by (inr (inl e)) = clash (sym p ∙ eq-eqb (width (drop i s)) 2 e)
    by (inr (inr (inl e))) = clash (sym q ∙ eq-eqb (width (drop i s)) 3 e)
    by (inr (inr (inr e))) = clash (sym r ∙ eq-eqb (width (drop i s)) 4 e)

-- ---- what is known of the bytes where a character of two bytes stands, and of three

pub record Two (s : List ℕ) (i : ℕ) : Type 0 where
  pub room : i + 1 < length s
  pub low : 0xC2 ≤ get_or s i 0
  pub high : get_or s i 0 ≤ 0xDF
  pub look : (block : ℕ) → block ≡ get_or s i 0 - 0xC0 → decoded (64 * block + get_or s (i + 1) 0 % 64) 2 ≡ stepAt s i

pub two : (s : List ℕ) (i : ℕ) → i < length s → eqb (width (drop i s)) 2 ≡ true → Two s i
two s i h e =
    let w = eqb-true (width (drop i s)) 2 e in
    let n = width-within s i (omega arith) in
    let r : i + 1 < length s = omega arith in
    let k = and-both _ _ (two-is s i r ∙ e) in
    let x = in-between 0xC2 0xDF (get_or s i 0) k.0 in
    record {
      room = r;
      low = x.0;
      high = x.1;
      look = λ block q. let c = code-two s i 2 _ refl refl in look-is s i 2 _ h w (omega arith) ((let z : 64 * block + get_or s (i + 1) 0 % 64 ≡ get_or s i 0 % 32 * 64 + get_or s (i + 1) 0 % 64 = omega (arith, x.0, x.1, q) in z) ∙ c);
    }

pub record Three (s : List ℕ) (i : ℕ) : Type 0 where
  pub room : i + 2 < length s
  pub first : 0xE0 ≤ get_or s i 0
  pub high : get_or s i 0 ≤ 0xEF
  pub next : Next (get_or s (i + 1) 0)
  pub look : (block : ℕ) → block + 0x3880 ≡ 64 * get_or s i 0 + get_or s (i + 1) 0 → decoded (64 * block + get_or s (i + 2) 0 % 64) 3 ≡ stepAt s i

pub three : (s : List ℕ) (i : ℕ) → i < length s → eqb (width (drop i s)) 3 ≡ true → Three s i
three s i h e =
    let w = eqb-true (width (drop i s)) 3 e in
    let n = width-within s i (omega arith) in
    let r : i + 2 < length s = omega arith in
    let k = and-both (between 0xE0 0xEF (get_or s i 0)) _ (three-is s i r ∙ e) in
    let l = and-both (between 0x80 0xBF (get_or s (i + 1) 0)) _ k.1 in
    let x = in-between 0xE0 0xEF (get_or s i 0) k.0 in
    let y = in-between 0x80 0xBF (get_or s (i + 1) 0) l.0 in
    record {
      room = r;
      first = x.0;
      high = x.1;
      next = record { low = y.0; high = y.1 };
      look = λ block q. let c = code-three s i 3 _ _ refl refl refl in look-is s i 3 _ h w (omega arith) ((let z : 64 * block + get_or s (i + 2) 0 % 64 ≡ get_or s i 0 % 16 * 4096 + get_or s (i + 1) 0 % 64 * 64 + get_or s (i + 2) 0 % 64 = omega (arith, x.0, x.1, y.0, y.1, q) in z) ∙ c);
    }

-- ---- four

pub four-within : (s : List ℕ) (i : ℕ) → i < length s → eqb (width (drop i s)) 4 ≡ true → i + 4 ≤ length s
four-within s i h e = let w = eqb-true (width (drop i s)) 4 e in let n = width-within s i (omega arith) in omega arith

none-above : (x : ℕ) → 0xFFFF < x → answers x ≡ record { id_start = false; id_char = false; op_sign = false; printable = false }
none-above x l = rw (above-no-start x l, above-no-id x l, above-no-sign x l, above-no-print x l) refl

-- in no class: its code is above U+FFFF
pub four-look : (s : List ℕ) (i x : ℕ) → i < length s → eqb (width (drop i s)) 4 ≡ true → x ≡ codeOf 4 (drop i s)
    → Some (record { code = x; width = 4; classes = record { id_start = false; id_char = false; op_sign = false; printable = false } }) ≡ stepAt s i
four-look s i x h e f =
    let w = eqb-true (width (drop i s)) 4 e in
    let k = four-code s i w in
    let l : 0xFFFF < x = omega arith in
    ap (λ k. Some (record { code = x; width = 4; classes = k })) (sym (none-above x l)) ∙ look-is s i 4 x h w (omega arith) f
