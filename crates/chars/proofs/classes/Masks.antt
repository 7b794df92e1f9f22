-- The masks by blocks say of every code up to U+FFFF what the rules say: both as the bits of one number, compared once for each class.
use Rattle.std.proofs.Common.{◌≡◌, ℕ, zero, suc, ◌+◌, ◌-◌, ◌*◌, ◌/◌, ◌%◌, ◌^◌, ◌<◌, ◌≤◌, Bool, true, ◌&&◌, List, [], ◌∷◌, length, get_or, eqb, ltb, refl, sym, ap, ◌∙◌, arith, ltb-true}
use Rattle.std.specs.Int.{bit_at}
use Rattle.std.proofs.lemmas.Nat.Bits.{bit_at_cat_low, bit_at_cat_high}
use Rattle.chars.specs.paper.Classes.{isIdStart, isIdChar, isOpSign, isPrintable}
use Rattle.chars.specs.code.Masks.{inMask, inMasks}
use Rattle.chars.specs.declared.masks.TheConstants.{BLOCKS, ID_CHARS, ID_STARTS, OP_SIGNS, PRINTABLES}
use Rattle.chars.proofs.Bools.{and-both}
use Rattle.chars.proofs.classes.Bits.{bitOf, bitsOf, bitsIn, idBits, startBits, signBits, printBits, id-bit, start-bit, sign-bit, print-bit}

-- ---- masks as the bits of one number

joined : List ℕ → List ℕ → ℕ
joined masks [] = 0
joined masks (i ∷ blocks) = joined masks blocks * 2 ^ 64 + get_or masks i 0

-- a test that each number of a list is below m
abbrev allBelow : ℕ → List ℕ → Bool
allBelow m [] = true
allBelow m (x ∷ l) = ltb x m && allBelow m l

pub below-at : (m d : ℕ) (l : List ℕ) → allBelow m l ≡ true → (k : ℕ) → k < length l → get_or l k d < m
below-at m d [] e k h = absurd (omega arith)
below-at m d (x ∷ l) e zero h = ltb-true x m (and-both (ltb x m) (allBelow m l) e).0
below-at m d (x ∷ l) e (suc k) h = below-at m d l (and-both (ltb x m) (allBelow m l) e).1 k (omega arith)

-- past the end of the list too
below-any : (m : ℕ) (l : List ℕ) → 0 < m → allBelow m l ≡ true → (k : ℕ) → get_or l k 0 < m
below-any m [] z e k = z
below-any m (x ∷ l) z e zero = ltb-true x m (and-both (ltb x m) (allBelow m l) e).0
below-any m (x ∷ l) z e (suc k) = below-any m l z (and-both (ltb x m) (allBelow m l) e).1 k

joined-bit : (masks : List ℕ) → allBelow (2 ^ 64) masks ≡ true → (blocks : List ℕ) (k j : ℕ) → k < length blocks → j < 64
    → bit_at (joined masks blocks) (64 * k + j) ≡ bit_at (get_or masks (get_or blocks k 0) 0) j
unfolding joined
joined-bit masks e [] k j h l = absurd (omega arith)
joined-bit masks e (i ∷ blocks) zero j h l =
    let z : 64 * 0 + j ≡ j = omega arith in
    ap (bit_at (joined masks (i ∷ blocks))) z ∙ bit_at_cat_low (joined masks blocks) 64 (get_or masks i 0) j l
joined-bit masks e (i ∷ blocks) (suc k) j h l =
    let z : 64 * suc k + j - 64 ≡ 64 * k + j = omega arith in
    bit_at_cat_high (joined masks blocks) 64 (get_or masks i 0) (64 * suc k + j) (below-any (2 ^ 64) masks (omega arith) e i) (omega arith)
    ∙ ap (bit_at (joined masks blocks)) z ∙ joined-bit masks e blocks k j (omega arith) l

-- where these are the bits of a test, the masks are the test
by-bits : (masks blocks : List ℕ) (c : ℕ) (p : Bool) → allBelow (2 ^ 64) masks ≡ true → c < 64 * length blocks → bit_at (joined masks blocks) c ≡ bitOf p
    → inMasks masks blocks c ≡ p
unfolding inMask
by-bits masks blocks c p e h q =
    let z : 64 * (c / 64) + c % 64 ≡ c = omega arith in
    let b = joined-bit masks e blocks (c / 64) (c % 64) (omega arith) (omega arith) in
    ap (λ x. eqb x 1) (sym b ∙ ap (bit_at (joined masks blocks)) z ∙ q) ∙ one p
  where
    one : (p : Bool) → eqb (bitOf p) 1 ≡ p
    one p = grind arith

-- ---- the four classes

-- the four computed tests
id-same : joined ID_CHARS BLOCKS ≡ idBits
unfolding joined bitsOf idBits
id-same = refl

start-same : joined ID_STARTS BLOCKS ≡ startBits
unfolding joined bitsOf startBits
start-same = refl

sign-same : joined OP_SIGNS BLOCKS ≡ signBits
unfolding joined bitsIn bitsOf signBits
sign-same = refl

print-same : joined PRINTABLES BLOCKS ≡ printBits
unfolding joined bitsOf printBits
print-same = refl

-- what they say of a code
by-same : (masks : List ℕ) (bits c : ℕ) (p : Bool) → allBelow (2 ^ 64) masks ≡ true → c ≤ 0xFFFF → joined masks BLOCKS ≡ bits → bit_at bits c ≡ bitOf p
    → inMasks masks BLOCKS c ≡ p
by-same masks bits c p e h q b = by-bits masks BLOCKS c p e (omega arith) (ap (λ z. bit_at z c) q ∙ b)

module _ (c : ℕ) (h : c ≤ 0xFFFF) where
  pub id-masks : inMasks ID_CHARS BLOCKS c ≡ isIdChar c
  id-masks = by-same ID_CHARS idBits c (isIdChar c) refl h id-same (id-bit c h)

  pub start-masks : inMasks ID_STARTS BLOCKS c ≡ isIdStart c
  start-masks = by-same ID_STARTS startBits c (isIdStart c) refl h start-same (start-bit c h)

  pub sign-masks : inMasks OP_SIGNS BLOCKS c ≡ isOpSign c
  sign-masks = by-same OP_SIGNS signBits c (isOpSign c) refl h sign-same (sign-bit c)

  pub print-masks : inMasks PRINTABLES BLOCKS c ≡ isPrintable c
  print-masks = by-same PRINTABLES printBits c (isPrintable c) refl h print-same (print-bit c h)

-- ---- a code by its block and its place there

by-place : (f : ℕ → ℕ → Bool) (g : ℕ → Bool) (block place : ℕ) → place < 64 → f ((64 * block + place) / 64) ((64 * block + place) % 64) ≡ g (64 * block + place) → f block place ≡ g (64 * block + place)
by-place f g block place h e =
    let b : (64 * block + place) / 64 ≡ block = omega arith in
    let p : (64 * block + place) % 64 ≡ place = omega arith in
    rw (b, p) at e

module _ (block place : ℕ) (h : block < 1024) (l : place < 64) where
  pub start-place : inMask ID_STARTS BLOCKS block place ≡ isIdStart (64 * block + place)
  start-place = by-place (inMask ID_STARTS BLOCKS) isIdStart block place l (start-masks (64 * block + place) (omega arith))

  pub id-place : inMask ID_CHARS BLOCKS block place ≡ isIdChar (64 * block + place)
  id-place = by-place (inMask ID_CHARS BLOCKS) isIdChar block place l (id-masks (64 * block + place) (omega arith))

  pub sign-place : inMask OP_SIGNS BLOCKS block place ≡ isOpSign (64 * block + place)
  sign-place = by-place (inMask OP_SIGNS BLOCKS) isOpSign block place l (sign-masks (64 * block + place) (omega arith))

  pub print-place : inMask PRINTABLES BLOCKS block place ≡ isPrintable (64 * block + place)
  print-place = by-place (inMask PRINTABLES BLOCKS) isPrintable block place l (print-masks (64 * block + place) (omega arith))
