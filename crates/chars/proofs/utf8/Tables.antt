-- The tables of characters of three bytes: as lists they are what three functions give, and together they tell which three bytes are one that is no
-- direction mark.
use Rattle.std.proofs.lemmas.Grind.{common_steps}
use Rattle.std.proofs.Common.{◌≡◌, ℕ, ◌+◌, ◌*◌, ◌/◌, ◌%◌, ◌<◌, ◌≤◌, ◌⊎◌, inl, inr, Bool, true, false, cond, not, ◌&&◌, List, map, get_or, eqb, ltb, leb, bit_and, refl, ap, ◌∙◌, arith, ne_eqb}
use Rattle.std.proofs.lemmas.Bool.{cases_eq}
use Rattle.std.specs.List.{range_with_len}
use Rattle.std.proofs.lemmas.List.FromFn.{get_or-map-range_with_len}
use Rattle.chars.specs.paper.Quoted.{between}
use Rattle.chars.specs.code.Utf8.{plainThree}
use Rattle.chars.proofs.Carry.{each-same}

-- the kind of a first byte
abbrev pub kindOf : ℕ → ℕ
kindOf a = cond (eqb a 0xE0) 2 (cond (eqb a 0xE2) 3 (cond (eqb a 0xED) 4 (cond (between 0xE1 0xEF a) 1 0)))

-- which set of third bytes follows a second byte behind a first one of a kind
abbrev pub setOf : ℕ → ℕ → ℕ
setOf b k =
    let low = cond (ltb b 0xA0) 0 1 in
    let marks = cond (eqb b 0x80) 2 (cond (eqb b 0x81) 4 1) in
    let high = cond (leb 0xA0 b) 0 1 in
    cond (between 0x80 0xBF b) (cond (eqb k 1) 1 (cond (eqb k 2) low (cond (eqb k 3) marks (cond (eqb k 4) high 0)))) 0

-- the sets that a third byte is in
abbrev pub thirdOf : ℕ → ℕ
thirdOf c = cond (between 0x80 0xBF c) (1 + cond (between 0xAA 0xAE c) 0 2 + cond (between 0xA6 0xA9 c) 0 4) 0

abbrev pub kindsMade : List ℕ
kindsMade = map kindOf (range_with_len 0 256)

abbrev pub setsMade : List ℕ
setsMade = map (λ i. setOf (i / 8) (i % 8)) (range_with_len 0 2048)

abbrev pub thirdsMade : List ℕ
thirdsMade = map thirdOf (range_with_len 0 256)

kind-low : (a : ℕ) → kindOf a ≤ 4
kind-low a = grind (arith, common_steps)

-- ---- a third byte and a set

-- is the byte in the set of this number?
abbrev inSet : ℕ → ℕ → Bool
inSet m c =
    cond (eqb m 1) (between 0x80 0xBF c)
    (cond (eqb m 2) (between 0x80 0xBF c && not (between 0xAA 0xAE c)) (cond (eqb m 4) (between 0x80 0xBF c && not (between 0xA6 0xA9 c)) false))

abbrev meets : ℕ → ℕ → Bool
meets m c = not (eqb (bit_and m (thirdOf c)) 0)

-- the sets that there are
abbrev Known : ℕ → Type 0
Known m = (m ≡ 0) ⊎ (m ≡ 1) ⊎ (m ≡ 2) ⊎ (m ≡ 4)

pick : (p : Bool) {x y : ℕ} → Known x → Known y → Known (cond p x y)
pick true k l = k
pick false k l = l

known : (b k : ℕ) → Known (setOf b k)
known b k =
    let none : Known 0 = inl refl in
    let all : Known 1 = inr (inl refl) in
    let low = pick (ltb b 0xA0) none all in
    let marks = pick (eqb b 0x80) (inr (inr (inl refl))) (pick (eqb b 0x81) (inr (inr (inr refl))) all) in
    let high = pick (leb 0xA0 b) none all in
    pick (between 0x80 0xBF b) (pick (eqb k 1) all (pick (eqb k 2) low (pick (eqb k 3) marks (pick (eqb k 4) high none)))) none

-- computed at each byte, for each of these sets
meets-in : (m c : ℕ) → Known m → c < 256 → meets m c ≡ inSet m c
meets-in m c (inl e) h = rw e (each-same (meets 0) (inSet 0) 0 256 c refl (omega arith) (omega arith))
meets-in m c (inr (inl e)) h = rw e (each-same (meets 1) (inSet 1) 0 256 c refl (omega arith) (omega arith))
meets-in m c (inr (inr (inl e))) h = rw e (each-same (meets 2) (inSet 2) 0 256 c refl (omega arith) (omega arith))
meets-in m c (inr (inr (inr e))) h = rw e (each-same (meets 4) (inSet 4) 0 256 c refl (omega arith) (omega arith))

set-kind : (a b c : ℕ) → inSet (setOf b (kindOf a)) c ≡ plainThree a b c
unfolding plainThree
set-kind a b c =
    elim (cases_eq a 0xE0) [
      | inl q ↦ rw q (grind (arith, common_steps))
      | inr n ↦
          elim (cases_eq a 0xE2) [
            | inl q ↦ rw q (grind (arith, common_steps))
            | inr m ↦
                elim (cases_eq a 0xED) [
                  | inl q ↦ rw q (grind (arith, common_steps))
                  | inr l ↦ rw (ne_eqb a 0xE0 n, ne_eqb a 0xE2 m, ne_eqb a 0xED l) (grind (arith, common_steps))
                ]
          ]
    ]

module _ (kinds : List ℕ) (e : kinds ≡ kindsMade) (a : ℕ) (h : a < 256) where
  kind-is : get_or kinds a 0 ≡ kindOf a
  kind-is = ap (λ l. get_or l a 0) e ∙ get_or-map-range_with_len kindOf 0 256 a a 0 h (omega arith)

  module _ (b : ℕ) (l : b < 256) where
    pub set-within : b * 8 + get_or kinds a 0 < 2048
    set-within = let q = kind-is in let k = kind-low a in omega arith

    set-is : (sets : List ℕ) → sets ≡ setsMade → get_or sets (b * 8 + get_or kinds a 0) 0 ≡ setOf b (kindOf a)
    set-is sets f =
        let i = b * 8 + get_or kinds a 0 in
        let q = kind-is in
        let k = kind-low a in
        let d : i / 8 ≡ b = omega arith in
        let m : i % 8 ≡ kindOf a = omega arith in
        ap (λ l. get_or l i 0) f ∙ get_or-map-range_with_len (λ i. setOf (i / 8) (i % 8)) 0 2048 i i 0 set-within (omega arith)
        ∙ ap (λ x. setOf x (i % 8)) d ∙ ap (setOf b) m

    pub three-is : (sets thirds : List ℕ) → sets ≡ setsMade → thirds ≡ thirdsMade → (c : ℕ) → c < 256
        → not (eqb (bit_and (get_or sets (b * 8 + get_or kinds a 0) 0) (get_or thirds c 0)) 0) ≡ plainThree a b c
    three-is sets thirds f g c m =
        let t : get_or thirds c 0 ≡ thirdOf c = ap (λ l. get_or l c 0) g ∙ get_or-map-range_with_len thirdOf 0 256 c c 0 m (omega arith) in
        ap (λ x. not (eqb (bit_and x (get_or thirds c 0)) 0)) (set-is sets f) ∙ ap (λ x. not (eqb (bit_and (setOf b (kindOf a)) x) 0)) t
        ∙ meets-in (setOf b (kindOf a)) c (known b (kindOf a)) m ∙ set-kind a b c
