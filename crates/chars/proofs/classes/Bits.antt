-- Tables of ranges and lists of codes as the bits of one number, and so each class: two sets of codes are compared as two numbers. And that no operator
-- sign is an id start or an id character, by one computed test.
use Rattle.std.proofs.Common.{◌≡◌, ℕ, ◌+◌, ◌-◌, ◌%◌, ◌^◌, ◌≤◌, min, max, Bool, true, false, cond, not, ◌&&◌, ◌||◌, List, [], ◌∷◌, eqb, leb, refl, sym, ap, ◌∙◌, ⊎_elim, arith, eq-eqb, ne_eqb, le-leb, bit_and, bit_or, bit_xor}
use Rattle.std.proofs.lemmas.Bool.{cases_lt, cases_eq, lt-leb}
use Rattle.std.specs.Int.{bit_at}
use Rattle.std.proofs.lemmas.Nat.Bits.{bit_at-zero, bit_at_and, bit_at_or, bit_at_xor, bit_at-pow_same, bit_at-pow_other, bit_at_mask_inside, bit_at_mask_below, bit_at_mask_above}
use Rattle.chars.specs.paper.Quoted.{between, codes, member, oneOf}
use Rattle.chars.specs.paper.Ranges.{Range, ◌to◌, inRanges}
use Rattle.chars.specs.paper.Tables.{alphabeticTable, lowercaseTable, uppercaseTable, ndTable, alphaNotLetterTable, mathOrOtherSymbolTable}
use Rattle.chars.specs.paper.Classes.{isIdStart, isIdChar, asciiSigns, isOpSign, isPrintable, alphabetic, lowercase, uppercase, nd, alphaNotLetter, mathOrOtherSymbol}
use Rattle.chars.proofs.Bools.{or-neither}

-- ---- the codes of ranges as the bits of one number

abbrev pub bitOf : Bool → ℕ
bitOf b = cond b 1 0

unfoldable pub bitsOf : List Range → ℕ
bitsOf [] = 0
bitsOf (◌to◌ a b ∷ t) = bit_or (2 ^ (b + 1) - 2 ^ a) (bitsOf t)

-- the codes of a list
unfoldable pub bitsIn : List ℕ → ℕ
bitsIn [] = 0
bitsIn (x ∷ l) = bit_or (2 ^ x) (bitsIn l)

-- the bits of x that y has not
abbrev without : ℕ → ℕ → ℕ
without x y = bit_xor x (bit_and x y)

either-bit : (p q : Bool) → max (bitOf p) (bitOf q) ≡ bitOf (p || q)
either-bit p q = grind arith

both-bit : (p q : Bool) → min (bitOf p) (bitOf q) ≡ bitOf (p && q)
both-bit p q = grind arith

less-bit : (p q : Bool) → (bitOf p + bitOf (p && q)) % 2 ≡ bitOf (p && not q)
less-bit p q = grind arith

none-bit : (p : Bool) → bitOf p ≡ 0 → p ≡ false
none-bit p e = grind arith

module _ (c : ℕ) where
  range-bit : (a b : ℕ) → bit_at (2 ^ (b + 1) - 2 ^ a) c ≡ bitOf (between a b c)
  range-bit a b =
      ⊎_elim (λ l. bit_at_mask_below a (b + 1) c l ∙ rw (lt-leb a c l))
      (λ l. ⊎_elim (λ m. bit_at_mask_above a (b + 1) c (omega arith) ∙ rw (le-leb a c l, lt-leb c b m)) (λ m. bit_at_mask_inside a (b + 1) c l (omega arith) ∙ rw (le-leb a c l, le-leb c b m)) (cases_lt b c))
      (cases_lt c a)

  one-bit : (k : ℕ) → bit_at (2 ^ k) c ≡ bitOf (eqb c k)
  one-bit k = ⊎_elim (λ e. ap (bit_at (2 ^ k)) e ∙ bit_at-pow_same k ∙ rw (eq-eqb c k e)) (λ n. bit_at-pow_other k c n ∙ rw (ne_eqb c k n)) (cases_eq c k)

  or-bit : (x y : ℕ) (p q : Bool) → bit_at x c ≡ bitOf p → bit_at y c ≡ bitOf q → bit_at (bit_or x y) c ≡ bitOf (p || q)
  or-bit x y p q e f = bit_at_or x y c ∙ ap (λ z. max z (bit_at y c)) e ∙ ap (max (bitOf p)) f ∙ either-bit p q

  and-bit : (x y : ℕ) (p q : Bool) → bit_at x c ≡ bitOf p → bit_at y c ≡ bitOf q → bit_at (bit_and x y) c ≡ bitOf (p && q)
  and-bit x y p q e f = bit_at_and x y c ∙ ap (λ z. min z (bit_at y c)) e ∙ ap (min (bitOf p)) f ∙ both-bit p q

  without-bit : (x y : ℕ) (p q : Bool) → bit_at x c ≡ bitOf p → bit_at y c ≡ bitOf q → bit_at (without x y) c ≡ bitOf (p && not q)
  without-bit x y p q e f =
      bit_at_xor x (bit_and x y) c ∙ ap (λ z. (z + bit_at (bit_and x y) c) % 2) e ∙ ap (λ z. (bitOf p + z) % 2) (and-bit x y p q e f) ∙ less-bit p q

  table-bit : (t : List Range) → bit_at (bitsOf t) c ≡ bitOf (inRanges t c)
  unfolding bitsOf
  table-bit [] = bit_at-zero c
  table-bit (◌to◌ a b ∷ t) = or-bit (2 ^ (b + 1) - 2 ^ a) (bitsOf t) (between a b c) (inRanges t c) (range-bit a b) (table-bit t)

  list-bit : (l : List ℕ) → bit_at (bitsIn l) c ≡ bitOf (member l c)
  unfolding bitsIn
  list-bit [] = bit_at-zero c
  list-bit (x ∷ l) = or-bit (2 ^ x) (bitsIn l) (eqb c x) (member l c) (one-bit x) (list-bit l)

-- ---- the four classes

unfoldable pub idBits : ℕ
idBits = bit_or (2 ^ 0x24) (bit_or (without (bitsOf alphabeticTable) (bitsOf alphaNotLetterTable)) (bitsOf ndTable))

unfoldable pub startBits : ℕ
startBits =
    without (bit_or (bit_or (bitsOf lowercaseTable) (bitsOf uppercaseTable)) (bit_or (2 ^ 0x24) (2 ^ 0x5F))) (bitsOf (0x24B6 to 0x24E9 ∷ []))

unfoldable pub signBits : ℕ
signBits = bit_or (bitsIn (codes asciiSigns)) (bitsOf mathOrOtherSymbolTable)

unfoldable pub printBits : ℕ
printBits = without (bitsOf (0 to 0xFFFF ∷ [])) (bitsOf (0 to 0x1F ∷ 0x7F to 0x9F ∷ 0xFFF0 to 0xFFFF ∷ []))

-- their bits are the classes; the rules of three of them end at U+FFFF
module _ (c : ℕ) (h : c ≤ 0xFFFF) where
  pub id-bit : bit_at idBits c ≡ bitOf (isIdChar c)
  unfolding isIdChar alphabetic alphaNotLetter nd idBits
  id-bit =
      let p = inRanges alphabeticTable c in
      let q = inRanges alphaNotLetterTable c in
      let letters = without-bit c (bitsOf alphabeticTable) (bitsOf alphaNotLetterTable) p q (table-bit c alphabeticTable) (table-bit c alphaNotLetterTable) in
      or-bit c _ _ _ _ (one-bit c 0x24) (or-bit c _ _ _ _ letters (table-bit c ndTable))
      ∙ ap bitOf (shape (eqb c 0x24) (p && not q || inRanges ndTable c) (leb c 0xFFFF) (le-leb c 0xFFFF h))
    where
      shape : (x y l : Bool) → l ≡ true → x || y ≡ (x || false) || l && y
      shape x y l e = grind (arith, e)

  pub start-bit : bit_at startBits c ≡ bitOf (isIdStart c)
  unfolding isIdStart lowercase uppercase startBits
  start-bit =
      let p = inRanges lowercaseTable c in
      let q = inRanges uppercaseTable c in
      let letters = or-bit c (bitsOf lowercaseTable) (bitsOf uppercaseTable) p q (table-bit c lowercaseTable) (table-bit c uppercaseTable) in
      let all = or-bit c _ _ _ _ letters (or-bit c _ _ _ _ (one-bit c 0x24) (one-bit c 0x5F)) in
      without-bit c _ _ _ _ all (table-bit c (0x24B6 to 0x24E9 ∷ []))
      ∙ ap bitOf (shape (p || q) (eqb c 0x24) (eqb c 0x5F) (between 0x24B6 0x24E9 c) (leb c 0xFFFF) (le-leb c 0xFFFF h))
    where
      shape : (a b d x l : Bool) → l ≡ true → (a || (b || d)) && not (x || false) ≡ (l && not x) && (a || (b || (d || false)))
      shape a b d x l e = grind (arith, e)

  pub print-bit : bit_at printBits c ≡ bitOf (isPrintable c)
  unfolding isPrintable printBits
  print-bit =
      let x = between 0 0x1F c in
      let y = between 0x7F 0x9F c in
      let z = between 0xFFF0 0xFFFF c in
      without-bit c _ _ _ _ (table-bit c (0 to 0xFFFF ∷ [])) (table-bit c (0 to 0x1F ∷ 0x7F to 0x9F ∷ 0xFFF0 to 0xFFFF ∷ []))
      ∙ ap bitOf (ap (λ l. (l || false) && not (x || (y || (z || false)))) all ∙ shape (leb c 0xFFFF) x y z (le-leb c 0xFFFF h))
    where
      all : between 0 0xFFFF c ≡ true
      all = rw (le-leb 0 c (omega arith), le-leb c 0xFFFF h)

      shape : (l x y z : Bool) → l ≡ true → true && not (x || (y || (z || false))) ≡ l && not x && not y && not z
      shape l x y z e = grind (arith, e)

pub sign-bit : (c : ℕ) → bit_at signBits c ≡ bitOf (isOpSign c)
unfolding isOpSign mathOrOtherSymbol signBits
sign-bit c = or-bit c _ _ (oneOf asciiSigns c) (inRanges mathOrOtherSymbolTable c) (list-bit c (codes asciiSigns)) (table-bit c mathOrOtherSymbolTable)

-- ---- no operator sign is an id start or an id character

-- the computed test: the two numbers have no bit in common
apart : bit_and signBits (bit_or idBits startBits) ≡ 0
unfolding bitsOf bitsIn idBits startBits signBits
apart = refl

module _ (c : ℕ) (h : c ≤ 0xFFFF) (e : isOpSign c ≡ true) where
  neither : (isIdChar c ≡ false) × (isIdStart c ≡ false)
  neither =
      let word = or-bit c idBits startBits (isIdChar c) (isIdStart c) (id-bit c h) (start-bit c h) in
      let both = and-bit c signBits (bit_or idBits startBits) (isOpSign c) (isIdChar c || isIdStart c) (sign-bit c) word in
      let none : bitOf (isOpSign c && (isIdChar c || isIdStart c)) ≡ 0 = sym both ∙ ap (λ z. bit_at z c) apart ∙ bit_at-zero c in
      or-neither (isIdChar c) (isIdStart c) (sym (ap (λ z. z && (isIdChar c || isIdStart c)) e) ∙ none-bit (isOpSign c && (isIdChar c || isIdStart c)) none)

  pub alone-id : isIdChar c ≡ false
  alone-id = neither.0

  pub alone-start : isIdStart c ≡ false
  alone-start = neither.1
