-- An operator sign of three bytes, by its block of 64 codes.
use Rattle.std.proofs.Common.{ℕ, ◌+◌, ◌-◌, ◌*◌, ◌/◌, ◌%◌, ◌≤◌, ◌<◌, ◌≡◌, refl, sym, ◌∙◌, ap, ◌⊎◌, inl, inr, Bool, true, false, ◌&&◌, List, length, drop, get_or, eqb, leb, ltb, ⊎_elim, arith, Some, None, ltb-true, le-leb, leb-true, eq-eqb, ne_eqb, lt-ltb}
use Rattle.std.proofs.lemmas.Bool.{cases_Bool, cases_eq, cases_lt}
use Rattle.chars.specs.paper.Quoted.{between, codes, oneOf}
use Rattle.chars.specs.paper.Utf8.{width}
use Rattle.chars.specs.paper.Tables.{mathOrOtherSymbolTable}
use Rattle.chars.specs.paper.Classes.{asciiSigns, isOpSign, mathOrOtherSymbol}
use Rattle.chars.specs.code.Utf8.{decoded}
use Rattle.chars.specs.code.Text.{beginsThree, threeBytes, formOfThree, signWidth, stepAt}
use Rattle.chars.proofs.Bools.{clash, and-both}
use Rattle.chars.proofs.Carry.{no-member}
use Rattle.chars.proofs.classes.Ranges.{in-between, clear, clear-out}
use Rattle.chars.proofs.text.Looks.{three, three-is, first-of-two, four-low, alone, look-alone}

-- no sign has one of the codes from l to h, where the table has none of them
no-sign-in : (l h c : ℕ) → 0x80 ≤ l → l ≤ c → c ≤ h → clear l h mathOrOtherSymbolTable ≡ true → isOpSign c ≡ false
unfolding isOpSign mathOrOtherSymbol
no-sign-in l h c k p q e =
    let quoted : oneOf asciiSigns c ≡ false = no-member (ltb 0x7F) (codes asciiSigns) c refl (lt-ltb 0x7F c (omega arith)) in
    rw quoted (clear-out l h c p q mathOrOtherSymbolTable e)

-- the first byte of such a form is none by itself, nor is a surrogate
first-no-sign : (a : ℕ) → 0xE0 ≤ a → a ≤ 0xEF → isOpSign a ≡ false
first-no-sign a p q = no-sign-in 0xE0 0xEF a (omega arith) p q refl

surrogate-no-sign : (c : ℕ) → 0xD800 ≤ c → c ≤ 0xDFFF → isOpSign c ≡ false
surrogate-no-sign c p q = no-sign-in 0xD800 0xDFFF c (omega arith) p q refl

-- what the form says of the bytes
pub record Form (s : List ℕ) (i : ℕ) : Type 0 where
  pub room : i + 2 < length s
  pub first : (0xE0 ≤ get_or s i 0) × (get_or s i 0 ≤ 0xEF)
  pub second : (0x80 ≤ get_or s (i + 1) 0) × (get_or s (i + 1) 0 ≤ 0xBF)
  pub bytes : threeBytes (get_or s i 0) (get_or s (i + 1) 0) (get_or s (i + 2) 0) ≡ beginsThree (get_or s i 0) (get_or s (i + 1) 0)

pub form : (s : List ℕ) (i : ℕ) → formOfThree s i ≡ true → Form s i
unfolding formOfThree
form s i e =
    let a = get_or s i 0 in
    let b = get_or s (i + 1) 0 in
    let c = get_or s (i + 2) 0 in
    let p = and-both (between 0xE0 0xEF a) _ e in
    let q = and-both (ltb (i + 2) (length s)) _ p.1 in
    let r = and-both (between 0x80 0xBF b) (between 0x80 0xBF c) q.1 in
    record {
      room = ltb-true (i + 2) (length s) q.0;
      first = in-between 0xE0 0xEF a p.0;
      second = in-between 0x80 0xBF b r.0;
      bytes = rw (p.0, r.0, r.1);
    }

module _ (s : List ℕ) (i : ℕ) (f : formOfThree s i ≡ true) (block : ℕ) (k : block + 0x3880 ≡ 64 * get_or s i 0 + get_or s (i + 1) 0) where
  here : i < length s
  here = let m = (form s i f).room in omega arith

  pub block-within : block < 1024
  block-within = let m = form s i f in omega (arith, m.first.1, m.second.1, k)

  -- the three bytes are a character, and told by the block
  whole : beginsThree (get_or s i 0) (get_or s (i + 1) 0) ≡ true → decoded (64 * block + get_or s (i + 2) 0 % 64) 3 ≡ stepAt s i
  whole e = let m = form s i f in (three s i here (sym (three-is s i m.room) ∙ m.bytes ∙ e)).look block k

  -- or they are none, and the first byte stands alone
  apart : beginsThree (get_or s i 0) (get_or s (i + 1) 0) ≡ false → decoded (get_or s i 0) 1 ≡ stepAt s i
  apart e =
      let m = form s i f in
      let x = m.first in
      let two : eqb (width (drop i s)) 2 ≡ false =
      ⊎_elim (λ q. let z = in-between 0xC2 0xDF (get_or s i 0) (first-of-two s i here q) in absurd (omega (arith, x.0, z.1))) (λ q. q) (cases_Bool (eqb (width (drop i s)) 2)) in
      look-alone s i here (alone s i two (sym (three-is s i m.room) ∙ m.bytes ∙ e) (sym (four-low s i here (omega (arith, x.1)))))

  -- by the block they are no character: the first 32, where all have fewer bytes, or a surrogate's
  by-block : beginsThree (get_or s i 0) (get_or s (i + 1) 0) ≡ false → (block < 32) ⊎ (block / 32 ≡ 27)
  unfolding beginsThree
  by-block e =
      let h : 64 * get_or s i 0 + get_or s (i + 1) 0 - 0x3880 ≡ block = omega (arith, k) in
      ⊎_elim (λ z. inl (omega arith)) (λ n. ⊎_elim (λ z. inr z) (λ m. clash (sym e ∙ rw (h, ne_eqb (block / 32) 0 n, ne_eqb (block / 32) 27 m))) (cases_eq (block / 32) 27)) (cases_eq (block / 32) 0)

  whole-late : beginsThree (get_or s i 0) (get_or s (i + 1) 0) ≡ true → leb 32 block ≡ true
  unfolding beginsThree
  whole-late e =
      let h : 64 * get_or s i 0 + get_or s (i + 1) 0 - 0x3880 ≡ block = omega (arith, k) in
      ⊎_elim (λ l. let z : block / 32 ≡ 0 = omega arith in clash (sym (rw (h, eq-eqb (block / 32) 0 z)) ∙ e)) (λ l. le-leb 32 block l) (cases_lt block 32)

  -- the test that the code makes
  abbrev test : Bool
  test = leb 32 block && isOpSign (64 * block + get_or s (i + 2) 0 % 64)

  pub sign-three : test ≡ true → Some 3 ≡ signWidth (stepAt s i)
  sign-three e =
      let p = and-both (leb 32 block) (isOpSign (64 * block + get_or s (i + 2) 0 % 64)) e in
      let l = leb-true 32 block p.0 in
      ⊎_elim (λ w. rw (sym (whole w), p.1))
      (λ n. ⊎_elim (λ z. absurd (omega arith)) (λ z. clash (sym (surrogate-no-sign (64 * block + get_or s (i + 2) 0 % 64) (omega arith) (omega arith)) ∙ p.1)) (by-block n))
      (cases_Bool (beginsThree (get_or s i 0) (get_or s (i + 1) 0)))

  pub no-sign-three : test ≡ false → None ≡ signWidth (stepAt s i)
  no-sign-three e =
      let m = form s i f in
      ⊎_elim (λ w. let q : isOpSign (64 * block + get_or s (i + 2) 0 % 64) ≡ false = ap (λ z. z && isOpSign (64 * block + get_or s (i + 2) 0 % 64)) (sym (whole-late w)) ∙ e in rw (sym (whole w), q))
      (λ n. rw (sym (apart n), first-no-sign (get_or s i 0) m.first.0 m.first.1))
      (cases_Bool (beginsThree (get_or s i 0) (get_or s (i + 1) 0)))
