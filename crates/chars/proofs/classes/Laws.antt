-- The character classes: ASCII by its byte, what excludes what, and what no class has.
use Rattle.std.proofs.Common.{ℕ, suc, ◌≤◌, ◌<◌, ◌≡◌, refl, ap, ◌∙◌, Bool, true, false, ◌&&◌, ◌||◌, ⊎_elim, arith, le-leb, lt-ltb, le-ltb, ne_eqb, ltb}
use Rattle.std.proofs.lemmas.Bool.{cases_lt, lt-leb}
use Rattle.std.proofs.Math.Bool.{and-true, and-false, or-false}
use Rattle.chars.specs.paper.Quoted.{between, codes, oneOf}
use Rattle.chars.specs.paper.Tables.{alphabeticTable, lowercaseTable, uppercaseTable, ndTable, alphaNotLetterTable, mathOrOtherSymbolTable}
use Rattle.chars.specs.paper.Classes.{isIdStart, isIdChar, asciiSigns, isOpSign, isPrintable, alphabetic, lowercase, uppercase, nd, alphaNotLetter, mathOrOtherSymbol}
use Rattle.chars.proofs.classes.Ranges.{between-out, clear-out, covered-in, only-first}
use Rattle.chars.proofs.classes.Bits.{alone-id, alone-start}
use Rattle.chars.specs.promises.Classes.{lowStart, lowId}
use Rattle.chars.proofs.Carry.{each-same, no-member}

-- ---- operator signs

pub sign-is : (c : ℕ) → isOpSign c ≡ oneOf asciiSigns c || mathOrOtherSymbol c
unfolding isOpSign
sign-is c = refl

-- ---- ASCII, of which the tables have their first ranges

module _ (c : ℕ) (l : c ≤ 0x7F) where
  low-alphabetic : alphabetic c ≡ between 0x41 0x5A c || between 0x61 0x7A c
  unfolding alphabetic
  low-alphabetic = only-first 2 alphabeticTable 0x7F c refl l ∙ ap (λ z. between 0x41 0x5A c || z) (or-false (between 0x61 0x7A c))

  low-lowercase : lowercase c ≡ between 0x61 0x7A c
  unfolding lowercase
  low-lowercase = only-first 1 lowercaseTable 0x7F c refl l ∙ or-false (between 0x61 0x7A c)

  low-uppercase : uppercase c ≡ between 0x41 0x5A c
  unfolding uppercase
  low-uppercase = only-first 1 uppercaseTable 0x7F c refl l ∙ or-false (between 0x41 0x5A c)

  low-nd : nd c ≡ between 0x30 0x39 c
  unfolding nd
  low-nd = only-first 1 ndTable 0x7F c refl l ∙ or-false (between 0x30 0x39 c)

  low-marks : alphaNotLetter c ≡ false
  unfolding alphaNotLetter
  low-marks = only-first 0 alphaNotLetterTable 0x7F c refl l

-- the classes there
low-start : (c : ℕ) → c < 0x80 → isIdStart c ≡ lowStart c
unfolding isIdStart
low-start c l =
    let h : c ≤ 0x7F = omega arith in
    let e : between 0x24B6 0x24E9 c ≡ false = between-out 0x24B6 0x24E9 c (λ k. absurd (omega arith)) in
    rw (le-leb c 0xFFFF (omega arith), e, low-lowercase c h, low-uppercase c h)

low-id : (c : ℕ) → c < 0x80 → isIdChar c ≡ lowId c
unfolding isIdChar
low-id c l =
    let h : c ≤ 0x7F = omega arith in
    rw (le-leb c 0xFFFF (omega arith), low-alphabetic c h, low-marks c h, low-nd c h, and-true (between 0x41 0x5A c || between 0x61 0x7A c))

-- the same of a byte
below : (p q : ℕ → Bool) → ((c : ℕ) → c < 0x80 → p c ≡ q c) → (b : ℕ) → ltb b 0x80 && p b ≡ ltb b 0x80 && q b
below p q h b = ⊎_elim (λ l. rw (lt-ltb b 0x80 l) (h b l)) (λ l. rw (le-ltb b 0x80 l)) (cases_lt b 0x80)

pub byte-start : (b : ℕ) → ltb b 0x80 && isIdStart b ≡ ltb b 0x80 && lowStart b
byte-start b = below isIdStart lowStart low-start b

pub byte-id : (b : ℕ) → ltb b 0x80 && isIdChar b ≡ ltb b 0x80 && lowId b
byte-id b = below isIdChar lowId low-id b

-- the table's signs of ASCII stand in the list: computed at each code
low-sign : (c : ℕ) → c < 0x80 → isOpSign c ≡ oneOf asciiSigns c
unfolding isOpSign mathOrOtherSymbol
low-sign c l = each-same isOpSign (oneOf asciiSigns) 0 0x80 c refl (omega arith) l

pub byte-sign : (b : ℕ) → ltb b 0x80 && isOpSign b ≡ ltb b 0x80 && oneOf asciiSigns b
byte-sign b = below isOpSign (oneOf asciiSigns) low-sign b

-- ---- above U+FFFF no class has a code

module _ (c : ℕ) (h : 0xFFFF < c) where
  pub above-no-start : isIdStart c ≡ false
  unfolding isIdStart
  above-no-start = rw (lt-leb c 0xFFFF h)

  pub above-no-id : isIdChar c ≡ false
  unfolding isIdChar
  above-no-id = let a : (c ≡ 0x24 → ⊥) = λ e. omega arith in rw (ne_eqb c 0x24 a, lt-leb c 0xFFFF h)

  pub above-no-print : isPrintable c ≡ false
  unfolding isPrintable
  above-no-print = rw (lt-leb c 0xFFFF h)

  -- of no range of the table, and of no quoted sign
  pub above-no-sign : isOpSign c ≡ false
  unfolding isOpSign mathOrOtherSymbol
  above-no-sign =
      let quoted : oneOf asciiSigns c ≡ false = no-member (ltb 0xFFFF) (codes asciiSigns) c refl (lt-ltb 0xFFFF c h) in
      rw quoted (clear-out (suc 0xFFFF) c c h (omega arith) mathOrOtherSymbolTable refl)

-- ---- operator signs are neither

module _ (c : ℕ) (e : isOpSign c ≡ true) where
  pub sign-no-id : isIdChar c ≡ false
  sign-no-id = ⊎_elim (λ l. above-no-id c l) (λ l. alone-id c l e) (cases_lt 0xFFFF c)

  pub sign-no-start : isIdStart c ≡ false
  sign-no-start = ⊎_elim (λ l. above-no-start c l) (λ l. alone-start c l e) (cases_lt 0xFFFF c)

-- ---- characters that the rules name

-- RULES, "Traps": the small Roman numeral one starts an identifier and never goes on in one.
pub roman-start : isIdStart 0x2170 ≡ true
unfolding isIdStart lowercase uppercase
roman-start = refl

pub roman-no-id : isIdChar 0x2170 ≡ false
unfolding isIdChar alphabetic nd alphaNotLetter
roman-no-id = refl

-- the circled letters do neither
module _ (c : ℕ) (from : 0x24B6 ≤ c) (to : c ≤ 0x24E9) where
  pub circled-no-start : isIdStart c ≡ false
  unfolding isIdStart
  circled-no-start = grind arith

  circled-mark : alphaNotLetter c ≡ true
  unfolding alphaNotLetter
  circled-mark = covered-in 0x24B6 0x24E9 c from to alphaNotLetterTable refl

  circled-no-nd : nd c ≡ false
  unfolding nd
  circled-no-nd = clear-out 0x24B6 0x24E9 c from to ndTable refl

  pub circled-no-id : isIdChar c ≡ false
  unfolding isIdChar
  circled-no-id =
      let a : (c ≡ 0x24 → ⊥) = λ e. omega arith in
      rw (ne_eqb c 0x24 a, le-leb c 0xFFFF (omega arith), circled-mark, circled-no-nd, and-false (alphabetic c))
