-- Digit runs. One fact over the base serves numbers and escapes: a digit is an ASCII character, so that a run is walked on its bytes.
use Rattle.token.proofs.cursor.Words.{ℕ, ◌+◌, ◌*◌, ◌-◌, ◌≤◌, ◌<◌, ◌≡◌, refl, sym, ◌∙◌, ap, Bool, true, false, ◌&&◌, List, ◌∷◌, length, drop, get_or, eqb, le-mul_of_pos_right, one-le-pow, arith, codes, oneOf, Text, from, headIs, afterRun, AsciiClass, text-laws, isDigit, isHexDigit, digitValue, begins, hexAhead, letterL, Found, numeral, readDigits, numberOf, scanNumber, cursorAt, pieceOf, IsBase, digitIn, digitOf, letterOf, every, span, code_laws, eqb-true, leb, not, Some, None, intOr, longOr, numberBy, refusalBy}
use Rattle.std.specs.Prelude.{bit_or, if◌then◌else◌}
use Rattle.token.specs.declared.digits.DigitRun.{DigitRun}
use Rattle.token.proofs.cursor.Bytes.{any-byte, ascii-list, inside, two-bytes}
use Rattle.token.proofs.theorems.Numbers.{valueAfter, digitsOf, read-is}
open code_laws use {carry-span}
open text-laws use {head-byte, at-ascii, place-from}

-- ---- the digits of a base

module _ (base b : ℕ) where
  pub digit-low : 0x30 ≤ b → b ≤ 0x39 → digitIn base b ≡ true
  unfolding digitIn isHexDigit isDigit
  digit-low h k = grind arith

  pub no-digit : (0x30 ≤ b → 0x39 < b) → (0x41 ≤ b → 0x46 < b) → (0x61 ≤ b → 0x66 < b) → digitIn base b ≡ false
  unfolding digitIn isHexDigit isDigit
  no-digit h k l = grind arith

pub digits-ascii : (base : ℕ) → AsciiClass (digitIn base)
digits-ascii base = record { nul = grind (arith, no-digit); wide = λ c w. grind (arith, no-digit) }

-- ---- the value of a digit

-- of a letter: computed at each byte, with 16 for what is none
letterBy : ℕ → ℕ
letterBy c = if leb 0x61 c && leb c 0x66 then c - 0x61 + 10 else 16

letterIs : ℕ → ℕ
unfolding digitIn isHexDigit isDigit
letterIs b = if not (isDigit b) && digitIn 16 b then digitValue b else 16

each-letter : every (λ b. eqb (letterBy (bit_or b 0x20)) (letterIs b)) (span 0 256) ≡ true
unfolding letterBy letterIs
each-letter = refl

module _ (b : ℕ) (h : b < 256) where
  letter-is : letterBy (bit_or b 0x20) ≡ letterIs b
  letter-is = eqb-true (letterBy (bit_or b 0x20)) (letterIs b) (carry-span (λ b. eqb (letterBy (bit_or b 0x20)) (letterIs b)) 0 256 b each-letter (omega arith) h)

  letter-below : digitIn 16 b ≡ true → digitValue b < 16
  unfolding digitIn isHexDigit isDigit
  letter-below e = grind arith

  pub letter-in : 0x61 ≤ bit_or b 0x20 → bit_or b 0x20 ≤ 0x66 → Some (bit_or b 0x20 - 0x61 + 10) ≡ letterOf b
  unfolding letterBy letterIs letterOf digitOf
  letter-in k l = let i = letter-is in let w = letter-below in grind arith

  pub letter-out : (0x61 ≤ bit_or b 0x20 → 0x66 < bit_or b 0x20) → None ≡ letterOf b
  unfolding letterBy letterIs letterOf digitOf
  letter-out k = let i = letter-is in let w = letter-below in grind arith

pub ruleset letters = (letter-in, letter-out)

module _ (base b : ℕ) where
  pub some-digit : {d : ℕ} → digitOf base b ≡ Some d → (digitIn base b ≡ true) × (d ≡ digitValue b)
  unfolding digitOf
  some-digit e = grind arith

  pub no-value : digitOf base b ≡ None → digitIn base b ≡ false
  unfolding digitOf
  no-value e = grind arith

-- ---- runs of a class

-- a class of ASCII characters, at a place of a script
module _ (p : ℕ → Bool) (a : AsciiClass p) where
  module _ (s : List ℕ) (i : ℕ) where
    pub class-at : p (get_or s i 0) ≡ true → (i < length s) × (from s i ≡ record { code = get_or s i 0; at = i } ∷ from s (i + 1))
    class-at e = let n = a.nul in let w = a.wide in grind (arith, inside, at-ascii, n, w)

    pub read-next : (base v : ℕ) → p (get_or s i 0) ≡ true
        → readDigits p base (v * base + digitValue (get_or s i 0)) (from s (i + 1)) ≡ readDigits p base v (from s i)
    unfolding readDigits
    read-next base v e = grind (arith, class-at)

    pub read-stop : (base v : ℕ) → p (get_or s i 0) ≡ false → numeral v (from s i) ≡ readDigits p base v (from s i)
    unfolding readDigits
    read-stop base v e = let h = head-byte p a s i in grind arith

-- ---- values in any base and below any limit

-- more digits make no smaller number
no-less : (base v : ℕ) (ds : List ℕ) → 1 ≤ base → v ≤ valueAfter base v ds
no-less base v ds h = let m = le-mul_of_pos_right v (one-le-pow (length ds) base h) in omega (arith, m)

pub base-some : (base : ℕ) → IsBase base → 1 ≤ base
base-some base h = omega arith

-- a number whose value is above every most is refused, whatever follows its digits
pub over-found : (t : Text) (v : ℕ) (r : Text) → 9223372036854775807 < v → numberOf t (numeral v r) ≡ Found.stuck 6 t
over-found t v r k = grind arith

-- and no digit that follows brings a value back below the limit
pub over-read : (t : Text) (p : ℕ → Bool) (base : ℕ) → 1 ≤ base → (v : ℕ) (r : Text) → 9223372036854775807 < v → numberOf t (readDigits p base v r) ≡ Found.stuck 6 t
over-read t p base some v r k =
    let l = no-less base v (digitsOf p r) some in
    ap (numberOf t) (read-is p base v r) ∙ over-found t (valueAfter base v (digitsOf p r)) (afterRun (headIs p) r) (omega arith)

-- ---- numbers

-- the number that begins at start, whose digits of the value v end at end
module _ (s : List ℕ) (start end v : ℕ) (h : start ≤ length s) where
  letter-at : letterL (from s end) ≡ oneOf "Ll" (get_or s end 0)
  letter-at = any-byte "Ll" refl s end

  long-piece : oneOf "Ll" (get_or s end 0) ≡ true → longOr start v (cursorAt (end + 1)) ≡ pieceOf (length s) (numberOf (from s start) (numeral v (from s end)))
  unfolding pieceOf longOr refusalBy
  long-piece e =
      let c = class-at (oneOf "Ll") (ascii-list (codes "Ll") refl) s end e in
      rw (letter-at, e, c.1) (grind (arith, place-from))

  pub int-piece : end ≤ length s → oneOf "Ll" (get_or s end 0) ≡ false
      → intOr start v (cursorAt end) ≡ pieceOf (length s) (numberOf (from s start) (numeral v (from s end)))
  unfolding pieceOf intOr refusalBy
  int-piece k e = rw (letter-at, e) (grind (arith, place-from))

-- the same by the run of its digits
pub number-piece : (s : List ℕ) (start : ℕ) (r : DigitRun) → start ≤ length s → r.end ≤ length s → r.next ≡ get_or s r.end 0
    → numberBy start r ≡ pieceOf (length s) (numberOf (from s start) (numeral r.value (from s r.end)))
unfolding numberBy
number-piece s start r h k e = grind (arith, long-piece, int-piece)

-- ---- `0x`

module _ (s : List ℕ) (i : ℕ) where
  abbrev zeroX : Bool
  zeroX = eqb (get_or s i 0) 0x30 && eqb (get_or s (i + 1) 0) 0x78

  zero-x : begins "0x" (from s i) ≡ zeroX
  unfolding begins
  zero-x = two-bytes 0x30 0x78 (omega arith) (omega arith) (omega arith) (omega arith) s i

  past-zero-x : zeroX ≡ true → (i + 2 ≤ length s) × (drop 2 (from s i) ≡ from s (i + 2))
  past-zero-x e = grind (arith, inside, at-ascii)

  -- `0x` and a hex digit, by their bytes
  pub hex_bytes : hexAhead (from s i) ≡ eqb (get_or s i 0) 0x30 && eqb (get_or s (i + 1) 0) 0x78 && digitIn 16 (get_or s (i + 2) 0)
  unfolding digitIn
  hex_bytes = grind (arith, zero-x, past-zero-x, head-byte (digitIn 16) (digits-ascii 16) s)

  pub hex-text : hexAhead (from s i) ≡ true → (i + 2 ≤ length s) × (drop 2 (from s i) ≡ from s (i + 2))
  hex-text e = grind (arith, zero-x, past-zero-x)

  pub hex-number : hexAhead (from s i) ≡ true → numberOf (from s i) (readDigits (digitIn 16) 16 0 (from s (i + 2))) ≡ scanNumber (from s i)
  unfolding scanNumber digitIn
  hex-number e = ap (λ t. numberOf (from s i) (readDigits (digitIn 16) 16 0 t)) (sym (hex-text e).1) ∙ sym (rw e)

  pub dec-number : hexAhead (from s i) ≡ false → numberOf (from s i) (readDigits (digitIn 10) 10 0 (from s i)) ≡ scanNumber (from s i)
  unfolding scanNumber digitIn
  dec-number e = sym (rw e)

pub ruleset scanned = (hex-text, hex-number, dec-number)
