-- A number of one digit.
use Rattle.token.proofs.cursor.Words.{ℕ, ◌+◌, ◌*◌, ◌<◌, ◌≡◌, refl, sym, ◌∙◌, ap, true, false, not, inl, List, length, get_or, eqb, arith, le-leb, codes, oneOf, from, or-neither, every, span, code_laws, isDigit, digitValue, hexAhead, numeral, readDigits, numberOf, scan, signOf, signNumber, classOf, classAt, inWord, cursorAt, pieceOf, tokenTo, digitIn, intOr}
use Rattle.token.specs.declared.kinds.TokenKind.TheVariants as tk
use Rattle.token.proofs.digits.Laws.{digits-ascii, read-next, read-stop, hex_bytes, dec-number, int-piece}
use Rattle.token.proofs.digits.Runs.{value-under}
use Rattle.token.proofs.lexer.Laws.{number_at}
open code_laws use {no-member, carry-span, in-between}

-- what goes on with no word is neither `x` nor `L` or `l`, nor a digit
words : every (λ b. not (not (inWord (classOf b)))) (codes "xLl") ≡ true
unfolding classOf signNumber signOf
words = refl

digit-words : every (λ b. inWord (classOf b)) (span 0x30 10) ≡ true
unfolding classOf signNumber signOf
digit-words = refl

module _ (b : ℕ) (e : inWord (classOf b) ≡ false) where
  no-letter : (eqb b 0x78 ≡ false) × (oneOf "Ll" b ≡ false)
  no-letter = or-neither (eqb b 0x78) (oneOf "Ll" b) (no-member (λ x. not (inWord (classOf x))) (codes "xLl") b words (rw e))

  digitless : isDigit b ≡ false
  unfolding isDigit
  digitless = let q = carry-span (λ x. inWord (classOf x)) 0x30 10 b digit-words in grind (arith, in-between)

-- where no `x` follows a byte no `0x` begins with it
no-hex : (s : List ℕ) (at : ℕ) → eqb (get_or s (at + 1) 0) 0x78 ≡ false → hexAhead (from s at) ≡ false
no-hex s at e = grind (arith, hex_bytes)

pub digit-alone : (s : List ℕ) (at : ℕ) → at < length s → isDigit (get_or s at 0) ≡ true → inWord (classAt s (at + 1)) ≡ false
    → tokenTo (tk.IntLit (digitValue (get_or s at 0))) (cursorAt (at + 1)) ≡ pieceOf (length s) (scan (length s) (from s at))
unfolding digitIn intOr
digit-alone s at h d w = go (digitValue (get_or s at 0)) refl
  where
    go : (v : ℕ) → v ≡ digitValue (get_or s at 0) → tokenTo (tk.IntLit v) (cursorAt (at + 1)) ≡ pieceOf (length s) (scan (length s) (from s at))
    go v e =
        let p = digitIn 10 in
        let n = no-letter (get_or s (at + 1) 0) w in
        let u = value-under 10 (get_or s at 0) (inl refl) d in
        let m = le-leb v 2147483647 (omega arith) in
        let z : v ≡ 0 * 10 + digitValue (get_or s at 0) = omega arith in
        let q : numeral v (from s (at + 1)) ≡ readDigits p 10 0 (from s at) =
        read-stop p (digits-ascii 10) s (at + 1) 10 v (digitless (get_or s (at + 1) 0) w) ∙ ap (λ x. readDigits p 10 x (from s (at + 1))) z
        ∙ read-next p (digits-ascii 10) s at 10 0 d in
        let i : tokenTo (tk.IntLit v) (cursorAt (at + 1)) ≡ intOr at v (cursorAt (at + 1)) = sym (rw m) in
        i ∙ int-piece s at (at + 1) v (omega arith) (omega arith) n.1
        ∙ ap (pieceOf (length s)) (ap (numberOf (from s at)) q ∙ dec-number s at (no-hex s at n.0) ∙ sym (number_at s at h d))
