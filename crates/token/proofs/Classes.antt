-- Quoted characters and the classes of `chars`: which of them are in none, from what `chars` promises.
use Rattle.std.proofs.Common.{ℕ, Bool, ◌<◌, ◌≡◌, refl, sym, ◌∙◌, ap, true, false, not, ◌&&◌, arith, ltb, lt-ltb, ltb-true}
use Prim.Native.String.{String}
use Rattle.chars.specs.paper.Quoted.{codes, oneOf}
use Rattle.chars.specs.paper.Classes.{isIdStart, isIdChar, asciiSigns, isOpSign}
use Rattle.chars.specs.promises.Codes.{every}
use Rattle.chars.specs.promises.Classes.{lowStart, lowId}
use Rattle.chars.proofs.Bools.{and-both}
use Rattle.chars.proofs.theorems.Promises.{code_laws, class-laws}
open code_laws use {carry, carry-not, every-sub, no-member}
open class-laws use {byte-start, byte-id, byte-sign}

-- ---- operator signs, at a code of ASCII by the quoted list alone

low-sign : (c : ℕ) → c < 0x80 → isOpSign c ≡ oneOf asciiSigns c
low-sign c l = let h = byte-sign c in rw (lt-ltb c 0x80 l) at h

-- of ASCII, and not quoted in `asciiSigns`
abbrev pub plainAscii : ℕ → Bool
plainAscii c = ltb c 0x80 && not (oneOf asciiSigns c)

plain-no-sign : (c : ℕ) → plainAscii c ≡ true → not (isOpSign c) ≡ true
plain-no-sign c e =
    let k = and-both (ltb c 0x80) (not (oneOf asciiSigns c)) e in
    ap not (low-sign c (ltb-true c 0x80 k.0)) ∙ k.1

-- none of the quoted characters is a sign, where each is such a one
pub sign-not : (t : String) → every plainAscii (codes t) ≡ true → every (λ x. not (isOpSign x)) (codes t) ≡ true
sign-not t h = every-sub plainAscii (λ x. not (isOpSign x)) (codes t) h plain-no-sign

pub no-sign : (t : String) → every plainAscii (codes t) ≡ true → (c : ℕ) → oneOf t c ≡ true → isOpSign c ≡ false
no-sign t h c e = carry-not isOpSign (codes t) c (sign-not t h) e

-- and no sign is one of them
pub sign-no : (t : String) → every plainAscii (codes t) ≡ true → (c : ℕ) → isOpSign c ≡ true → oneOf t c ≡ false
sign-no t h c e = no-member isOpSign (codes t) c (sign-not t h) e

pub sign-no-under : (c : ℕ) → isOpSign c ≡ true → oneOf "_" c ≡ false
sign-no-under = sign-no "_" refl

pub sign-no-semi : (c : ℕ) → isOpSign c ≡ true → oneOf ";" c ≡ false
sign-no-semi = sign-no ";" refl

pub nul-no-sign : isOpSign 0 ≡ false
nul-no-sign = low-sign 0 (omega arith)

pub slash-sign : isOpSign 0x2F ≡ true
slash-sign = low-sign 0x2F (omega arith)

pub sign-byte : (b : ℕ) → b < 0x80 → isOpSign b ≡ ltb b 0x80 && isOpSign b
sign-byte b l = sym (ap (λ z. z && isOpSign b) (lt-ltb b 0x80 l))

-- ---- identifiers, at a code of ASCII

low-start : (c : ℕ) → c < 0x80 → isIdStart c ≡ lowStart c
low-start c l = let h = byte-start c in rw (lt-ltb c 0x80 l) at h

low-id : (c : ℕ) → c < 0x80 → isIdChar c ≡ lowId c
low-id c l = let h = byte-id c in rw (lt-ltb c 0x80 l) at h

pub slash-no-start : isIdStart 0x2F ≡ false
slash-no-start = low-start 0x2F (omega arith)

-- `_` is no id character
pub under-no-id : (c : ℕ) → oneOf "_" c ≡ true → isIdChar c ≡ false
under-no-id c e =
    let z : isIdChar 0x5F ≡ false = low-id 0x5F (omega arith) in
    carry-not isIdChar (codes "_") c (rw z) e

-- blanks, line ends, the nine signs, quotes, digits, operator signs: no word starts with one of them
abbrev pub others : String
others = " \t\n\r()[]{},;.`\"'0123456789!#%&*+-/:<=>?@\\^|~"

other-no-start : (c : ℕ) → oneOf others c ≡ true → not (isIdStart c) ≡ true
other-no-start c e =
    let h = carry (λ x. ltb x 0x80 && not (lowStart x)) (codes others) c refl e in
    let k = and-both (ltb c 0x80) (not (lowStart c)) h in
    ap not (low-start c (ltb-true c 0x80 k.0)) ∙ k.1

-- none of the quoted characters is an id start, where each of them is quoted in `others`
pub start-not : (t : String) → every (oneOf others) (codes t) ≡ true → every (λ x. not (isIdStart x)) (codes t) ≡ true
start-not t h = every-sub (oneOf others) (λ x. not (isIdStart x)) (codes t) h other-no-start

pub no-start : (t : String) → every (oneOf others) (codes t) ≡ true → (c : ℕ) → oneOf t c ≡ true → isIdStart c ≡ false
no-start t h c e = carry-not isIdStart (codes t) c (start-not t h) e
