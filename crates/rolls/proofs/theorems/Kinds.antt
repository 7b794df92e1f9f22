-- Kinds and their numbers: a number tells how long the records of its kind are, and number and values tell the kind.
use Prim.Native.Nat.{ℕ, ◌+◌, ◌*◌, ◌/◌, ◌%◌, ◌≤◌, ◌<◌}
use mathlib.Core.Path.{◌≡◌, refl, sym, ◌∙◌, ap}
use mathlib.Core.Bool.{Bool, true, false, not, ◌&&◌, ◌||◌, and-eq-true_iff}
use mathlib.Core.List.{List, [], ◌∷◌}
use lib.Dec.{eqb, leb}
use native.Mathlib.Nat.{mod-eq_of_lt}
use native.Mathlib.Omega.{arith}
use borrow.Author.Tests.{eqb-true, eqb-false, eq-eqb, ne_eqb, not-true, leb-true, leb-false}
use Rattle.chars.specs.promises.Codes.{every, span}
use Rattle.chars.proofs.theorems.Promises.{code_laws}
use Rattle.words.specs.Words.{le4, le8}
use Rattle.token.specs.paper.Kinds.{kindNumber}
use Rattle.token.specs.paper.Records.{bit, Value, one, four, eight, valuesOf, values, headLength, recordLength}
use Rattle.token.specs.code.Form.{joined}
use Rattle.token.specs.declared.kinds.Kw.TheVariants as kw
use Rattle.token.specs.declared.kinds.TokenKind.{TokenKind}
use Rattle.token.specs.declared.kinds.TokenKind.TheVariants as tk
use Rattle.rolls.specs.paper.Roll.{KindLength, of-kind}
use Rattle.rolls.specs.computed.Roll.{lengthFor, isKind, keywordFor, kindFor}
use Rattle.rolls.proofs.record.Laws.{none-above}
open code_laws use {carry-span}

-- ---- what a kind carries

-- a number, a content, a mark; or nothing: then its number alone tells its length and the kind
pub data Carries : TokenKind → Type 0 where
  int : (v : ℕ) → Carries (tk.IntLit v)
  long : (v : ℕ) → Carries (tk.LongLit v)
  content : (a e : ℕ) → Carries (tk.Str a e)
  mark : (b : Bool) → Carries (tk.Newline b)
  nothing : (k : TokenKind) → valuesOf k ≡ [] → lengthFor (kindNumber k) ≡ headLength → ((v : ℕ) → kindFor (kindNumber k) v ≡ k)
      → Carries k

-- The other laws of kinds go by these five. This is the one that lists the kinds.
pub carries : (k : TokenKind) → Carries k
unfolding lengthFor kindFor keywordFor
carries tk.Ident = nothing tk.Ident refl refl (λ v. refl)
carries tk.OpId = nothing tk.OpId refl refl (λ v. refl)
carries tk.BacktickId = nothing tk.BacktickId refl refl (λ v. refl)
carries (tk.IntLit v) = int v
carries (tk.LongLit v) = long v
carries (tk.Str a e) = content a e
carries tk.CharSym = nothing tk.CharSym refl refl (λ v. refl)
carries tk.LParen = nothing tk.LParen refl refl (λ v. refl)
carries tk.RParen = nothing tk.RParen refl refl (λ v. refl)
carries tk.LBracket = nothing tk.LBracket refl refl (λ v. refl)
carries tk.RBracket = nothing tk.RBracket refl refl (λ v. refl)
carries tk.LBrace = nothing tk.LBrace refl refl (λ v. refl)
carries tk.RBrace = nothing tk.RBrace refl refl (λ v. refl)
carries tk.Comma = nothing tk.Comma refl refl (λ v. refl)
carries tk.Semi = nothing tk.Semi refl refl (λ v. refl)
carries tk.Dot = nothing tk.Dot refl refl (λ v. refl)
carries (tk.Newline b) = mark b
carries tk.Eof = nothing tk.Eof refl refl (λ v. refl)
carries (tk.Kw kw.Case) = nothing (tk.Kw kw.Case) refl refl (λ v. refl)
carries (tk.Kw kw.Else) = nothing (tk.Kw kw.Else) refl refl (λ v. refl)
carries (tk.Kw kw.False) = nothing (tk.Kw kw.False) refl refl (λ v. refl)
carries (tk.Kw kw.Function) = nothing (tk.Kw kw.Function) refl refl (λ v. refl)
carries (tk.Kw kw.If) = nothing (tk.Kw kw.If) refl refl (λ v. refl)
carries (tk.Kw kw.Match) = nothing (tk.Kw kw.Match) refl refl (λ v. refl)
carries (tk.Kw kw.Return) = nothing (tk.Kw kw.Return) refl refl (λ v. refl)
carries (tk.Kw kw.Then) = nothing (tk.Kw kw.Then) refl refl (λ v. refl)
carries (tk.Kw kw.True) = nothing (tk.Kw kw.True) refl refl (λ v. refl)
carries (tk.Kw kw.Colon) = nothing (tk.Kw kw.Colon) refl refl (λ v. refl)
carries (tk.Kw kw.FatArrow) = nothing (tk.Kw kw.FatArrow) refl refl (λ v. refl)
carries (tk.Kw kw.Assign) = nothing (tk.Kw kw.Assign) refl refl (λ v. refl)
carries (tk.Kw kw.Hash) = nothing (tk.Kw kw.Hash) refl refl (λ v. refl)
carries (tk.Kw kw.At) = nothing (tk.Kw kw.At) refl refl (λ v. refl)

-- ---- lengths

-- without values a record is its first 13 bytes
pub bare-length : (k : TokenKind) → valuesOf k ≡ [] → recordLength k ≡ headLength
unfolding recordLength values
bare-length k n = rw n

length-by : {k : TokenKind} → Carries k → lengthFor (kindNumber k) ≡ recordLength k
unfolding lengthFor recordLength values le4 le8
length-by (int v) = refl
length-by (long v) = refl
length-by (content a e) = refl
length-by (mark b) = refl
length-by (nothing k n l b) = l ∙ sym (bare-length k n)

-- the length by a kind's number is that of the kind's records
pub length-for : (k : TokenKind) → lengthFor (kindNumber k) ≡ recordLength k
length-for k = length-by (carries k)

-- a known length is the one by the number
pub known-length : {n size : ℕ} → KindLength n size → size ≡ lengthFor n
known-length (of-kind k) = sym (length-for k)

-- no record is shorter than its first 13 bytes
pub length-least : {n size : ℕ} → KindLength n size → headLength ≤ size
unfolding recordLength
length-least (of-kind k) = omega arith

-- ---- the numbers that are known: what is computed at each below 46 holds of each, and from 46 on there is none

-- the number has no length, or `kindFor` is a kind of that number and length
abbrev hasKind : ℕ → Bool
hasKind n = eqb (lengthFor n) 0 || eqb (kindNumber (kindFor n 0)) n && eqb (recordLength (kindFor n 0)) (lengthFor n)

-- each below 46 is so
all-kinds : every hasKind (span 0 46) ≡ true
unfolding lengthFor kindFor keywordFor recordLength values le4 le8
all-kinds = refl

-- a number with a length is a kind's, and the length is that kind's
length-kind : (n : ℕ) → (lengthFor n ≡ 0 → ⊥) → KindLength n (lengthFor n)
length-kind n h = below (leb 46 n) refl
  where
    named : (b : Bool) → eqb (lengthFor n) 0 ≡ b → b || eqb (kindNumber (kindFor n 0)) n && eqb (recordLength (kindFor n 0)) (lengthFor n) ≡ true
        → KindLength n (lengthFor n)
    named true e k = absurd (h (eqb-true (lengthFor n) 0 e))
    named false e k =
        let p = (and-eq-true_iff (eqb (kindNumber (kindFor n 0)) n) (eqb (recordLength (kindFor n 0)) (lengthFor n))).0 k in
        rw (eqb-true (kindNumber (kindFor n 0)) n p.0, eqb-true (recordLength (kindFor n 0)) (lengthFor n) p.1) at (of-kind (kindFor n 0))

    below : (b : Bool) → leb 46 n ≡ b → KindLength n (lengthFor n)
    below true e = absurd (h (sym (none-above n (leb-true 46 n e))))
    below false e = named (eqb (lengthFor n) 0) refl (carry-span hasKind 0 46 n all-kinds (omega arith) (leb-false 46 n e))

-- a kind with its length passes the test
pub is-kind : {n size : ℕ} → KindLength n size → isKind n size ≡ true
unfolding isKind
is-kind {n} {size} w = let a = length-least w in rw (ne_eqb size 0 (λ e. omega arith), eq-eqb size (lengthFor n) (known-length w))

-- and what passes it is a kind with its length
pub known-kind : (n size : ℕ) → isKind n size ≡ true → KindLength n size
unfolding isKind
known-kind n size e =
    let p = (and-eq-true_iff (not (eqb size 0)) (eqb size (lengthFor n))).0 e in
    let q = eqb-true size (lengthFor n) p.1 in
    let z = eqb-false size 0 (not-true (eqb size 0) p.0) in
    rw q (length-kind n (λ o. z (q ∙ o)))

-- ---- values

-- each value fits the bytes that it takes
abbrev pub Fit : List Value → Type 0
Fit [] = Unit {0}
Fit (one v ∷ vs) = (v < 256) × Fit vs
Fit (four v ∷ vs) = (v < 4294967296) × Fit vs
Fit (eight v ∷ vs) = (v < 18446744073709551616) × Fit vs

-- a mark's byte is at most 1
pub bit-most : (mark : Bool) → bit mark ≤ 1
bit-most true = omega arith
bit-most false = omega arith

-- and tells the mark
pub bit-one : (mark : Bool) → eqb (bit mark) 1 ≡ mark
bit-one true = refl
bit-one false = refl

-- the kind of a known number has that number, whatever the values
number-by : {k : TokenKind} → Carries k → (v : ℕ) → kindNumber (kindFor (kindNumber k) v) ≡ kindNumber k
unfolding kindFor
number-by (int x) v = refl
number-by (long x) v = refl
number-by (content a e) v = refl
number-by (mark b) v = refl
number-by (nothing k n l b) v = ap kindNumber (b v)

-- the same of a number that is known
pub number-for : {n size : ℕ} → KindLength n size → (v : ℕ) → kindNumber (kindFor n v) ≡ n
number-for (of-kind k) v = number-by (carries k) v

-- two numbers of four bytes, taken out of the one of eight that they make
pub lower : (a e : ℕ) → a < 4294967296 → (a + e * 4294967296) % 4294967296 ≡ a
lower a e h = omega arith

pub upper : (a e : ℕ) → a < 4294967296 → (a + e * 4294967296) / 4294967296 ≡ e
upper a e h = omega arith

-- a string's content, told by its number
str-back : (a e : ℕ) → a < 4294967296 → e < 4294967296 → kindFor 6 (a % 4294967296 + e % 4294967296 * 4294967296) ≡ tk.Str a e
unfolding kindFor
str-back a e h k = rw (mod-eq_of_lt h, mod-eq_of_lt k, lower a e h, upper a e h)

kind-by : {k : TokenKind} → Carries k → Fit (valuesOf k) → kindFor (kindNumber k) (joined (valuesOf k)) ≡ k
unfolding kindFor
kind-by (int v) h = ap tk.IntLit (mod-eq_of_lt h.0)
kind-by (long v) h = refl
kind-by (content a e) h = str-back a e h.0 h.1.0
kind-by (mark b) h = ap tk.Newline (bit-one b)
kind-by (nothing k n l b) h = b (joined (valuesOf k))

-- number and values tell the kind, where the values fit
pub kind-back : (k : TokenKind) → Fit (valuesOf k) → kindFor (kindNumber k) (joined (valuesOf k)) ≡ k
kind-back k h = kind-by (carries k) h
