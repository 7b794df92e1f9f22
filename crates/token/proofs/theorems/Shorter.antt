-- Every piece takes at least one character, and what follows it is the script's own text.
use Rattle.std.proofs.Common.{ℕ, suc, ◌≤◌, ◌<◌, ◌+◌, Bool, true, false, inl, inr, length, arith}
use Rattle.token.proofs.theorems.Words.{Text, Suffix, text-laws, quote, digit, hexDigit, freeSign, notBacktick, Kind, TokenType, One, Run1, Times, UpTo, ◌then◌, both, Block, Item, Items, Digits, NumberText, Ident, Backtick, Escape, Single, Body, Prefix, TokenShape, HasShape, Stands, BadEscape}
use Rattle.token.proofs.theorems.Runs.{run-suffix}
use Rattle.token.proofs.theorems.Idents.{rest-suffix}
open text-laws use {drop-suffix, suffix-refl, suffix-cons, suffix-trans}

-- a proper suffix
abbrev pub Strict : Text → Text → Type 0
Strict r s = Suffix r s × (length r < length s)

pub strict-then : {r m s : Text} → Strict m s → Suffix r m → Strict r s
strict-then h k = let a = k.within in let b = h.1 in (suffix-trans k h.0, omega arith)

pub one-strict : {p : Text → Bool} {s r : Text} → One p s r → Strict r s
one-strict (One.one {c} {s} e) = (suffix-cons c (suffix-refl s), omega arith)

run1-strict : (p : Text → Bool) {s r : Text} → Run1 p s r → Strict r s
run1-strict p (Run1.run {c} {s} e w) = let h = run-suffix p w in let a = h.within in (suffix-cons c h, omega arith)

pub times-suffix : {p : Text → Bool} {n : ℕ} {s r : Text} → Times p n s r → Suffix r s
times-suffix Times.done = suffix-refl _
times-suffix (Times.more {c} e w) = suffix-cons c (times-suffix w)

times-strict : {p : Text → Bool} (n : ℕ) {s r : Text} → Times p (suc n) s r → Strict r s
times-strict n (Times.more {c} e w) = let h = times-suffix w in let a = h.within in (suffix-cons c h, omega arith)

upto-suffix : {p : Text → Bool} {n : ℕ} {s r : Text} → UpTo p n s r → Suffix r s
upto-suffix UpTo.full = suffix-refl _
upto-suffix (UpTo.fewer e) = suffix-refl _
upto-suffix (UpTo.more {c} e w) = suffix-cons c (upto-suffix w)

pair-strict : {p q : Text → Bool} {s r : Text} → (One p then One q) s r → Strict r s
pair-strict (both a b) = strict-then (one-strict a) (one-strict b).0

mutual
  block-strict : {s r : Text} → Block s r → Strict r s
  block-strict (Block.block o i k) = strict-then (pair-strict o) (suffix-trans (pair-strict k).0 (items-suffix i))

  item-suffix : {s r : Text} → Item s r → Suffix r s
  item-suffix (Item.comment b) = (block-strict b).0
  item-suffix (Item.char {c} {s} o k) = suffix-cons c (suffix-refl s)

  items-suffix : {s r : Text} → Items s r → Suffix r s
  items-suffix Items.done = suffix-refl _
  items-suffix (Items.item i w) = suffix-trans (items-suffix w) (item-suffix i)

pub escape-suffix : {s r : Text} → Escape s r → Suffix r s
escape-suffix (Escape.simple (both a b)) = suffix-trans (one-strict b).0 (one-strict a).0
escape-suffix (Escape.digits (both a (both b w))) = suffix-trans (upto-suffix w) (suffix-trans (one-strict b).0 (one-strict a).0)
escape-suffix (Escape.hexes (both a (both b w))) = suffix-trans (times-suffix w) (suffix-trans (one-strict b).0 (one-strict a).0)

pub bad-strict : {b q : Text} {j : ℕ} → BadEscape b j q → Strict q b
bad-strict (BadEscape.e12 o) = one-strict o
bad-strict (BadEscape.e13 n l (both a (both b w)) z) = strict-then (one-strict a) (suffix-trans (times-suffix w) (one-strict b).0)
bad-strict (BadEscape.e14 o z) = one-strict o

pub single-suffix : {p : Bool} {s r : Text} → Single p s r → Suffix r s
single-suffix Single.done = suffix-refl _
single-suffix (Single.char {c} e w) = suffix-cons c (single-suffix w)
single-suffix (Single.escape e w) = suffix-trans (single-suffix w) (escape-suffix e)

body-strict : (p : Bool) {s r : Text} → Body p s r → Strict r s
body-strict p (Body.single e (both a (both w b))) = strict-then (one-strict a) (suffix-trans (one-strict b).0 (single-suffix w))
body-strict p (Body.triple e (both a (both w (both b l)))) =
    strict-then (times-strict 2 a) (suffix-trans (suffix-trans (run-suffix quote l.0) (times-suffix b)) (run-suffix _ w))

ident-strict : (s r : Text) → Ident s r → Strict r s
ident-strict s r (both {m} o w, l) = strict-then (one-strict o) (rest-suffix m r w)

backtick-strict : (s r : Text) → Backtick s r → Strict r s
backtick-strict s r (both a (both w b)) = strict-then (one-strict a) (suffix-trans (one-strict b).0 (run1-strict notBacktick w).0)

digits-strict : {v : ℕ} {s r : Text} → Digits v s r → Strict r s
digits-strict (Digits.hex {s} e h) =
    let d = drop-suffix 2 s in let k = run1-strict hexDigit h.0 in (suffix-trans k.0 d, omega (arith, d.within, k.1))
digits-strict (Digits.dec e h) = run1-strict digit h.0

number-strict : (long : Bool) {v : ℕ} (s r : Text) → NumberText long v s r → Strict r s
number-strict true s r (both d o) = strict-then (digits-strict d) (one-strict o).0
number-strict false s r (both {m} d o) = rw (← o.0) (digits-strict d)

pub prefix-strict : (s r : Text) → Prefix s r → Strict r s
prefix-strict s r (inl h) = ident-strict s r h.0
prefix-strict s r (inr h) = backtick-strict s r h

token-strict : (y : TokenType) (s r : Text) → TokenShape y s r → Strict r s
unfolding TokenShape
token-strict TokenType.ident s r h = ident-strict s r h.0.0
token-strict TokenType.opId s r h = run1-strict freeSign h.0.0
token-strict TokenType.backtickId s r h = backtick-strict s r h.0
token-strict TokenType.intLit s r h = number-strict false s r h.1
token-strict TokenType.longLit s r h = number-strict true s r h.1
token-strict TokenType.str s r (inl b) = body-strict false b
token-strict TokenType.str s r (inr (both {m} p b)) = strict-then (prefix-strict s m p) (body-strict true b).0
token-strict TokenType.charSym s r (inl (inl (both a (both e b)))) = strict-then (one-strict a) (suffix-trans (one-strict b).0 (escape-suffix e))
token-strict TokenType.charSym s r (inl (inr (both a (both e b)))) = strict-then (one-strict a) (suffix-trans (one-strict b).0 (one-strict e).0)
token-strict TokenType.charSym s r (inr (both {m} o (inl h), nc, k)) = strict-then (one-strict o) (ident-strict m r h).0
token-strict TokenType.charSym s r (inr (both o (inr (inl h)), nc, k)) = strict-then (one-strict o) (run1-strict freeSign h.0).0
token-strict TokenType.charSym s r (inr (both o (inr (inr h)), nc, k)) = strict-then (one-strict o) (one-strict h.0).0
token-strict (TokenType.key k) s r (inl h) = ident-strict s r h.0
token-strict (TokenType.key k) s r (inr h) = run1-strict freeSign h.0.0
token-strict _ s r h = one-strict h

pub stands-strict : (k : Kind) (s r : Text) → Stands k s r → Strict r s
unfolding Stands HasShape
stands-strict Kind.blank s r (h, z) = one-strict h
stands-strict Kind.lineEnd s r (inl h, z) = one-strict h
stands-strict Kind.lineEnd s r (inr h, z) = pair-strict h
stands-strict Kind.lineComment s r ((both a w, h), z) = strict-then (times-strict 1 a) (run-suffix _ w)
stands-strict Kind.blockComment s r (h, z) = block-strict h
stands-strict (Kind.token y) s r (h, z) = token-strict y s r h

-- a LongLit and a string take at least two
body-two : (p : Bool) {s r : Text} → Body p s r → length r + 2 ≤ length s
body-two p (Body.single e (both a (both w b))) = let x = (one-strict a).1 in let y = (one-strict b).1 in let z = (single-suffix w).within in omega arith
body-two p (Body.triple e (both a (both w (both b l)))) =
    let x = (times-strict 2 a).1 in
    let y = (times-strict 2 b).1 in
    let z = (run-suffix _ w).within in
    let v = (run-suffix quote l.0).within in
    omega arith

pub two-str : (s r : Text) → Stands (Kind.token TokenType.str) s r → length r + 2 ≤ length s
unfolding Stands HasShape TokenShape
two-str s r (inl b, z) = body-two false b
two-str s r (inr (both {m} p b), z) = let x = (prefix-strict s m p).1 in let y = (body-strict true b).1 in omega arith

pub two-long : (s r : Text) → Stands (Kind.token TokenType.longLit) s r → length r + 2 ≤ length s
unfolding Stands HasShape TokenShape
two-long s r ((v, both d o, l), z) = let x = (digits-strict d).1 in let y = (one-strict o).1 in omega arith
