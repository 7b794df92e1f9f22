-- What the tokens of a reading take of the script, and how many of them are counted by kind; from both the bound on the record bytes.
use Rattle.std.proofs.Common.{ℕ, ◌+◌, ◌≤◌, ◌≡◌, ap, false, cond, List, [], ◌∷◌, length, arith}
use Rattle.token.proofs.theorems.Words.{Text, text-laws, Kind, TokenType, Token, TokenKind, valuesOf, Stands, Piece, Pieces, Valued, Tokens, TokensOf, OnlyLastEof, mostNeed, recordBytes}
use Rattle.token.specs.paper.Records.{countOf, countsOf, isIntLit, isLongLit, isStr, isNewline, tokenCount}
use Rattle.token.specs.declared.kinds.TokenKind.TheVariants as tk
use Rattle.token.proofs.records.Counts.{count-one, exact}
use Rattle.token.proofs.theorems.Shorter.{stands-strict, two-str, two-long}
use Rattle.token.proofs.theorems.Unique.{bare-kind}
use Rattle.token.proofs.theorems.Bounded.{last-eof}
open text-laws use {from-length}

-- how many bytes more than one a token takes at least
abbrev more : TokenKind → ℕ
more k = cond (isLongLit k) 1 0 + cond (isStr k) 1 0

bare-none : (k : TokenKind) → valuesOf k ≡ [] → more k ≡ 0
bare-none (tk.IntLit v) e = cc
bare-none (tk.LongLit v) e = cc
bare-none (tk.Str a b) e = cc
bare-none (tk.Newline mark) e = cc
bare-none _ e = omega arith

token-takes : (s r : Text) {n : ℕ} {x z : Text} {y : TokenType} {k : TokenKind} → Stands (Kind.token y) s r → Valued n x z y k → more k + length r + 1 ≤ length s
token-takes s r {y} {k} h (Valued.bare e) = let a = (stands-strict (Kind.token y) s r h).1 in let b = bare-none k (bare-kind y k e).1 in omega (arith, a, b)
token-takes s r h (Valued.intLit w) = let a = (stands-strict (Kind.token TokenType.intLit) s r h).1 in omega (arith, a)
token-takes s r h (Valued.longLit w) = let a = two-long s r h in omega (arith, a)
token-takes s r h (Valued.prefixed e) = let a = two-str s r h in omega (arith, a)
token-takes s r h (Valued.plain e w) = let a = two-str s r h in omega (arith, a)

abbrev taken : List Token → ℕ
taken ts = tokenCount ts + countOf isLongLit ts + countOf isStr ts

one-taken : (t : Token) (ts : List Token) → taken (t ∷ ts) ≡ 1 + more t.kind + taken ts
one-taken t ts = let a = count-one isLongLit t ts in let b = count-one isStr t ts in omega (arith, a, b)

tokens-spread : {script : List ℕ} {gap ps : List Piece} {ts : List Token} {s : Text} → Pieces (length script) s ps [] → Tokens script gap ps ts → taken ts ≤ length s + 1
tokens-spread Pieces.done (Tokens.eof c) = omega arith
tokens-spread (Pieces.piece {k} {s} {m} w v) (Tokens.skip o x) =
    let i = tokens-spread v x in let a = (stands-strict k s m w).1 in omega (arith, i, a)
tokens-spread (Pieces.piece {k} {s} {m} w v) (Tokens.lineEnd {ts} {p} {mark} q o x) =
    let i = tokens-spread v x in
    let a = (stands-strict k s m w).1 in
    let n = one-taken (record { kind = tk.Newline mark; start = p.start; end = p.end; cut = false }) ts in
    omega (arith, i, a, n)
tokens-spread (Pieces.piece {k} {s} {m} w v) (Tokens.token {ts} {p} {t = y} {k = z} {cut} q u c x) =
    let i = tokens-spread v x in
    let shape : Stands (Kind.token y) s m = rw q at w in
    let a = token-takes s m shape u in
    let n = one-taken (record { kind = z; start = p.start; end = p.end; cut = cut }) ts in
    omega (arith, i, a, n)

pub spread : (script : List ℕ) (ts : List Token) → TokensOf script ts → tokenCount ts + (countsOf ts).long_lits + (countsOf ts).strs ≤ length script + 1
unfolding countsOf
spread script ts h = let a = tokens-spread h.reading h.tokens in let l = from-length script in omega (arith, a, l)

-- ---- Eof is not counted by kind, and no other token twice

abbrev kinds : TokenKind → ℕ
kinds k = cond (isIntLit k) 1 0 + cond (isLongLit k) 1 0 + cond (isStr k) 1 0 + cond (isNewline k) 1 0

one-kind : (k : TokenKind) → kinds k ≤ 1
one-kind (tk.IntLit v) = omega arith
one-kind (tk.LongLit v) = omega arith
one-kind (tk.Str a e) = omega arith
one-kind (tk.Newline mark) = omega arith
one-kind _ = omega arith

abbrev byKind : List Token → ℕ
byKind ts = countOf isIntLit ts + countOf isLongLit ts + countOf isStr ts + countOf isNewline ts

one-counted : (t : Token) (ts : List Token) → byKind (t ∷ ts) ≡ kinds t.kind + byKind ts
one-counted t ts =
    let a = count-one isIntLit t ts in
    let b = count-one isLongLit t ts in
    let c = count-one isStr t ts in
    let d = count-one isNewline t ts in
    omega (arith, a, b, c, d)

fewer : {ts : List Token} → OnlyLastEof ts → byKind ts + 1 ≤ tokenCount ts
fewer (OnlyLastEof.eof {t} e) = let a = one-counted t [] in let k = ap kinds e in omega (arith, a, k)
fewer (OnlyLastEof.other {t} {ts} e h) = let i = fewer h in let a = one-counted t ts in let k = one-kind t.kind in omega (arith, i, a, k)

pub one-kind-each : (script : List ℕ) (ts : List Token) → TokensOf script ts
    → (countsOf ts).int_lits + (countsOf ts).long_lits + (countsOf ts).strs + (countsOf ts).newlines + 1 ≤ tokenCount ts
unfolding countsOf
one-kind-each script ts h = fewer (last-eof script ts h)

-- a script of n bytes needs at most 17 times n plus 13 bytes
pub bound : (script : List ℕ) (ts : List Token) → TokensOf script ts → recordBytes ts ≤ mostNeed (length script)
bound script ts h =
    let e = exact ts in
    let a = spread script ts h in
    let b = one-kind-each script ts h in
    omega (arith, e, a, b)
