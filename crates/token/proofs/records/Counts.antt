-- What is counted token by token is what is counted of the list.
use Rattle.token.proofs.cursor.Words.{◌+◌, ◌≡◌, refl, ap, ◌∙◌, Bool, true, false, cond, List, [], ◌∷◌, arith, Ok, Token, Answer, tokenized, refused, recordLength, recordBytes, countOf, countsOf, isIntLit, isLongLit, isStr, isNewline, exactNeed, values, le4, le8, tokenCount, Counts, Need, counting, needFor, needAfter, withToken, begun, headLength, valueNeed, measuredOf, measuredAfter, TokenKind}
use Rattle.token.specs.declared.kinds.TokenKind.TheVariants as tk

-- one token more is counted by its kind
module _ (c : Counts) where
  ints-one : (k : TokenKind) → (counting c k).int_lits ≡ c.int_lits + cond (isIntLit k) 1 0
  unfolding counting
  ints-one (tk.IntLit v) = omega arith
  ints-one _ = omega arith

  longs-one : (k : TokenKind) → (counting c k).long_lits ≡ c.long_lits + cond (isLongLit k) 1 0
  unfolding counting
  longs-one (tk.LongLit v) = omega arith
  longs-one _ = omega arith

  strs-one : (k : TokenKind) → (counting c k).strs ≡ c.strs + cond (isStr k) 1 0
  unfolding counting
  strs-one (tk.Str a e) = omega arith
  strs-one _ = omega arith

  lines-one : (k : TokenKind) → (counting c k).newlines ≡ c.newlines + cond (isNewline k) 1 0
  unfolding counting
  lines-one (tk.Newline mark) = omega arith
  lines-one _ = omega arith

pub count-one : (p : TokenKind → Bool) (t : Token) (ts : List Token) → countOf p (t ∷ ts) ≡ cond (p t.kind) 1 0 + countOf p ts
count-one p t ts = by (p t.kind) refl
  where
    by : (b : Bool) → p t.kind ≡ b → countOf p (t ∷ ts) ≡ cond b 1 0 + countOf p ts
    by true e = rw e (omega arith)
    by false e = rw e (omega arith)

-- what is needed with the tokens of a list behind what was needed before
abbrev behind : Need → List Token → Need
behind n ts =
    record {
      tokens = n.tokens + tokenCount ts;
      bytes = n.bytes + recordBytes ts;
      counts = record {
        int_lits = n.counts.int_lits + countOf isIntLit ts;
        long_lits = n.counts.long_lits + countOf isLongLit ts;
        strs = n.counts.strs + countOf isStr ts;
        newlines = n.counts.newlines + countOf isNewline ts;
      };
    }

need-behind : (n : Need) (ts : List Token) → needAfter n ts ≡ behind n ts
unfolding needAfter recordBytes
need-behind n [] = grind arith
need-behind n (t ∷ ts) =
    let e = need-behind (withToken n t) ts in
    let a = ints-one n.counts t.kind in
    let b = longs-one n.counts t.kind in
    let c = strs-one n.counts t.kind in
    let d = lines-one n.counts t.kind in
    let f = count-one isIntLit t ts in
    let g = count-one isLongLit t ts in
    let h = count-one isStr t ts in
    let i = count-one isNewline t ts in
    e ∙ grind arith

need-for : (ts : List Token) → needAfter begun.need ts ≡ needFor ts
unfolding countsOf
need-for ts = need-behind _ ts ∙ grind arith

pub measured-of : (w : Answer) → measuredAfter begun.need w ≡ measuredOf w
unfolding measuredAfter measuredOf
measured-of (tokenized ts) = ap (λ n. Ok n) (need-for ts)
measured-of (refused j a) = refl

-- ---- the exact need

-- a record's length by its kind
length-by-kind : (k : TokenKind) → recordLength k ≡ exactNeed 1 (record {
  int_lits = cond (isIntLit k) 1 0;
  long_lits = cond (isLongLit k) 1 0;
  strs = cond (isStr k) 1 0;
  newlines = cond (isNewline k) 1 0;
})
unfolding recordLength values le4 le8
length-by-kind (tk.IntLit v) = omega arith
length-by-kind (tk.LongLit v) = omega arith
length-by-kind (tk.Str a e) = omega arith
length-by-kind (tk.Newline mark) = omega arith
length-by-kind _ = omega arith

-- one token more: its length is a head and what its values add
pub length-counted : (c : Counts) (k : TokenKind) → headLength + valueNeed (counting c k) ≡ recordLength k + valueNeed c
length-counted c k =
    let l = length-by-kind k in
    let a = ints-one c k in
    let b = longs-one c k in
    let d = strs-one c k in
    let e = lines-one c k in
    omega (arith, l, a, b, d, e)

pub exact : (ts : List Token) → recordBytes ts ≡ exactNeed (tokenCount ts) (countsOf ts)
unfolding recordBytes countsOf
exact [] = omega arith
exact (t ∷ ts) =
    let i = exact ts in
    let l = length-by-kind t.kind in
    let f = count-one isIntLit t ts in
    let g = count-one isLongLit t ts in
    let h = count-one isStr t ts in
    let n = count-one isNewline t ts in
    omega (arith, i, l, f, g, h, n)
