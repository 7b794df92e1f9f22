-- The numbers of a reading's tokens: places lie within the script, values keep their limits, a string's content lies within its token. So every
-- record holds its token's numbers, and they are read back (`token-back`). The tokens stand in order (`in-order`), and Eof is the last and no
-- other (`last-eof`). A refusal's place lies within the script too. `listing_text` cites `all-bounded`, `storable`, `token-back` and
-- `refused-within`, for the lines of records and of refusals. A reader of stored rolls relies on the order and the last Eof too.
use Rattle.std.proofs.Common.{ℕ, zero, suc, ◌-◌, ◌^◌, ◌≤◌, ◌<◌, ◌≡◌, refl, sym, ◌∙◌, ap, Bool, true, false, inl, inr, List, [], ◌∷◌, ◌++◌, length, take-append-drop, ltb, arith, ltb-true, ltb-false}
use Rattle.token.proofs.theorems.Words.{Option, none, some, Text, from, place, Suffix, ScriptText, text-laws, Kind, TokenType, withoutValues, kindNumber, Token, both, textOf, limit, TokenShape, HasShape, Stands, Piece, Pieces, LastDropped, Content, Valued, Tokens, TokensOf, OnlyLastEof, Opens, InSingle, InTriple, Met, Refused, bit, valuesOf, values, headLength, mostBytes, recordLength, recordOf, TokenKind, by-test}
use Rattle.chars.specs.code.Text.{charEnd}
use Rattle.words.specs.Words.{le4, le8}
use Rattle.token.specs.code.Form.{joined, formOf, heldAt, Storable}
use Rattle.token.specs.declared.kinds.Kw.TheVariants as kw
use Rattle.token.specs.declared.kinds.TokenKind.TheVariants as tk
use Rattle.token.proofs.form.Laws.{form-known, form-record}
use Rattle.token.proofs.form.ReadBack.{read-back}
use Rattle.token.proofs.theorems.Runs.{run-suffix}
use Rattle.token.proofs.theorems.Numbers.{one-value}
use Rattle.token.proofs.theorems.Shorter.{one-strict, times-suffix, escape-suffix, prefix-strict, stands-strict, bad-strict}
use Rattle.token.proofs.theorems.Mets.{within-suffix}
open text-laws use {at-char, at-end, next-on, place-from, suffix-refl, suffix-trans, text-suffix, text-place}

-- ---- places

-- no character's place is past the next one's, and the last one's is not past e
abbrev Rising : ℕ → Text → Type 0
Rising e [] = Unit {0}
Rising e (c ∷ t) = (c.at ≤ place e t) × Rising e t

-- the text from a place on is rising: a character ends further on, and there the next one starts
from-rising : (script : List ℕ) (n i : ℕ) → length script - i ≤ n → Rising (length script) (from script i)
from-rising script zero i h = rw (at-end script i (omega arith)) tt
from-rising script (suc n) i h =
    by-test (ltb i (length script)) (λ e.
    let l = ltb-true i (length script) e in
    let o = next-on script i l in
    let p = place-from script (charEnd script i) o.1 in
    rw (at-char script i l) (omega arith, from-rising script n (charEnd script i) (omega arith)))
    (λ e. rw (at-end script i (ltb-false i (length script) e)) tt)

script-rising : (script : List ℕ) → Rising (length script) (from script 0)
script-rising script = from-rising script (length script) 0 (omega arith)

place-front : (n : ℕ) (u r : Text) → place n (u ++ r) ≡ place (place n r) u
place-front n [] r = refl
place-front n (c ∷ u) r = refl

rising-front : (n : ℕ) (u r : Text) → Rising n (u ++ r) → Rising (place n r) u
rising-front n [] r h = tt
rising-front n (c ∷ u) r h = (rw (← place-front n u r) h.0, rising-front n u r h.1)

rising-back : (n : ℕ) (u r : Text) → Rising n (u ++ r) → Rising n r
rising-back n [] r h = h
rising-back n (c ∷ u) r h = rising-back n u r h.1

rising-most : (n : ℕ) (s : Text) → Rising n s → place n s ≤ n
rising-most n [] h = omega arith
rising-most n (c ∷ s) h = let a = h.0 in let b = rising-most n s h.1 in omega arith

-- a text is the text up to a suffix, and the suffix
split : {r s : Text} → Suffix r s → textOf s r ++ r ≡ s
split {r} {s} k = ap (λ t. textOf s r ++ t) k.rest-is ∙ take-append-drop (length s - length r) s

module _ (n : ℕ) (s r : Text) (h : Rising n s) (k : Suffix r s) where
  between : Rising (place n r) (textOf s r)
  between = rising-front n (textOf s r) r (rw (split k) h)

  behind : Rising n r
  behind = rising-back n (textOf s r) r (rw (split k) h)

  startOf : place (place n r) (textOf s r) ≡ place n s
  startOf = sym (place-front n (textOf s r) r) ∙ ap (place n) (split k)

  -- a suffix starts not before its text, and not past the end
  order : (place n s ≤ place n r) × (place n r ≤ n)
  order = let a = rising-most (place n r) (textOf s r) between in let e = startOf in let b = rising-most n r behind in (omega arith, b)

-- what is left where a last quote is dropped, or kept
dropped-order : {t m : Text} {e f : ℕ} → LastDropped t e m f → Rising e t → (place e t ≤ place f m) × (f ≤ e) × Rising f m
dropped-order {t} {e = e} (LastDropped.dropped m d s q) h =
    let k : Rising e (m ++ (d ∷ [])) = rw s at h in
    let p : place e t ≡ place d.at m = ap (place e) s ∙ place-front e m (d ∷ []) in
    (omega arith, rising-most e (d ∷ []) (rising-back e m (d ∷ []) k), rising-front e m (d ∷ []) k)
dropped-order (LastDropped.kept q) h = (omega arith, omega arith, h)

-- a string's content lies within its text
content-order : {t : Text} {e a b : ℕ} → Content t e a b → Rising e t → (place e t ≤ a) × (a ≤ b) × (b ≤ e)
content-order {t} {e} (Content.unquoted q p) h = let l = rising-most e t h in (omega arith, omega arith, omega arith)
content-order (Content.quoted q d w) h =
    let i = dropped-order d h.1 in
    let o = content-order w i.2 in
    (omega (arith, h.0, i.0, o.0), o.1, omega (arith, i.1, o.2))

-- ---- tokens

-- the values of a token from a to e: a number's limit; a string's content, not before a and not past e
abbrev pub ValuesWithin : ℕ → ℕ → TokenKind → Type 0
ValuesWithin a e (tk.IntLit v) = v ≤ limit false
ValuesWithin a e (tk.LongLit v) = v ≤ limit true
ValuesWithin a e (tk.Str b c) = (a ≤ b) × (b ≤ c) × (c ≤ e)
ValuesWithin a e _ = Unit {0}

-- a token of a script of n bytes
pub record Bounded (n : ℕ) (t : Token) : Type 0 where
  pub start : t.start ≤ t.end
  pub end : t.end ≤ n
  pub values : ValuesWithin t.start t.end t.kind

abbrev pub AllBounded : ℕ → List Token → Type 0
AllBounded n [] = Unit {0}
AllBounded n (t ∷ ts) = Bounded n t × AllBounded n ts

-- each token starts not before the end of the one before it, the first not before p
abbrev pub InOrder : ℕ → List Token → Type 0
InOrder p [] = Unit {0}
InOrder p (t ∷ ts) = (p ≤ t.start) × InOrder t.end ts

-- a kind that carries nothing
abbrev ValuesWithinIf : ℕ → ℕ → Option TokenKind → Type 0
ValuesWithinIf a e none = Unit {0}
ValuesWithinIf a e (some k) = ValuesWithin a e k

bare-within : (a e : ℕ) (y : TokenType) → ValuesWithinIf a e (withoutValues y)
bare-within a e TokenType.ident = tt
bare-within a e _ = tt

valued-within : {n : ℕ} {s r : Text} {y : TokenType} {k : TokenKind} → Rising n s → Stands (Kind.token y) s r → Valued n s r y k
    → ValuesWithin (place n s) (place n r) k
unfolding Stands HasShape TokenShape
valued-within h w (Valued.intLit x) = let k = w.0 in rw (one-value false x k.1) k.2
valued-within h w (Valued.longLit x) = let k = w.0 in rw (one-value true x k.1) k.2
valued-within {n} {s} {r} h w (Valued.prefixed q) =
    let o = order n s r h (stands-strict (Kind.token TokenType.str) s r w).0 in
    (omega arith, o.0, omega arith)
valued-within {n} {s} {r} h w (Valued.plain q c) =
    let k = (stands-strict (Kind.token TokenType.str) s r w).0 in
    let o = content-order c (between n s r h k) in
    (omega (arith, o.0, startOf n s r h k), o.1, o.2)
valued-within {n} {s} {r} h w (Valued.bare {t} e) = rw e at (bare-within (place n s) (place n r) t)

-- no token of a piece is Eof
bare-other : (y : TokenType) → withoutValues y ≡ some tk.Eof → ⊥
bare-other TokenType.ident e = cc
bare-other _ e = cc

valued-other : {n : ℕ} {s r : Text} {y : TokenType} {k : TokenKind} → Valued n s r y k → k ≡ tk.Eof → ⊥
valued-other (Valued.bare {t} w) e = bare-other t (rw e at w)
valued-other _ e = cc

module _ (script : List ℕ) where
  -- from a text at p or past it on the tokens are bounded, and stand in order
  tokens-within : {ps : List Piece} {ts : List Token} {s r : Text} {gap : List Piece} (p : ℕ) → p ≤ place (length script) s → ScriptText script s
      → Rising (length script) s → Pieces (length script) s ps r → Tokens script gap ps ts → AllBounded (length script) ts × InOrder p ts
  tokens-within {s = s} p l t h Pieces.done (Tokens.eof c) =
      let a = rising-most (length script) s h in ((record { start = omega arith; end = omega arith; values = tt }, tt), (omega arith, tt))
  tokens-within p l t h (Pieces.piece {k} {s} {m} w v) (Tokens.skip o x) =
      let z = (stands-strict k s m w).0 in
      let a = order (length script) s m h z in
      tokens-within p (omega arith) (text-suffix script m s z t) (behind (length script) s m h z) v x
  tokens-within p l t h (Pieces.piece {k} {s} {m} w v) (Tokens.lineEnd q o x) =
      let z = (stands-strict k s m w).0 in
      let a = order (length script) s m h z in
      let i = tokens-within (place (length script) m) (omega arith) (text-suffix script m s z t) (behind (length script) s m h z) v x in
      ((record { start = a.0; end = a.1; values = tt }, i.0), (l, i.1))
  tokens-within p l t h (Pieces.piece {k} {s} {m} w v) (Tokens.token {t = y} {k = n} q u c x) =
      let z = (stands-strict k s m w).0 in
      let a = order (length script) s m h z in
      let f = text-suffix script m s z t in
      let i = tokens-within (place (length script) m) (omega arith) f (behind (length script) s m h z) v x in
      let shape : Stands (Kind.token y) s m = rw q at w in
      let value : Valued (length script) s m y n = rw (text-place script s t, text-place script m f) at u in
      ((record { start = a.0; end = a.1; values = valued-within h shape value }, i.0), (l, i.1))

  pub all-bounded : (ts : List Token) → TokensOf script ts → AllBounded (length script) ts
  all-bounded ts h = (tokens-within 0 (omega arith) (0, refl) (script-rising script) h.reading h.tokens).0

  pub in-order : (ts : List Token) → TokensOf script ts → InOrder 0 ts
  in-order ts h = (tokens-within 0 (omega arith) (0, refl) (script-rising script) h.reading h.tokens).1

  -- whatever the gap, the tokens end with their one Eof
  tokens-last : {gap ps : List Piece} {ts : List Token} → Tokens script gap ps ts → OnlyLastEof ts
  tokens-last (Tokens.eof c) = OnlyLastEof.eof refl
  tokens-last (Tokens.skip o x) = tokens-last x
  tokens-last (Tokens.lineEnd q o x) = OnlyLastEof.other (λ e. cc) (tokens-last x)
  tokens-last (Tokens.token q u c x) = OnlyLastEof.other (valued-other u) (tokens-last x)

  pub last-eof : (ts : List Token) → TokensOf script ts → OnlyLastEof ts
  last-eof ts h = tokens-last h.tokens

-- ---- records

-- a kind's number fits two bytes, and its values as many as they have
kind-fits : (a e : ℕ) (k : TokenKind) → ValuesWithin a e k → (kindNumber k < 65536) × (joined (valuesOf k) < 256 ^ (recordLength k - headLength))
unfolding recordLength values le4 le8
kind-fits a e (tk.Newline true) h = (omega arith, omega arith)
kind-fits a e (tk.Kw kw.Case) h = (omega arith, omega arith)
kind-fits a e _ h = (omega arith, omega arith)

module _ (n : ℕ) (short : n ≤ mostBytes) (t : Token) (h : Bounded n t) where
  pub storable : Storable (formOf t.kind) t.start t.end
  unfolding formOf
  storable =
      let k = kind-fits t.start t.end t.kind h.values in
      record { known = form-known t.kind; number = k.0; values = k.1; start = omega arith; end = omega arith }

  -- a stored token, whatever follows its record, is read as it was
  pub token-back : (rest : List ℕ)
      → heldAt (recordOf t ++ rest) 0
      ≡ record { number = kindNumber t.kind; length = recordLength t.kind; values = joined (valuesOf t.kind); start = t.start; end = t.end; cut = bit t.cut }
  unfolding formOf
  token-back rest =
      ap (λ b. heldAt (b ++ rest) 0) (sym (form-record t)) ∙ read-back (formOf t.kind) t.start t.end t.cut rest storable

-- ---- refusals

opens-suffix : (p : Bool) {s o : Text} → Opens p s o → Suffix o s
opens-suffix true {s} {o} h = (prefix-strict s o h.0).0
opens-suffix false {s} {o} h = rw h.0 (suffix-refl o)

single-in : (p : Bool) {s q : Text} → InSingle p s q → Suffix q s
single-in p (o, h, e, both a w) = suffix-trans (suffix-trans (within-suffix w) (one-strict a).0) (opens-suffix p h)

triple-in : (p : Bool) {s q : Text} → InTriple p s q → Suffix q s
triple-in p (o, h, e, both a w) = suffix-trans (suffix-trans (run-suffix _ w) (times-suffix a)) (opens-suffix p h)

met-suffix : {s q : Text} {j : ℕ} → Met s j q → Suffix q s
met-suffix (Met.m7 p a) = single-in p a
met-suffix (Met.m8 p a b) = single-in p a
met-suffix (Met.m9 p a) = triple-in p a
met-suffix (Met.m10 p a b) = triple-in p a
met-suffix (Met.m11 (inl a) b) = single-in true a
met-suffix (Met.m11 (inr a) b) = triple-in true a
met-suffix (Met.m12 (inl a, b) e) = suffix-trans (bad-strict e).0 (single-in false a)
met-suffix (Met.m12 (inr a, b) e) = suffix-trans (bad-strict e).0 (one-strict a).0
met-suffix (Met.m15 (both a e) b) = suffix-trans (escape-suffix e) (one-strict a).0
met-suffix (Met.m16 a b d e) = (one-strict a).0
met-suffix _ = suffix-refl _

pieces-suffix : {n : ℕ} {s r : Text} {ps : List Piece} → Pieces n s ps r → Suffix r s
pieces-suffix Pieces.done = suffix-refl _
pieces-suffix (Pieces.piece {k} {s} {m} w v) = suffix-trans (pieces-suffix v) (stands-strict k s m w).0

pub refused-within : (script : List ℕ) (j a : ℕ) → Refused script j a → a ≤ length script
refused-within script j a h =
    let k = suffix-trans (met-suffix h.first.met) (pieces-suffix h.up) in
    omega (arith, (order (length script) (from script 0) h.rest (script-rising script) k).1, h.place-is)
