-- Every shape begins with a start.
use Rattle.std.proofs.Common.{ℕ, ◌≡◌, refl, sym, ◌∙◌, true, false, inl, inr, List, [], ◌∷◌}
use Rattle.token.proofs.theorems.Words.{or-true, codes, Char, Text, clash, slash-sign, isAny, begins, startsWith, opSign, freeSign, Kind, TokenType, One, both, TokenShape, HasShape, StartsShape, Met, starts, code-is, false_from_ne_true, member, headIs, oneOf, begun-is}
use Rattle.token.proofs.theorems.Families.{run1-found, one-found, line-found, block-found, text-found, ident-found, body-found, backtick-found, char-sym-found, free-sign}

pub by-sign : (s : Text) → opSign s ≡ true → starts s ≡ true
by-sign s e = rw (e, or-true)

-- a comment begins with an operator sign
pub slash : (t : List ℕ) (s : Text) → startsWith (47 ∷ t) s ≡ true → opSign s ≡ true
slash t [] e = clash e
slash t (c ∷ s) e = rw (begun-is 47 c.code _ e) slash-sign

single-starts : (x : ℕ) (s r : Text) → One (headIs (member (x ∷ []))) s r → oneOf "()[]{},;." x ≡ true → starts s ≡ true
single-starts x s r (One.one {c} e) i = rw (code-is x c.code e, i, or-true)

token-starts : (y : TokenType) (s r : Text) → TokenShape y s r → starts s ≡ true
unfolding TokenShape
token-starts TokenType.ident s r h = rw ((ident-found s r h.0.0).0, or-true)
token-starts TokenType.opId s r h = by-sign s (free-sign s (run1-found freeSign h.0).0)
token-starts TokenType.backtickId s r h = rw ((backtick-found s r h.0).0, or-true)
token-starts TokenType.intLit s r h = rw ((text-found false s r h.1).0, or-true)
token-starts TokenType.longLit s r h = rw ((text-found true s r h.1).0, or-true)
token-starts TokenType.str s r (inl b) = rw ((body-found false s r b).0, or-true)
token-starts TokenType.str s r (inr (both {m} (inl h) b)) = rw ((ident-found s m h.0).0, or-true)
token-starts TokenType.str s r (inr (both {m} (inr h) b)) = rw ((backtick-found s m h).0, or-true)
token-starts TokenType.charSym s r h = rw ((char-sym-found s r h).0, or-true)
token-starts (TokenType.key k) s r (inl h) = rw ((ident-found s r h.0).0, or-true)
token-starts (TokenType.key k) s r (inr h) = by-sign s (free-sign s (run1-found freeSign h.0).0)
token-starts _ s r h = single-starts _ s r h refl

pub shape-starts : (k : Kind) (s r : Text) → HasShape k s r → starts s ≡ true
unfolding HasShape begins
shape-starts Kind.blank s r h = rw (one-found (isAny " \t") s r h).0
shape-starts Kind.lineEnd s r (inl o) = rw ((one-found (isAny "\n") s r o).0, or-true)
shape-starts Kind.lineEnd s r (inr (both {m} a b)) = rw ((one-found (isAny "\r") s m a).0, or-true)
shape-starts Kind.lineComment s r h = by-sign s (slash (codes "/") s (line-found s r h).0)
shape-starts Kind.blockComment s r h = by-sign s (slash (codes "*") s (block-found s r h).0)
shape-starts (Kind.token y) s r h = token-starts y s r h

-- ---- as declared: with what is no start no shape starts

-- the test is one of the first character's code
pub declared-starts : (c : Char) (s : Text) → StartsShape c.code → starts (c ∷ s) ≡ true
unfolding begins
declared-starts c s (StartsShape.shape k d t r e h) =
    let q : starts (d ∷ t) ≡ starts (c ∷ s) = rw e in sym q ∙ shape-starts k (d ∷ t) r h

pub no-start-met : (c : Char) (s : Text) → starts (c ∷ s) ≡ false → Met (c ∷ s) 3 (c ∷ s)
no-start-met c s e =
    Met.m3 refl (false_from_ne_true (isAny "\r" (c ∷ s)) (λ q. clash (sym e ∙ rw (q, or-true)))) (λ h. clash (sym e ∙ declared-starts c s h))
