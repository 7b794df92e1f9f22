-- One piece: what stands is what the scanner finds. So one piece at most stands at a start.
use Rattle.std.proofs.Common.{ℕ, ◌≡◌, refl, sym, ◌∙◌, ap, true, false, inl, inr, [], ◌∷◌}
use Rattle.token.proofs.theorems.Words.{some, member, oneOf, Text, headIs, clash, isAny, begins, opensComment, Kind, TokenType, withoutValues, One, both, TokenShape, HasShape, Stands, Valued, GapKind, Found, Start, signOf, scanReturn, scan, scanString, plainOf, code-is, false_from_ne_true, startOf, scanAs, TokenKind}
use Rattle.token.specs.declared.kinds.TokenKind.TheVariants as tk
use Rattle.token.proofs.theorems.Families.{one-found, number-found, op-id-found, run-key-found, free-sign, plain-ident-found, word-key-found, char-sym-found, body-found, ident-string-found, backtick-found, prefixed-found, or-token, start-no-quote, tick-no-quote, content-is, line-found, block-found}
use Rattle.token.proofs.theorems.Dispatch.{Clear, clear, Hit, scan-by, starts-line, starts-block, starts-blank, starts-lf, starts-cr, starts-sign, starts-number, starts-word, starts-operator, starts-backtick, starts-string, starts-tick}

-- no comment opens where a piece that is no comment stands
clear-of : (s : Text) → (opensComment s ≡ true → false ≡ true) → Clear s
clear-of s h = clear s (false_from_ne_true (opensComment s) (λ e. clash (h e)))

by-start : (n : ℕ) {s r : Text} {x : Start} {y : TokenType} {t : TokenKind} → startOf s ≡ x → scanAs n x s ≡ Found.token t r → Valued n s r y t
    → Hit n s r (scan n s) (Kind.token y)
by-start n {s} {x = x} e f v = Hit.token (scan-by n s x e ∙ f) v

-- a single sign, by its code
sign-hit : (n x : ℕ) (y : TokenType) (s r : Text) → Clear s → One (headIs (member (x ∷ []))) s r → oneOf "()[]{},;." x ≡ true
    → withoutValues y ≡ some (signOf (record { code = x; at = 0 } ∷ [])) → Hit n s r (scan n s) (Kind.token y)
unfolding signOf
sign-hit n x y s r z (One.one {c} e) i v =
    let q = code-is x c.code e in
    let w : withoutValues y ≡ some (signOf s) = rw q v in
    Hit.token (scan-by n s Start.sign (starts-sign s z (rw q i))) (Valued.bare w)

-- a token that stands where no comment opens is what the scanner finds, with its values
token-hits : (n : ℕ) (y : TokenType) (s r : Text) → Clear s → TokenShape y s r → Hit n s r (scan n s) (Kind.token y)
unfolding TokenShape signOf scanString
token-hits n TokenType.ident s r z h = let q = plain-ident-found n s r h in by-start n (starts-word s z q.0) q.1 (Valued.bare refl)
token-hits n TokenType.opId s r z h = let q = op-id-found s r h in by-start n (starts-operator s z (free-sign s q.0)) q.1 (Valued.bare refl)
token-hits n TokenType.backtickId s r z h =
    let q = backtick-found s r h.0 in
    by-start n (starts-backtick s z q.0) (q.1 n ∙ or-token n tk.BacktickId s r h.1) (Valued.bare refl)
token-hits n TokenType.intLit s r z h = let q = number-found false s r h in by-start n (starts-number s z q.0) q.1 (Valued.intLit h.1)
token-hits n TokenType.longLit s r z h = let q = number-found true s r h in by-start n (starts-number s z q.0) q.1 (Valued.longLit h.1)
token-hits n TokenType.str s r z (inl b) =
    let h = body-found false s r b in
    let c = content-is n s r in
    by-start n (starts-string s z h.0) (ap (plainOf n s) h.1 ∙ ap (λ k. Found.token k r) c.2) (Valued.plain h.0 c.3)
token-hits n TokenType.str s r z (inr (both {m} (inl h) b)) =
    let q = ident-string-found n s m r h b in by-start n (starts-word s z q.0) q.1 (Valued.prefixed (start-no-quote s q.0))
token-hits n TokenType.str s r z (inr (both {m} (inr h) b)) =
    let q = backtick-found s m h in
    by-start n (starts-backtick s z q.0) (q.1 n ∙ prefixed-found n tk.BacktickId s m r b) (Valued.prefixed (tick-no-quote s q.0))
token-hits n TokenType.charSym s r z h = let q = char-sym-found s r h in by-start n (starts-tick s z q.0) q.1 (Valued.bare refl)
token-hits n (TokenType.key k) s r z (inl (w, e)) =
    let q = word-key-found n s r k w e in by-start n (starts-word s z q.0) q.1 (Valued.bare refl)
token-hits n (TokenType.key k) s r z (inr (w, e, f)) =
    let q = run-key-found s r k w e f in by-start n (starts-operator s z (free-sign s q.0)) q.1 (Valued.bare refl)
token-hits n y s r z h = sign-hit n _ y s r z h refl refl

-- what stands is what the scanner finds, with its values
pub scan-hits : (n : ℕ) (k : Kind) (s r : Text) → Stands k s r → Hit n s r (scan n s) k
unfolding Stands HasShape scanReturn begins
scan-hits n Kind.blank s r (h, z) =
    let q = one-found (isAny " \t") s r h in
    Hit.blank (scan-by n s Start.blank (starts-blank s (clear-of s z) q.0) ∙ ap (Found.gap GapKind.blank) (sym q.1))
scan-hits n Kind.lineEnd s r (inl h, z) =
    let q = one-found (isAny "\n") s r h in
    Hit.lineEnd (scan-by n s Start.lf (starts-lf s (clear-of s z) q.0) ∙ ap (Found.gap GapKind.lineEnd) (sym q.1))
scan-hits n Kind.lineEnd s r (inr (both (One.one {c = a} e) (One.one {c = b} f)), z) =
    Hit.lineEnd (scan-by n s Start.cr (starts-cr s (clear-of s z) e) ∙ rw (code-is 13 a.code e, code-is 10 b.code f))
scan-hits n Kind.lineComment s r (h, z) = let q = line-found s r h in Hit.lineComment (scan-by n s Start.line (starts-line s q.0) ∙ q.1)
scan-hits n Kind.blockComment s r (h, z) = let q = block-found s r h in Hit.blockComment (scan-by n s Start.block (starts-block s q.0) ∙ q.1)
scan-hits n (Kind.token y) s r (h, z) = token-hits n y s r (clear-of s z) h
