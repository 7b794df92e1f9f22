-- A reading has one list of tokens; the records' length is the record bytes.
use Rattle.std.proofs.Common.{ℕ, ◌+◌, ◌≡◌, refl, sym, ◌∙◌, ap, true, false, ◌⊎◌, inl, inr, List, [], ◌∷◌, length, drop, length-append}
use Rattle.token.proofs.theorems.Words.{some-injective, Char, Text, clash, quote, Kind, TokenType, isComment, Token, Piece, endsQuote, LastDropped, Content, Valued, Tokens, recordLength, recordOf, records, recordBytes, TokenKind, no-some, snoc-same, same_from_decides}
use Rattle.token.specs.declared.kinds.TokenKind.TheVariants as tk
use Rattle.token.proofs.theorems.Numbers.{one-value}
use Rattle.token.proofs.theorems.Contents.{ends-snoc}
use Rattle.token.proofs.form.Stores.{length-record}

-- ---- records

pub records-length : (ts : List Token) → length (records ts) ≡ recordBytes ts
unfolding records recordBytes
records-length [] = refl
records-length (t ∷ ts) =
    length-append (recordOf t) (records ts) ∙ ap (λ n. n + length (records ts)) (length-record t)
    ∙ ap (λ n. recordLength t.kind + n) (records-length ts)

-- ---- content

dropped-one : {t m o : Text} {e f g : ℕ} → LastDropped t e m f → LastDropped t e o g → (m ≡ o) × (f ≡ g)
dropped-one (LastDropped.dropped m d s q) (LastDropped.dropped o x s' q') =
    let j = snoc-same m o d x (sym s ∙ s') in
    (j.0, ap (λ (c : Char). c.at) j.1)
dropped-one (LastDropped.dropped m d s q) (LastDropped.kept z) = clash (sym z ∙ ap endsQuote s ∙ ends-snoc m d ∙ q)
dropped-one (LastDropped.kept z) (LastDropped.dropped m d s q) = clash (sym z ∙ ap endsQuote s ∙ ends-snoc m d ∙ q)
dropped-one (LastDropped.kept z) (LastDropped.kept z') = (refl, refl)

content-one : {t u : Text} {e f a b c d : ℕ} → Content t e a b → t ≡ u → e ≡ f → Content u f c d → (a ≡ c) × (b ≡ d)
content-one (Content.unquoted q p) h k (Content.unquoted r s) = (sym p ∙ rw (h, k) s, k)
content-one (Content.unquoted q p) h k (Content.quoted r w v) = clash (sym q ∙ ap quote h ∙ r)
content-one (Content.quoted r w v) h k (Content.unquoted q p) = clash (sym q ∙ sym (ap quote h) ∙ r)
content-one (Content.quoted {m} {f} r w v) h k (Content.quoted {t = u} {m = o} {e = i} r' w' v') =
    let moved : LastDropped u i m f = rw (← ap (drop 1) h, ← k) w in
    let j = dropped-one moved w' in
    content-one v j.0 j.1 v'

-- ---- tokens

valued-one : {n : ℕ} {s r : Text} {y : TokenType} {t u : TokenKind} → Valued n s r y t → Valued n s r y u → t ≡ u
valued-one (Valued.bare e) (Valued.bare f) = some-injective _ _ (sym e ∙ f)
valued-one (Valued.bare e) _ = no-some e
valued-one (Valued.intLit h) (Valued.intLit k) = ap tk.IntLit (one-value false h k)
valued-one (Valued.longLit h) (Valued.longLit k) = ap tk.LongLit (one-value true h k)
valued-one (Valued.prefixed e) (Valued.prefixed f) = refl
valued-one (Valued.prefixed e) (Valued.plain f w) = clash (sym e ∙ f)
valued-one (Valued.plain f w) (Valued.prefixed e) = clash (sym e ∙ f)
valued-one (Valued.plain e w) (Valued.plain f v) = let h = content-one w refl refl v in rw (h.0, h.1)
valued-one _ (Valued.bare e) = no-some e

-- what has no token is neither a line end nor a token
skip-no : {A : Type 0} {k l : Kind} → (k ≡ Kind.blank) ⊎ (isComment k ≡ true) → k ≡ l → (l ≡ Kind.blank → ⊥) → isComment l ≡ false → A
skip-no (inl e) f n c = absurd (n (sym f ∙ e))
skip-no (inr e) f n c = clash (sym c ∙ sym (ap isComment f) ∙ e)

pub tokens-one : {script : List ℕ} {gap ps : List Piece} {ts us : List Token} → Tokens script gap ps ts → Tokens script gap ps us → ts ≡ us
tokens-one (Tokens.eof {cut = a} h) (Tokens.eof {cut = b} k) = rw (same_from_decides a b h k)
tokens-one (Tokens.skip h w) (Tokens.skip k v) = tokens-one w v
tokens-one (Tokens.skip h w) (Tokens.lineEnd k m v) = skip-no h k (λ e. cc) refl
tokens-one (Tokens.skip h w) (Tokens.token q k m v) = skip-no h q (λ e. cc) refl
tokens-one (Tokens.lineEnd h m w) (Tokens.skip k v) = skip-no k h (λ e. cc) refl
tokens-one (Tokens.lineEnd {mark = a} h m w) (Tokens.lineEnd {mark = b} k o v) = rw (same_from_decides a b m o, tokens-one w v)
tokens-one (Tokens.lineEnd h m w) (Tokens.token q k o v) = cc
tokens-one (Tokens.token q h m w) (Tokens.skip k v) = skip-no k q (λ e. cc) refl
tokens-one (Tokens.token q h m w) (Tokens.lineEnd k o v) = cc
tokens-one (Tokens.token {t = y} {cut = a} q h m w) (Tokens.token {t = z} {cut = b} q' k o v) =
    let e : y ≡ z = cc in rw (same_from_decides a b m o, valued-one (rw e at h) k, tokens-one w v)
