-- Refusal 3: with a character that the computed test takes some shape starts, and with no other.
use Rattle.std.proofs.Common.{ℕ, ◌≡◌, refl, sym, ◌∙◌, ap, Bool, true, false, ◌↔◌, inl, inr, [], ◌∷◌}
use Rattle.token.proofs.theorems.Words.{codes, Char, Text, clash, code_laws, slash-sign, isDigit, isHexDigit, begins, Kind, TokenType, One, Run, Run1, both, Escape, Single, Body, TokenShape, HasShape, StartsShape, Found, Start, readDigits, scanNumber, afterIdent, starts, code-is, begun-is}
use Rattle.token.proofs.theorems.Families.{line-stands, number-stands, Stood, operator-stands, ident-stands}
use Rattle.token.proofs.theorems.Heads.{declared-starts}
use Rattle.token.proofs.theorems.Dispatch.{Fact, start-fact, sign-of, digit-one}
open code_laws use {carry}

-- ---- texts that begin with a given start

abbrev lone : ℕ → Char
lone x = record { code = x; at = 0 }

stood-shape : (n : ℕ) (c : Char) (s : Text) (f : Found) → Stood n (c ∷ s) f → StartsShape c.code
unfolding HasShape
stood-shape n c s f h = StartsShape.shape (Kind.token h.type) c s h.rest refl h.shape

-- one digit
abbrev isToken : Found → Bool
isToken (Found.token t r) = true
isToken _ = false

digit-shape : (x : ℕ) → isDigit x ≡ true → StartsShape x
unfolding scanNumber readDigits begins isDigit isHexDigit
digit-shape x e = elim (number-stands 0 (lone x ∷ []) e) [
  | inl h ↦ stood-shape 0 (lone x) [] _ h
  | inr h ↦ clash (sym (ap isToken h.found) ∙ carry (λ y. isToken (scanNumber (lone y ∷ []))) (codes "0123456789") x refl (digit-one x e))
]

-- ---- every start has one

start-shape : (c : Char) (s : Text) → starts (c ∷ s) ≡ true → StartsShape c.code
unfolding HasShape TokenShape begins afterIdent
start-shape c s e = go (start-fact (c ∷ s))
  where
    coded : (x : ℕ) → c.code ≡ x → StartsShape x → StartsShape c.code
    coded x q h = rw q h

    go : {x : Start} → Fact (c ∷ s) x → StartsShape c.code
    go (Fact.line f) = let h = line-stands (c ∷ s) f in StartsShape.shape Kind.lineComment c s h.0 refl h.2
    go (Fact.block f) = coded 47 (begun-is 47 c.code _ f) (stood-shape 0 (lone 47) [] _ (operator-stands 0 (lone 47 ∷ []) (rw slash-sign)))
    go (Fact.blank z f) = StartsShape.shape Kind.blank c s s refl (One.one f)
    go (Fact.lf z f) = StartsShape.shape Kind.lineEnd c s s refl (inl (One.one f))
    -- CR LF
    go (Fact.cr z f) =
        coded 13 (code-is 13 c.code f)
        (StartsShape.shape Kind.lineEnd (lone 13) (lone 10 ∷ []) [] refl (inr (both (One.one refl) (One.one refl))))
    go (Fact.sign z f) = let h = sign-of (c ∷ s) f in StartsShape.shape (Kind.token h.0) c s s refl h.1
    go (Fact.number z f) = digit-shape c.code f
    -- an identifier of one character
    go (Fact.word z f) = stood-shape 0 (lone c.code) [] _ (ident-stands 0 (lone c.code ∷ []) f (inl refl))
    go (Fact.operator z f) = stood-shape 0 c s _ (operator-stands 0 (c ∷ s) f)
    -- a backtick, `n`, a backtick
    go (Fact.backtick z f) =
        coded 96 (code-is 96 c.code f)
        (StartsShape.shape (Kind.token TokenType.backtickId) (lone 96) (lone 110 ∷ lone 96 ∷ []) [] refl
        (both (One.one refl) (both (Run1.run refl Run.stop) (One.one refl)), refl))
    -- `""`
    go (Fact.string z f) =
        coded 34 (begun-is 34 c.code _ f)
        (StartsShape.shape (Kind.token TokenType.str) (lone 34) (lone 34 ∷ []) [] refl
        (inl (Body.single refl (both (One.one refl) (both Single.done (One.one refl))))))
    -- `'\n'`
    go (Fact.charSym z f) =
        coded 39 (code-is 39 c.code f)
        (StartsShape.shape (Kind.token TokenType.charSym) (lone 39) (lone 92 ∷ lone 110 ∷ lone 39 ∷ []) [] refl
        (inl (inl (both (One.one refl) (both (Escape.simple (both (One.one refl) (One.one refl))) (One.one refl))))))
    go (Fact.other f) = clash (sym f ∙ e)

-- the computed test is what is declared
pub starts-declared : (c : Char) (s : Text) → (starts (c ∷ s) ≡ true) ↔ StartsShape c.code
starts-declared c s = (start-shape c s, declared-starts c s)
