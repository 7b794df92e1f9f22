-- Operators with their keyword rule: what the scanner finds stands, and what stands is what it finds. And the two outcomes of each scanner.
use Rattle.std.proofs.Common.{ℕ, ◌≡◌, refl, sym, ◌∙◌, ap, true, false, ◌⊎◌, inl, inr, not}
use Rattle.token.proofs.theorems.Words.{Option, none, some, Text, afterRun, opensComment, freeSign, TokenType, runOf, Operator, TokenShape, codesOf, Valued, Found, codesTo, runOr, scanOperator, Kw, TokenKind, no-some, by-test, Met, and-both, opSign}
use Rattle.token.specs.declared.kinds.TokenKind.TheVariants as tk
use Rattle.token.proofs.theorems.Runs.{run1-finds, run1-found}

-- a token that is found and stands
pub record Stood (n : ℕ) (s : Text) (f : Found) : Type 0 where
  pub type : TokenType
  pub token : TokenKind
  pub rest : Text
  pub found : f ≡ Found.token token rest
  pub shape : TokenShape type s rest
  pub valued : Valued n s rest type token

pub stood : {n : ℕ} {s : Text} {f : Found} (y : TokenType) (t : TokenKind) (r : Text) → f ≡ Found.token t r → TokenShape y s r → Valued n s r y t → Stood n s f
stood y t r e h v = record { type = y; token = t; rest = r; found = e; shape = h; valued = v }

-- a refusal that is found and met
pub record Fell (s : Text) (f : Found) : Type 0 where
  pub number : ℕ
  pub rest : Text
  pub found : f ≡ Found.stuck number rest
  pub met : Met s number rest

pub fell-at : {s : Text} {f : Found} (j : ℕ) (q : Text) → f ≡ Found.stuck j q → Met s j q → Fell s f
fell-at j q e m = record { number = j; rest = q; found = e; met = m }

abbrev pub Outcome : ℕ → Text → Found → Type 0
Outcome n s f = Stood n s f ⊎ Fell s f

pub free-sign : (s : Text) → freeSign s ≡ true → opSign s ≡ true
free-sign s e = (and-both (opSign s) (not (opensComment s)) e).0

scan-operator : (s : Text) → scanOperator s ≡ runOr (afterRun freeSign s) (runOf (codesOf s (afterRun freeSign s)))
unfolding scanOperator codesTo
scan-operator s = refl

pub operator-stands : (n : ℕ) (s : Text) → freeSign s ≡ true → Stood n s (scanOperator s)
unfolding TokenShape
operator-stands n s e = go (runOf (codesOf s r)) refl
  where
    r : Text
    r = afterRun freeSign s

    op : Operator s r
    op = run1-finds freeSign s e refl

    go : (o : Option Kw) → runOf (codesOf s r) ≡ o → Stood n s (scanOperator s)
    go none f = stood TokenType.opId tk.OpId r (scan-operator s ∙ ap (runOr r) f) (op, inl f) (Valued.bare refl)
    go (some k) f =
        by-test (opensComment r)
        (λ x. stood TokenType.opId tk.OpId r (scan-operator s ∙ ap (runOr r) f ∙ rw x) (op, inr x) (Valued.bare refl))
        (λ x. stood (TokenType.key k) (tk.Kw k) r (scan-operator s ∙ ap (runOr r) f ∙ rw x) (inr (op, f, x)) (Valued.bare refl))

pub op-id-found : (s r : Text) → TokenShape TokenType.opId s r → (freeSign s ≡ true) × (scanOperator s ≡ Found.token tk.OpId r)
unfolding TokenShape
op-id-found s r h = let q = run1-found freeSign h.0 in (q.0, scan-operator s ∙ rw (← q.1) (go (runOf (codesOf s r)) refl h.1))
  where
    go : (w : Option Kw) → runOf (codesOf s r) ≡ w → (runOf (codesOf s r) ≡ none) ⊎ (opensComment r ≡ true)
        → runOr r (runOf (codesOf s r)) ≡ Found.token tk.OpId r
    go none e o = rw e
    go (some k) e (inl f) = no-some (sym f ∙ e)
    go (some k) e (inr f) = rw (e, f)

pub run-key-found : (s r : Text) (k : Kw) → Operator s r → runOf (codesOf s r) ≡ some k → opensComment r ≡ false
    → (freeSign s ≡ true) × (scanOperator s ≡ Found.token (tk.Kw k) r)
run-key-found s r k h e f = let q = run1-found freeSign h in (q.0, scan-operator s ∙ rw (← q.1) (rw (e, f)))
