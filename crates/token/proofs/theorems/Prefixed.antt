-- Identifiers and backticks with the strings that they prefix.
use Rattle.std.proofs.Common.{ℕ, ◌≡◌, refl, sym, ◌∙◌, ap, Bool, true, false, cond, inl, inr, [], ◌∷◌, drop}
use Rattle.token.proofs.theorems.Words.{Option, none, some, not-true, isIdStart, Char, Text, place, idStart, afterRun, clash, isAny, begins, quote, notBacktick, TokenType, wordOf, One, Run, Run1, Times, both, PlainIdent, Backtick, Body, Prefix, codesOf, TokenShape, Valued, Met, Found, afterIdent, closeString, prefixedOf, orPrefixed, wordOr, scanIdent, backtickOr, scanBacktick, Kw, TokenKind, by-test, not-false, start-not, oneOf}
use Rattle.token.specs.declared.kinds.TokenKind.TheVariants as tk
use Rattle.token.proofs.theorems.Runs.{after-next, after-stop, run-after, run1-run, begins-any, apart, pass-run}
use Rattle.token.proofs.theorems.Idents.{ident-finds, ident-found, ident-stands, scan-ident}
use Rattle.token.proofs.theorems.Strings.{body-found, body-finds}
use Rattle.token.proofs.theorems.Operators.{stood, fell-at, Outcome}

-- neither begins with a quote
pub start-no-quote : (s : Text) → idStart s ≡ true → quote s ≡ false
unfolding begins
start-no-quote s e = begins-any 34 s ∙ apart "\"" isIdStart (start-not "\"" refl) s e

pub tick-no-quote : (s : Text) → isAny "`" s ≡ true → quote s ≡ false
unfolding begins
tick-no-quote s e = begins-any 34 s ∙ apart "\"" (oneOf "`") refl s e

-- where a quote follows the prefix
pub or-string : (n : ℕ) (k : TokenKind) (s r : Text) → quote r ≡ true → orPrefixed n k s r ≡ prefixedOf n s (closeString true r)
unfolding orPrefixed
or-string n k s r e = rw e

pub or-token : (n : ℕ) (k : TokenKind) (s r : Text) → quote r ≡ false → orPrefixed n k s r ≡ Found.token k r
unfolding orPrefixed
or-token n k s r e = rw e

prefixed-stands : (n : ℕ) (k : TokenKind) (s r : Text) → Prefix s r → quote s ≡ false → quote r ≡ true → Outcome n s (orPrefixed n k s r)
unfolding TokenShape
prefixed-stands n k s r p z e = elim (body-finds true r e) [
  | inl c ↦
      inl (stood TokenType.str (tk.Str (place n s) (place n c.rest)) c.rest (or-string n k s r e ∙ rw c.found) (inr (both p c.body)) (Valued.prefixed z))
  | inr w ↦ inr (fell-at w.number w.rest (or-string n k s r e ∙ rw w.found) (w.met s (p, e)))
]

pub prefixed-found : (n : ℕ) (k : TokenKind) (s m r : Text) → Body true m r → orPrefixed n k s m ≡ Found.token (tk.Str (place n s) (place n r)) r
prefixed-found n k s m r b = let h = body-found true m r b in or-string n k s m h.0 ∙ rw h.1

-- ---- identifiers

pub word-stands : (n : ℕ) (s : Text) → idStart s ≡ true → Outcome n s (scanIdent n s)
word-stands n s e = go (wordOf (codesOf s r)) refl
  where
    r : Text
    r = afterIdent false (drop 1 s)

    go : (w : Option Kw) → wordOf (codesOf s r) ≡ w → Outcome n s (scanIdent n s)
    go (some k) f = inl (ident-stands n s e (inr (k, f)))
    go none f =
        let p : scanIdent n s ≡ orPrefixed n tk.Ident s r = scan-ident n s ∙ ap (wordOr n s r) f in
        by-test (quote r) (λ q. rw p (prefixed-stands n tk.Ident s r (inl (ident-finds s e, f)) (start-no-quote s e) q))
        (λ q. inl (ident-stands n s e (inl q)))

pub ident-string-found : (n : ℕ) (s m r : Text) → PlainIdent s m → Body true m r
    → (idStart s ≡ true) × (scanIdent n s ≡ Found.token (tk.Str (place n s) (place n r)) r)
ident-string-found n s m r h b =
    let q = ident-found s m h.0 in
    (q.0, scan-ident n s ∙ rw (← q.1) (rw h.1 (prefixed-found n tk.Ident s m r b)))

-- ---- backticks

abbrev pub back : Text → Bool
back s = isAny "`" s

pub scan-backtick : (n : ℕ) (b : Char) (t : Text)
    → scanBacktick n (b ∷ t) ≡ cond (back t) (Found.stuck 5 (b ∷ t)) (backtickOr n (b ∷ t) (afterRun notBacktick t))
unfolding scanBacktick
scan-backtick n b t = refl

-- after the longest run the test fails
pub after-fails : (p : Text → Bool) (s : Text) (c : Char) (r : Text) → afterRun p s ≡ c ∷ r → p (c ∷ r) ≡ false
unfolding afterRun
after-fails p [] c r q = cc
after-fails p (d ∷ s) c r q =
    by-test (p (d ∷ s)) (λ e. after-fails p s c r (sym (after-next p d s e) ∙ q)) (λ e. rw (← (sym (after-stop p d s e) ∙ q)) e)

pub backtick-found : (s r : Text) → Backtick s r → (isAny "`" s ≡ true) × ((n : ℕ) → scanBacktick n s ≡ orPrefixed n tk.BacktickId s r)
backtick-found s r (both (One.one {c = b} e) (both (Run1.run {c} {s = u} f w) (One.one {c = d} g))) =
    let a : afterRun notBacktick (c ∷ u) ≡ d ∷ r = after-next notBacktick c u f ∙ pass-run notBacktick w ∙ after-stop notBacktick d r (rw g) in
    (e, λ n. scan-backtick n b (c ∷ u) ∙ rw (not-true (back (c ∷ u)) f, a))

pub backtick-stands : (n : ℕ) (s : Text) → isAny "`" s ≡ true → Outcome n s (scanBacktick n s)
unfolding TokenShape
backtick-stands n [] e = clash e
backtick-stands n (b ∷ []) e =
    inr (fell-at 4 (b ∷ []) (unfold afterRun in (scan-backtick n b [])) (Met.m4 (both (One.one e) Run.stop)))
backtick-stands n (b ∷ c ∷ u) e =
    by-test (back (c ∷ u)) (λ f. inr (fell-at 5 s (scan-backtick n b (c ∷ u) ∙ rw f) (Met.m5 (Times.more e (Times.more f Times.done))))) (λ f.
    let g : notBacktick (c ∷ u) ≡ true = rw f in
    name f (afterRun notBacktick (c ∷ u)) refl (rw (after-next notBacktick c u g) (Run1.run g (run-after notBacktick u))))
  where
    s : Text
    s = b ∷ c ∷ u

    named : (r : Text) → Backtick s r → Outcome n s (orPrefixed n tk.BacktickId s r)
    named r k =
        by-test (quote r) (λ q. prefixed-stands n tk.BacktickId s r (inr k) (tick-no-quote s e) q)
        (λ q. inl (stood TokenType.backtickId tk.BacktickId r (or-token n tk.BacktickId s r q) (k, q) (Valued.bare refl)))

    name : back (c ∷ u) ≡ false → (m : Text) → afterRun notBacktick (c ∷ u) ≡ m → Run1 notBacktick (c ∷ u) m → Outcome n s (scanBacktick n s)
    name f [] a w = inr (fell-at 4 s (scan-backtick n b (c ∷ u) ∙ rw (f, a)) (Met.m4 (both (One.one e) (run1-run notBacktick w))))
    name f (d ∷ r) a w =
        let p : scanBacktick n s ≡ orPrefixed n tk.BacktickId s r = scan-backtick n b (c ∷ u) ∙ rw (f, a) in
        rw p (named r (both (One.one e) (both w (One.one (not-false (back (d ∷ r)) (after-fails notBacktick (c ∷ u) d r a))))))
