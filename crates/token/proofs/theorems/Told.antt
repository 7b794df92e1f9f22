-- Each refusal of a script has its number, so that what the code answers with tells the number that is met.
use Rattle.std.proofs.Common.{ℕ, zero, suc, ◌≡◌, refl, subst, Bool, true, false, cond, not, ◌&&◌, List, [], ◌∷◌, drop, leb}
use Rattle.token.proofs.theorems.Words.{Text, idStart, isDigit, isHexDigit, isAny, begins, opensComment, quote, threeQuotes, backslash, dollarBrace, hexAhead, letterL, opSign, freeSign, apostrophe, plainChar, wordOf, TokenKind, Found, codesTo, scanReturn, scanLine, close, blockOr, scanBlock, numeral, readDigits, numberOf, scanNumber, Esc, unbroken, broken, exactHexes, afterSlash, Closing, closed, wrong, closePlain, closePrefixed, closeTriple, closeString, plainOf, scanString, prefixedOf, orPrefixed, afterIdent, wordOr, scanIdent, runOr, scanOperator, backtickOr, scanBacktick, escapedOf, scanCharSym, Start, startOf, scanAs, scan, refused, answer, runOf, notBacktick, afterRun, Met, BadEscape, none, some}
use Rattle.token.specs.declared.kinds.TokenKind.TheVariants as tk
use Rattle.token.specs.code.Refusal.{refusalBy, OfRefusal, Numbered}
use Rattle.token.proofs.theorems.Theorems.{refusal}

-- ---- what a scanner gives refuses with the number of a refusal, if it refuses

abbrev Told : Found → Type 0
Told (Found.gap g r) = Unit {0}
Told (Found.token k r) = Unit {0}
Told (Found.stuck j q) = OfRefusal j

abbrev ToldEnd : Closing → Type 0
ToldEnd (closed r) = Unit {0}
ToldEnd (wrong j q) = OfRefusal j

abbrev ToldEscape : Esc → Type 0
ToldEscape (unbroken k) = Unit {0}
ToldEscape (broken j q) = OfRefusal j

-- so does one of two that do
either : {A : Type 0} (P : A → Type 0) (b : Bool) {x y : A} → P x → P y → P (cond b x y)
either P true h k = h
either P false h k = k

-- ---- escapes

hexes : (n k : ℕ) (s : Text) → ToldEscape (exactHexes n k s)
unfolding exactHexes refusalBy
hexes zero k s = tt
hexes (suc n) k [] = refl
hexes (suc n) k (c ∷ s) = either ToldEscape (isHexDigit c.code) (hexes n (suc k) s) refl

slash : (s : Text) → ToldEscape (afterSlash s)
unfolding afterSlash refusalBy
slash [] = refl
slash (c ∷ s) =
    either ToldEscape (isAny "btnfr'\"]" (c ∷ s)) tt (either ToldEscape (isDigit c.code) tt (either ToldEscape (isAny "u" (c ∷ s)) (hexes 4 1 s) refl))

-- ---- strings

plain : (k : ℕ) (s : Text) → ToldEnd (closePlain k s)
unfolding closePlain refusalBy
plain k [] = refl
plain (suc k) (c ∷ s) = plain k s
plain zero (c ∷ s) =
    either ToldEnd (quote (c ∷ s)) tt (either ToldEnd (isAny "\n" (c ∷ s)) refl (either ToldEnd (backslash (c ∷ s)) ((elim (afterSlash s)
    as (λ e. ToldEscape e → ToldEnd (elim e [ unbroken n ↦ closePlain n s | broken j q ↦ wrong j q ])) [
      | unbroken n ↦ λ h. plain n s
      | broken j q ↦ λ h. h
    ]) (slash s)) (plain 0 s)))

prefixed : (s : Text) → ToldEnd (closePrefixed s)
unfolding closePrefixed refusalBy
prefixed [] = refl
prefixed (c ∷ s) =
    either ToldEnd (quote (c ∷ s)) tt (either ToldEnd (isAny "\n" (c ∷ s)) refl (either ToldEnd (dollarBrace (c ∷ s)) refl (prefixed s)))

triple : (p : Bool) (s : Text) → ToldEnd (closeTriple p s)
unfolding closeTriple refusalBy
triple p [] = refl
triple p (c ∷ s) =
    either ToldEnd (threeQuotes (c ∷ s)) tt (either ToldEnd (backslash (c ∷ s)) refl (either ToldEnd (p && dollarBrace (c ∷ s)) refl (triple p s)))

closing : (p : Bool) (s : Text) → ToldEnd (closeString p s)
unfolding closeString
closing p s = either ToldEnd (threeQuotes s) (triple p (drop 3 s)) (either ToldEnd p (prefixed (drop 1 s)) (plain 0 (drop 1 s)))

plain-told : (n : ℕ) (s : Text) (x : Closing) → ToldEnd x → Told (plainOf n s x)
plain-told n s (closed r) h = tt
plain-told n s (wrong j q) h = h

string : (n : ℕ) (s : Text) → Told (scanString n s)
unfolding scanString
string n s = plain-told n s (closeString false s) (closing false s)

prefixed-told : (n : ℕ) (s : Text) (x : Closing) → ToldEnd x → Told (prefixedOf n s x)
prefixed-told n s (closed r) h = tt
prefixed-told n s (wrong j q) h = h

or-prefixed : (n : ℕ) (k : TokenKind) (s r : Text) → Told (orPrefixed n k s r)
unfolding orPrefixed
or-prefixed n k s r = either Told (quote r) (prefixed-told n s (closeString true r) (closing true r)) tt

-- ---- the other pieces

number : (s : Text) → Told (scanNumber s)
unfolding scanNumber refusalBy
number s = elim (cond (hexAhead s) (readDigits isHexDigit 16 0 (drop 2 s)) (readDigits isDigit 10 0 s)) as (λ n. Told (numberOf s n)) [
  | numeral v r ↦ either Told (letterL r) (either Told (leb v 9223372036854775807) tt refl) (either Told (leb v 2147483647) tt refl)
]

ident : (n : ℕ) (s : Text) → Told (scanIdent n s)
unfolding scanIdent
ident n s =
    let r = afterIdent false (drop 1 s) in
    elim (wordOf (codesTo s r)) as (λ w. Told (wordOr n s r w)) [ none ↦ or-prefixed n tk.Ident s r | some k ↦ tt ]

operator : (s : Text) → Told (scanOperator s)
unfolding scanOperator
operator s =
    let r = afterRun freeSign s in
    elim (runOf (codesTo s r)) as (λ w. Told (runOr r w)) [ none ↦ tt | some k ↦ either Told (opensComment r) tt tt ]

backtick : (n : ℕ) (s : Text) → Told (scanBacktick n s)
unfolding scanBacktick refusalBy
backtick n s =
    either Told (isAny "`" (drop 1 s)) refl
    (elim (afterRun notBacktick (drop 1 s)) as (λ r. Told (backtickOr n s r)) [ [] ↦ refl | c ∷ r ↦ or-prefixed n tk.BacktickId s r ])

symbol : (s : Text) → Told (scanCharSym s)
unfolding scanCharSym refusalBy
symbol s =
    let m = drop 1 s in
    either Told (backslash m) ((elim (afterSlash (drop 1 m)) as (λ e. ToldEscape e → Told (escapedOf (drop 1 m) e)) [
      | unbroken k ↦ λ h. either Told (apostrophe (drop k (drop 1 m))) tt refl
      | broken j q ↦ λ h. h
    ]) (slash (drop 1 m)))
    (either Told (plainChar m && apostrophe (drop 1 m)) tt
    (either Told (idStart m) tt (either Told (freeSign m) tt (either Told (isAny ";" m && not (opSign (drop 1 m))) tt refl))))

piece : (n : ℕ) (s : Text) → Told (scan n s)
unfolding scan scanLine scanReturn scanBlock refusalBy
piece n s = elim (startOf s) as (λ x. Told (scanAs n x s)) [
  | Start.cr ↦ either Told (begins "\r\n" s) tt refl
  | Start.block ↦ elim (close 0 0 (drop 2 s)) as (λ r. Told (blockOr s r)) [ none ↦ refl | some r ↦ tt ]
  | Start.number ↦ number s
  | Start.word ↦ ident n s
  | Start.operator ↦ operator s
  | Start.backtick ↦ backtick n s
  | Start.string ↦ string n s
  | Start.charSym ↦ symbol s
  | Start.other ↦ refl
  | _ ↦ tt
]

-- ---- the whole script, which refuses with what is met

met-number : {s q : Text} {j : ℕ} → Met s j q → OfRefusal j
unfolding refusalBy
met-number (Met.m12 h (BadEscape.e12 o)) = refl
met-number (Met.m12 h _) = refl
met-number _ = refl

-- ---- what the code's contracts ask for

pub refused-number : (script : List ℕ) (j a : ℕ) → answer script ≡ refused j a → OfRefusal j
refused-number script j a e = met-number ((refusal script j a).0 e).first.met

pub numbered : Numbered
numbered =
    record {
      piece = λ n s q j e. subst Told e (piece n s);
      number = λ s q j e. subst Told e (number s);
      ident = λ n s q j e. subst Told e (ident n s);
      operator = λ s q j e. subst Told e (operator s);
      backtick = λ n s q j e. subst Told e (backtick n s);
      string = λ n s q j e. subst Told e (string n s);
      prefixed = λ n s r q j e. subst Told e (prefixed-told n s (closeString true r) (closing true r));
      symbol = λ s q j e. subst Told e (symbol s);
      escape = λ s q j e. subst ToldEscape e (slash s);
      script = refused-number;
    }
