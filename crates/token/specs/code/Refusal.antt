-- What `refusal` has: the numbers of refusals, and a refusal by its number.
-- `Refused` here is the code's struct (`src/refusal.rt`), not the declared `Refused` (`paper/Refusals`).
use Rattle.std.specs.Prelude.{ℕ, ◌≡◌, true, if◌then◌else◌, ◌==◌, List, Result, Err}
use Rattle.chars.specs.paper.Text.{Text}
use Rattle.token.specs.computed.Answer.{Found, scan, scanNumber, scanIdent, scanOperator, scanBacktick, scanString, scanCharSym, prefixedOf, closeString, broken, afterSlash, refused, answer}
use Rattle.token.specs.declared.refusal.Refusal.{Refusal}
use Rattle.token.specs.declared.refusal.Refusal.TheVariants as refusal
use Rattle.token.specs.declared.refusal.Refused.{Refused}

-- each refusal's number
abbrev pub refusalNumber : Refusal → ℕ
refusalNumber refusal.LoneCr = 1
refusalNumber refusal.OpenComment = 2
refusalNumber refusal.NoPiece = 3
refusalNumber refusal.OpenBacktick = 4
refusalNumber refusal.EmptyBacktick = 5
refusalNumber refusal.LargeNumber = 6
refusalNumber refusal.OpenString = 7
refusalNumber refusal.LineFeed = 8
refusalNumber refusal.OpenTriple = 9
refusalNumber refusal.BackslashInTriple = 10
refusalNumber refusal.DollarBrace = 11
refusalNumber refusal.OpenEscape = 12
refusalNumber refusal.NoHexDigit = 13
refusalNumber refusal.NoEscape = 14
refusalNumber refusal.NoTick = 15
refusalNumber refusal.NoSymbol = 16

-- the refusal that has the number j; for a number that none has, the last
unfoldable pub refusalBy : ℕ → Refusal
refusalBy j =
    if j == 1 then refusal.LoneCr else
    if j == 2 then refusal.OpenComment else
    if j == 3 then refusal.NoPiece else
    if j == 4 then refusal.OpenBacktick else
    if j == 5 then refusal.EmptyBacktick else
    if j == 6 then refusal.LargeNumber else
    if j == 7 then refusal.OpenString else
    if j == 8 then refusal.LineFeed else
    if j == 9 then refusal.OpenTriple else
    if j == 10 then refusal.BackslashInTriple else
    if j == 11 then refusal.DollarBrace else
    if j == 12 then refusal.OpenEscape else
    if j == 13 then refusal.NoHexDigit else
    if j == 14 then refusal.NoEscape else
    if j == 15 then refusal.NoTick else refusal.NoSymbol

-- a reader's answer that refuses, at a place; and the same by the refusal's number
abbrev pub refusedFor : {A : Type 0} → Refusal → ℕ → Result A Refused
refusedFor what place = Err (record { what = what; place = place })

abbrev pub refusedBy : {A : Type 0} → ℕ → ℕ → Result A Refused
refusedBy j place = refusedFor (refusalBy j) place

-- j is the number of a refusal: the one that is told for it has it
abbrev pub OfRefusal : ℕ → Type 0
OfRefusal j = refusalNumber (refusalBy j) ≡ j

-- Whatever a scanner refuses with is the number of a refusal, so that a reader's answer, which `refusedBy` says, tells it. The contract of
-- `Refusal::number` asks for it.
pub record Numbered : Type 0 where
  pub piece : (n : ℕ) (s q : Text) (j : ℕ) → scan n s ≡ Found.stuck j q → OfRefusal j
  pub number : (s q : Text) (j : ℕ) → scanNumber s ≡ Found.stuck j q → OfRefusal j
  pub ident : (n : ℕ) (s q : Text) (j : ℕ) → scanIdent n s ≡ Found.stuck j q → OfRefusal j
  pub operator : (s q : Text) (j : ℕ) → scanOperator s ≡ Found.stuck j q → OfRefusal j
  pub backtick : (n : ℕ) (s q : Text) (j : ℕ) → scanBacktick n s ≡ Found.stuck j q → OfRefusal j
  pub string : (n : ℕ) (s q : Text) (j : ℕ) → scanString n s ≡ Found.stuck j q → OfRefusal j
  -- a string from r on that what stands from s on prefixes
  pub prefixed : (n : ℕ) (s r q : Text) (j : ℕ) → prefixedOf n s (closeString true r) ≡ Found.stuck j q → OfRefusal j
  pub symbol : (s q : Text) (j : ℕ) → scanCharSym s ≡ Found.stuck j q → OfRefusal j
  -- an escape from behind its backslash
  pub escape : (s q : Text) (j : ℕ) → afterSlash s ≡ broken j q → OfRefusal j
  pub script : (s : List ℕ) (j a : ℕ) → answer s ≡ refused j a → OfRefusal j
