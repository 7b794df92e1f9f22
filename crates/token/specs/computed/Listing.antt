-- RULES, "Listing": kind, start, end, cut and values, or `refused N at P`.
use Rattle.std.specs.Prelude.{ℕ, zero, suc, ◌+◌, ◌/◌, ◌%◌, Bool, true, false, if◌then◌else◌, List, [], ◌∷◌, ◌++◌, nat_lt}
use Prim.Native.String.{String}
use Rattle.chars.specs.paper.Quoted.{codes}
use Rattle.chars.specs.paper.Classes.{alphabetic, lowercase, uppercase, nd, alphaNotLetter, mathOrOtherSymbol, isIdStart, isIdChar, isOpSign, isPrintable}
use Rattle.chars.specs.paper.Utf8.{width, codeOf}
use Rattle.chars.specs.computed.Encoded.{script}
use Rattle.chars.specs.paper.Text.{charsAt, from}
use Rattle.chars.specs.computed.Runs.{afterRun}
use Rattle.token.specs.paper.Tests.{same, isDigit, isHexDigit, begins}
use Rattle.token.specs.paper.Kinds.{wordOf, runOf, kindNumber, Token}
use Rattle.token.specs.computed.Answer.{codesTo, scanReturn, scanLine, close, scanBlock, readDigits, scanNumber, exactHexes, digitsUpTo, afterSlash, closePlain, closePrefixed, closeTriple, closeString, strip, plainContent, scanString, orPrefixed, afterIdent, scanIdent, scanOperator, scanBacktick, scanCharSym, startOf, signOf, scan, walk, Answer, tokenized, refused, answer}
use Rattle.token.specs.paper.Records.{Value, one, four, eight, valuesOf, bit, recordBytes}

-- a number in base ten, before the text t; the first argument bounds its digits
unfoldable pub decimalFor : ℕ → ℕ → List ℕ → List ℕ
decimalFor zero n t = t
decimalFor (suc f) n t =
    let rest = decimalFor f (n / 10) ((0x30 + n % 10) ∷ t) in
    if nat_lt n 10 then (0x30 + n) ∷ t else rest

abbrev pub decimal : ℕ → List ℕ
decimal n = decimalFor 20 n []

abbrev pub spaced : List ℕ → List ℕ
spaced [] = []
spaced (v ∷ vs) = codes " " ++ decimal v ++ spaced vs

abbrev pub valueNumbers : List Value → List ℕ
valueNumbers [] = []
valueNumbers (one v ∷ vs) = v ∷ valueNumbers vs
valueNumbers (four v ∷ vs) = v ∷ valueNumbers vs
valueNumbers (eight v ∷ vs) = v ∷ valueNumbers vs

unfoldable pub shown : List Token → List ℕ
shown [] = []
shown (t ∷ ts) =
    decimal (kindNumber t.kind) ++ spaced (t.start ∷ t.end ∷ bit t.cut ∷ valueNumbers (valuesOf t.kind)) ++ codes "\n" ++ shown ts

-- or `refused N at P`
unfoldable pub refusedAt : ℕ → ℕ → List ℕ
refusedAt j a = codes "refused " ++ decimal j ++ codes " at " ++ decimal a ++ codes "\n"

unfoldable pub listing : Answer → List ℕ
listing (tokenized ts) = shown ts
listing (refused j a) = refusedAt j a

-- a script and its listing
pub data Example : Type 0 where
  ◌gives◌ : String → String → Example

infix 70 ◌gives◌
-- Where this is unfolded, all of the computed definition is.
unfoldable pub listed : List ℕ → List ℕ
unfolding alphabetic lowercase uppercase nd alphaNotLetter mathOrOtherSymbol width codeOf charsAt from isIdStart isIdChar isOpSign isPrintable isDigit isHexDigit begins wordOf runOf afterRun codesTo scanReturn scanLine close scanBlock readDigits scanNumber exactHexes digitsUpTo afterSlash closePlain closePrefixed closeTriple closeString strip plainContent scanString orPrefixed afterIdent scanIdent scanOperator scanBacktick scanCharSym startOf signOf scan walk answer decimalFor shown refusedAt listing
listed s = listing (answer s)

-- the record bytes of a script; 0 where it is refused. Like `listed` it opens all that it stands on, so that an example is computed.
abbrev pub needOf : Answer → ℕ
needOf (tokenized ts) = recordBytes ts
needOf (refused j a) = 0

unfoldable pub needed : List ℕ → ℕ
unfolding alphabetic lowercase uppercase nd alphaNotLetter mathOrOtherSymbol width codeOf charsAt from isIdStart isIdChar isOpSign isPrintable isDigit isHexDigit begins wordOf runOf afterRun codesTo scanReturn scanLine close scanBlock readDigits scanNumber exactHexes digitsUpTo afterSlash closePlain closePrefixed closeTriple closeString strip plainContent scanString orPrefixed afterIdent scanIdent scanOperator scanBacktick scanCharSym startOf signOf scan walk answer decimalFor shown refusedAt listing
needed s = needOf (answer s)

-- by any way of listing a script
abbrev pub holdBy : (List ℕ → List ℕ) → List Example → Bool
holdBy f [] = true
holdBy f (◌gives◌ s t ∷ es) = if same (f (script s)) (codes t) then holdBy f es else false
