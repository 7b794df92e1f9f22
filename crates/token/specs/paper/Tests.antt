-- Tests of what a text begins with, in the characters that RULES has.
use Rattle.std.specs.Prelude.{ℕ, ◌-◌, Bool, true, false, if◌then◌else◌, not, ◌&&◌, ◌||◌, List, [], ◌∷◌, drop, ◌==◌, nat_le}
use Prim.Native.String.{String}
use Rattle.chars.specs.paper.Quoted.{between, codes, oneOf}
use Rattle.chars.specs.paper.Classes.{classesOf}
use Rattle.chars.specs.paper.Text.{Text, headIs}

-- digits from `0` to `9`; "Hexadecimal digits are `0` to `9`, `a` to `f` and `A` to `F`."
unfoldable pub isDigit : ℕ → Bool
isDigit c = between 0x30 0x39 c

unfoldable pub isHexDigit : ℕ → Bool
isHexDigit c = isDigit c || between 0x41 0x46 c || between 0x61 0x66 c

-- ---- what a text begins with

-- with one of the quoted characters
abbrev pub isAny : String → Text → Bool
isAny t s = headIs (oneOf t) s

abbrev pub startsWith : List ℕ → Text → Bool
startsWith [] s = true
startsWith (x ∷ xs) [] = false
startsWith (x ∷ xs) (c ∷ s) = c.code == x && startsWith xs s

-- with the quoted text
unfoldable pub begins : String → Text → Bool
begins t s = startsWith (codes t) s

abbrev pub opensLine : Text → Bool
opensLine s = begins "//" s

abbrev pub opensBlock : Text → Bool
opensBlock s = begins "/*" s

abbrev pub closesBlock : Text → Bool
closesBlock s = begins "*/" s

-- `//` or `/*`
abbrev pub opensComment : Text → Bool
opensComment s = opensLine s || opensBlock s

-- LF, or CR LF
abbrev pub endsLine : Text → Bool
endsLine s = begins "\n" s || begins "\r\n" s

abbrev pub quote : Text → Bool
quote s = begins "\"" s

abbrev pub threeQuotes : Text → Bool
threeQuotes s = begins "\"\"\"" s

abbrev pub backslash : Text → Bool
backslash s = begins "\\" s

abbrev pub dollarBrace : Text → Bool
dollarBrace s = begins "${" s

abbrev pub digit : Text → Bool
digit s = headIs isDigit s

abbrev pub hexDigit : Text → Bool
hexDigit s = headIs isHexDigit s

abbrev pub opSign : Text → Bool
opSign s = headIs (λ c. (classesOf c).opSign) s

-- RULES, "Operator": an operator sign at which neither `//` nor `/*` begins
abbrev pub freeSign : Text → Bool
freeSign s = opSign s && not (opensComment s)

-- the script's end, LF or CR LF
abbrev pub endOfLine : Text → Bool
endOfLine [] = true
endOfLine (c ∷ s) = endsLine (c ∷ s)

-- RULES, "Number": `0x` and a hexadecimal digit stand there
abbrev pub hexAhead : Text → Bool
hexAhead s = begins "0x" s && hexDigit (drop 2 s)

-- `L` or `l`
abbrev pub letterL : Text → Bool
letterL s = isAny "Ll" s

-- a digit's value: 0 to 9, then a to f or A to F
abbrev pub digitValue : ℕ → ℕ
digitValue c = if nat_le c 0x39 then c - 0x30 else if nat_le c 0x46 then c - 0x37 else c - 0x57

abbrev pub notBacktick : Text → Bool
notBacktick s = not (isAny "`" s)

abbrev pub apostrophe : Text → Bool
apostrophe s = isAny "'" s

-- RULES, "Character": a printable that is no backslash
abbrev pub plainChar : Text → Bool
plainChar s = headIs (λ c. (classesOf c).printable) s && not (backslash s)

-- two texts' codes are equal
abbrev pub same : List ℕ → List ℕ → Bool
same [] [] = true
same [] (y ∷ b) = false
same (x ∷ a) [] = false
same (x ∷ a) (y ∷ b) = x == y && same a b
