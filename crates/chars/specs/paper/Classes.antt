-- The classes of a character: RULES, "Characters"; REQUESTS, "One look at each character", "Direction mark".
use Rattle.std.specs.Prelude.{ℕ, Bool, not, ◌&&◌, ◌||◌, nat_le}
use Prim.Native.String.{String}
use Rattle.chars.specs.paper.Quoted.{between, oneOf}
use Rattle.chars.specs.paper.Ranges.{inRanges}
use Rattle.chars.specs.paper.Tables.{alphabeticTable, lowercaseTable, uppercaseTable, ndTable, alphaNotLetterTable, mathOrOtherSymbolTable}

-- RULES, "Unicode tables": the properties of a code up to U+FFFF
unfoldable pub alphabetic : ℕ → Bool
alphabetic c = inRanges alphabeticTable c

unfoldable pub lowercase : ℕ → Bool
lowercase c = inRanges lowercaseTable c

unfoldable pub uppercase : ℕ → Bool
uppercase c = inRanges uppercaseTable c

unfoldable pub nd : ℕ → Bool
nd c = inRanges ndTable c

unfoldable pub alphaNotLetter : ℕ → Bool
alphaNotLetter c = inRanges alphaNotLetterTable c

unfoldable pub mathOrOtherSymbol : ℕ → Bool
mathOrOtherSymbol c = inRanges mathOrOtherSymbolTable c

-- RULES, "Id start": "A character that can begin an identifier: `$`, `_`, or one that is Lowercase or Uppercase. It is at most U+FFFF, and none of
-- the circled letters U+24B6 to U+24E9."
unfoldable pub isIdStart : ℕ → Bool
isIdStart c = nat_le c 0xFFFF && not (between 0x24B6 0x24E9 c) && (lowercase c || uppercase c || oneOf "$_" c)

-- RULES, "Id character": "A character that can go on in a chunk of an identifier: `$`; or one of at most U+FFFF that is in `ND`, or Alphabetic and
-- not in `ALPHA_NOT_LETTER`."
unfoldable pub isIdChar : ℕ → Bool
isIdChar c = oneOf "$" c || nat_le c 0xFFFF && (alphabetic c && not (alphaNotLetter c) || nd c)

-- RULES, "Operator sign": "One of the eighteen `! # % & * + - / : < = > ? @ \ ^ | ~`, or a character of `MATH_OR_OTHER_SYMBOL`."
abbrev pub asciiSigns : String
asciiSigns = "!#%&*+-/:<=>?@\\^|~"

unfoldable pub isOpSign : ℕ → Bool
isOpSign c = oneOf asciiSigns c || mathOrOtherSymbol c

-- RULES, "Printable": "A character that can stand by itself between two `'`: at most U+FFFF, and in none of U+0000 to U+001F, U+007F to U+009F and
-- U+FFF0 to U+FFFF."
unfoldable pub isPrintable : ℕ → Bool
isPrintable c = nat_le c 0xFFFF && not (between 0x0000 0x001F c) && not (between 0x007F 0x009F c) && not (between 0xFFF0 0xFFFF c)

-- REQUESTS, "One look at each character": what the four classes say of a character
pub record Classes : Type 0 where
  pub idStart : Bool
  pub idChar : Bool
  pub opSign : Bool
  pub printable : Bool

abbrev pub classesOf : ℕ → Classes
classesOf c = record { idStart = isIdStart c; idChar = isIdChar c; opSign = isOpSign c; printable = isPrintable c }

-- REQUESTS, "Direction mark": "A direction mark is one of U+202A to U+202E and U+2066 to U+2069."
unfoldable pub isMark : ℕ → Bool
isMark c = between 0x202A 0x202E c || between 0x2066 0x2069 c
