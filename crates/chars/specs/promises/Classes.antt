-- Character classes: the order of the tables, what excludes what, ASCII by its byte, what the masks say.
use Rattle.std.specs.Prelude.{ℕ, ◌≤◌, ◌<◌, ◌≡◌, Bool, IsTrue, IsFalse, ◌&&◌, ◌||◌, nat_lt}
use mathlib.Core.List.{List, [], ◌∷◌, Memᴰ}
use Rattle.chars.specs.paper.Quoted.{between, oneOf}
use Rattle.chars.specs.paper.Ranges.{Range, Ascending}
use Rattle.chars.specs.paper.Tables.{alphabeticTable, lowercaseTable, uppercaseTable, ndTable, alphaNotLetterTable, mathOrOtherSymbolTable}
use Rattle.chars.specs.paper.Classes.{isIdStart, isIdChar, asciiSigns, isOpSign, isPrintable, mathOrOtherSymbol}
use Rattle.chars.specs.code.Tables.{pairs}
use Rattle.chars.specs.code.Masks.{inMasks}
use Rattle.chars.specs.declared.tables.TheConstants.{ALPHABETIC, LOWERCASE, UPPERCASE, ND, ALPHA_NOT_LETTER, MATH_OR_OTHER_SYMBOL}
use Rattle.chars.specs.declared.masks.TheConstants.{BLOCKS, ID_CHARS, ID_STARTS, OP_SIGNS, PRINTABLES}

-- the six tables
unfoldable pub tables : List (List Range)
tables = alphabeticTable ∷ lowercaseTable ∷ uppercaseTable ∷ ndTable ∷ alphaNotLetterTable ∷ mathOrOtherSymbolTable ∷ []

-- id starts and id characters of ASCII, without the tables
abbrev pub lowStart : ℕ → Bool
lowStart c = between 0x61 0x7A c || between 0x41 0x5A c || oneOf "$_" c

abbrev pub lowId : ℕ → Bool
lowId c = oneOf "$" c || (between 0x41 0x5A c || between 0x61 0x7A c || between 0x30 0x39 c)

pub record ClassLaws : Type 0 where
  -- each table ascends: RULES, "Unicode tables"
  pub tables-ascend : (t : List Range) → Memᴰ t tables → Ascending t
  -- the operator signs are the list of RULES, "Operator sign", and the table; none of them starts an identifier or goes on in one
  pub sign-is : (c : ℕ) → isOpSign c ≡ oneOf asciiSigns c || mathOrOtherSymbol c
  pub sign-no-start : (c : ℕ) → IsTrue (isOpSign c) → IsFalse (isIdStart c)
  pub sign-no-id : (c : ℕ) → IsTrue (isOpSign c) → IsFalse (isIdChar c)
  -- an ASCII byte starts an identifier, or goes on in one, by ranges of letters and digits
  pub byte-start : (b : ℕ) → nat_lt b 0x80 && isIdStart b ≡ nat_lt b 0x80 && lowStart b
  pub byte-id : (b : ℕ) → nat_lt b 0x80 && isIdChar b ≡ nat_lt b 0x80 && lowId b
  -- and it is an operator sign by the list alone: those of the table stand there too
  pub byte-sign : (b : ℕ) → nat_lt b 0x80 && isOpSign b ≡ nat_lt b 0x80 && oneOf asciiSigns b
  -- traps: U+2170 starts an identifier and never goes on in one; the circled letters do neither; past U+FFFF no code does, or is printable
  pub roman-start : IsTrue (isIdStart 0x2170)
  pub roman-no-id : IsFalse (isIdChar 0x2170)
  pub circled-no-start : (c : ℕ) → 0x24B6 ≤ c → c ≤ 0x24E9 → IsFalse (isIdStart c)
  pub circled-no-id : (c : ℕ) → 0x24B6 ≤ c → c ≤ 0x24E9 → IsFalse (isIdChar c)
  pub above-no-start : (c : ℕ) → 0xFFFF < c → IsFalse (isIdStart c)
  pub above-no-id : (c : ℕ) → 0xFFFF < c → IsFalse (isIdChar c)
  pub above-no-print : (c : ℕ) → 0xFFFF < c → IsFalse (isPrintable c)
  -- and it is no operator sign: all four answers are no
  pub above-no-sign : (c : ℕ) → 0xFFFF < c → IsFalse (isOpSign c)
  -- the source's range tables are these six; its masks, by blocks of 64 codes, say what the rules say, of every code up to U+FFFF
  pub tables-are : pairs ALPHABETIC ∷ pairs LOWERCASE ∷ pairs UPPERCASE ∷ pairs ND ∷ pairs ALPHA_NOT_LETTER ∷ pairs MATH_OR_OTHER_SYMBOL ∷ [] ≡ tables
  pub start-masks : (c : ℕ) → c ≤ 0xFFFF → inMasks ID_STARTS BLOCKS c ≡ isIdStart c
  pub id-masks : (c : ℕ) → c ≤ 0xFFFF → inMasks ID_CHARS BLOCKS c ≡ isIdChar c
  pub sign-masks : (c : ℕ) → c ≤ 0xFFFF → inMasks OP_SIGNS BLOCKS c ≡ isOpSign c
  pub print-masks : (c : ℕ) → c ≤ 0xFFFF → inMasks PRINTABLES BLOCKS c ≡ isPrintable c
