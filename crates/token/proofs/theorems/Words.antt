-- What the theorems name of the declared and the computed definitions, passed on from one place. Declares nothing.
pub use mathlib.Core.Bool.{or-true, or-false, or_assoc, and-true, and-false}
pub use Rattle.std.proofs.lemmas.Bool.{false_from_ne_true, or_parts}
pub use Rattle.std.proofs.lemmas.Bool.Decides.{same_from_decides}
pub use mathlib.Core.Option.{some-injective, Option, none, some}
pub use borrow.Author.Tests.{not-true, not-false, lt-leb}
pub use Rattle.chars.specs.paper.Quoted.{member, oneOf, codes, between}
unfoldable pub use Rattle.chars.specs.paper.Classes.{isIdStart, isOpSign, isIdChar, isPrintable}
pub use Rattle.chars.specs.paper.Text.{Char, Text, place, headIs, idStart, idChar}
unfoldable pub use Rattle.chars.specs.paper.Text.{from}
unfoldable pub use Rattle.chars.specs.computed.Runs.{afterRun}
pub use Rattle.chars.specs.promises.Codes.{every}
pub use Rattle.chars.specs.promises.Texts.{Suffix, ScriptText}
pub use Rattle.chars.proofs.Bools.{clash, and-both}
pub use Rattle.chars.proofs.theorems.Promises.{text-laws, code_laws, class-laws, valid-laws}
pub use Rattle.token.specs.paper.Tests.{quote, isAny, opensComment, opSign, freeSign, startsWith, opensLine, opensBlock, endsLine, digit, apostrophe, backslash, hexDigit, closesBlock, endOfLine, threeQuotes, dollarBrace, notBacktick, digitValue, hexAhead, letterL, plainChar}
unfoldable pub use Rattle.token.specs.paper.Tests.{begins, isDigit, isHexDigit}
pub use Rattle.token.specs.paper.Kinds.{Kind, TokenType, isComment, isLineEnd, Token, withoutValues, kwNumber, kindNumber}
unfoldable pub use Rattle.token.specs.paper.Kinds.{wordOf, runOf}
pub use Rattle.token.specs.paper.Shapes.{both, textOf, limit, One, ◌then◌, codesOf, Ident, Operator, Str, Body, Prefix, Block, Times, UpTo, Escape, LineEnd, Shape, Run, LineComment, Item, Items, Backtick, Run1, Chunks, Tail, Single, singleChar, tripleChar, Name, Digits, NumberText, Number, PlainIdent, Longest, Character, Symbol, allowed}
unfoldable pub use Rattle.token.specs.paper.Shapes.{TokenShape, HasShape, Stands, valueOfDigits}
pub use Rattle.token.specs.paper.Reading.{Piece, endsQuote, LastDropped, Content, Valued, Tokens, Pieces, TokensOf, OnlyLastEof, hasPiece, AfterComment, NoEndAfter, Cut, Reading}
pub use Rattle.token.specs.paper.Refusals.{Opens, InSingle, InTriple, BadEscape, Met, Refused, StartsShape, WithinSingle, GivesWay, First}
pub use Rattle.token.specs.paper.Records.{bit, valuesOf, headLength, mostBytes, mostNeed, perByte}
unfoldable pub use Rattle.token.specs.paper.Records.{recordLength, recordOf, records, recordBytes, values}
pub use Rattle.token.specs.computed.Answer.{Found, Start, plainOf, starts, scanAs, unbroken, broken, blockOr, wordOr, escapedOf, wrong, numeral, numberOf, runOr, prefixedOf, backtickOr, Closing, closed, Answer, tokenized, refused, Numeral, Esc, tickNext, prepend, gapBefore}
unfoldable pub use Rattle.token.specs.computed.Answer.{signOf, scanReturn, scan, scanString, strip, plainContent, startOf, scanBlock, scanNumber, exactHexes, digitsUpTo, afterSlash, scanLine, close, afterIdent, codesTo, orPrefixed, scanIdent, scanCharSym, closePlain, closePrefixed, closeTriple, closeString, readDigits, scanOperator, scanBacktick, answer, walk}
pub use Rattle.token.specs.computed.Flags.{GapKind, Gap, fresh, push, cutOf}
pub use Rattle.token.specs.declared.kinds.Kw.{Kw}
pub use Rattle.token.specs.declared.kinds.TokenKind.{TokenKind}
pub use Rattle.token.proofs.Base.{no-some, zero-one, by-test, neither, code-is, begun-is, Snoc, snoc, snoc-same}
pub use Rattle.token.proofs.Classes.{plainAscii, sign-not, start-not, slash-sign, under-no-id, sign-no-under, slash-no-start, no-start, no-sign, others}
