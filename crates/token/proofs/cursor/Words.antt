-- The words that the proofs of these modules share, passed on from one place: of std and the logic, of `chars` and `words`, and of this crate's
-- specs. Declares nothing.
pub use Rattle.std.proofs.Common.{Bool, Err, IfErr, IfOk, List, None, Ok, Option, Result, Some, [], add-mul, add-zero, ap, append-nil, append_assoc, arith, cond, drop, drop-cons, drop-drop, eq-eqb, eqb, eqb-true, false, get_or, get_or-drop, inl, inr, le-leb, le-ltb, le-mul_of_pos_right, leb, leb-false, leb-true, length, length-append, length-drop, length-take-le, lt-ltb, ltb, ltb-false, ltb-true, mod-eq_of_lt, mul-le-mul_right, ne_eqb, not, pow-suc, refl, reverse, rules, set, suc, sym, take, take-add, take-append-drop, take_at, true, zero, ℕ, ⊎_elim, ◌%◌, ◌&&◌, ◌*◌, ◌++◌, ◌+◌, ◌-◌, ◌/◌, ◌<◌, ◌^◌, ◌||◌, ◌∙◌, ◌∷◌, ◌≡◌, ◌≤◌, ◌⊎◌}
pub use Rattle.std.proofs.lemmas.Bool.{cases_Bool, cases_eq, cases_lt, eqb-false, lt-leb, not-true}
pub use Rattle.std.proofs.lemmas.Result.{err_from_is_err_and}
pub use lib.ListN.{get_or-eq_default}
pub use lib.Seq.{drop-append_seam, length-sets, sets}
pub use mathlib.Core.Bool.{and-false, and-true, and_assoc, or-false}
pub use mathlib.Core.Option.{none, some}
pub use native.Mathlib.Nat.{one-le-pow, pow-le-pow_right, pow-zero, sub-zero}
pub use Rattle.chars.proofs.Bools.{and-both, clash, or-neither}
pub use Rattle.chars.proofs.Prefix.{end, passed, stopped, within}
pub use Rattle.chars.proofs.theorems.Promises.{class-laws, code_laws, text-laws}
pub use Rattle.chars.specs.code.Text.{codeAt}
unfoldable pub use Rattle.chars.specs.code.Text.{charEnd, stepAt}
unfoldable pub use Rattle.chars.specs.computed.Runs.{afterRun}
pub use Rattle.chars.specs.paper.Quoted.{between, codes, member, oneOf}
pub use Rattle.chars.specs.paper.Text.{Char, Text, headIs, place}
unfoldable pub use Rattle.chars.specs.paper.Text.{from}
pub use Rattle.chars.specs.promises.Codes.{alike, every, span}
pub use Rattle.chars.specs.promises.Texts.{AsciiClass, PastWide, ScriptText, Suffix}
pub use Rattle.words.proofs.Joins.{Width, drop-bytes, eight-from, eight-le8, four-drop, four-from, four-halves, four-le4, fours, le4-four, le8-eight, two-drop, two-from, two-le2, twos}
pub use Rattle.words.proofs.Stores.{after, length-four, low-four, sets-front}
pub use Rattle.words.specs.Joins.{Bytes}
pub use Rattle.words.specs.Words.{oneAt}
unfoldable pub use Rattle.words.specs.Words.{eightAt, fourAt, le2, le4, le8, twoAt}
unfoldable pub use Rattle.token.specs.code.Ascii.{signNumber}
pub use Rattle.token.specs.code.ByteClass.{backtickClass, blankClass, classAt, crClass, digitClass, inRun, inWord, isSign, keywordClass, lfClass, quoteClass, slashClass, startsWord, tickClass, upToBlank, wideClass}
unfoldable pub use Rattle.token.specs.code.ByteClass.{classOf}
pub use Rattle.token.specs.code.Cursor.{cursorAt, peekAt, peekedOf}
pub use Rattle.token.specs.code.Digits.{Untested}
unfoldable pub use Rattle.token.specs.code.Digits.{digitOf, letterOf, intOr, longOr, numberBy}
pub use Rattle.token.specs.paper.Digits.{IsBase, RunEnds, digitsTo, fitting}
unfoldable pub use Rattle.token.specs.paper.Digits.{digitIn}
pub use Rattle.token.specs.code.Form.{Known, RecordForm, Storable, Whole, headNumber, joined, mostLength, plainForm, storedOf}
unfoldable pub use Rattle.token.specs.code.Form.{byForm, formOf, headBytes, heldAt, valuesAt}
pub use Rattle.token.specs.code.Gap.{fourMore, fourPassed, nestAt, opensAt}
unfoldable pub use Rattle.token.specs.code.Gap.{closedOf, fourOpen, openings}
pub use Rattle.token.specs.code.Piece.{tokenTo}
unfoldable pub use Rattle.token.specs.code.Piece.{pieceOf}
pub use Rattle.token.specs.code.Records.{Fits, Held, Needs, Reaches, Standing, State, Trail, answerOf, begun, countedFrom, eofAt, measuredFrom, needFor, noneCounted, storedFrom, tokensIn, tokensOn, trailFrom, withToken}
unfoldable pub use Rattle.token.specs.code.Records.{counting, countingAll, measuredAfter, measuredOf, needAfter, storedIf, stores, trail}
pub use Rattle.token.specs.code.Refusal.{refusalNumber, refusedBy, refusedFor}
unfoldable pub use Rattle.token.specs.code.Refusal.{refusalBy}
pub use Rattle.token.specs.code.String.{EndAnswer, blockLess, blockMore, endAt, escEnd, sixteenAt, spanAt}
unfoldable pub use Rattle.token.specs.code.String.{blocksOff, blocksTaken, closeSingle, dollarOf, endedOf, escapeOf, hexesOf, isOrdinary, lastOff, singleItem, tripleItem}
pub use Rattle.token.specs.code.Walk.{Counted, Steps, beginning, gapAt, needAt, stateAt}
pub use Rattle.token.specs.computed.Answer.{Answer, Closing, Found, blockOr, broken, closed, numberOf, numeral, plainOf, prefixedOf, prepend, refused, tokenized, unbroken, wrong}
unfoldable pub use Rattle.token.specs.computed.Answer.{afterSlash, answer, close, closePlain, closeString, closeTriple, codesTo, digitsUpTo, exactHexes, plainContent, readDigits, scan, scanNumber, scanString, signOf, strip}
pub use Rattle.token.specs.computed.Flags.{Gap, GapKind, fresh}
pub use Rattle.token.specs.declared.counts.Counts.{Counts}
pub use Rattle.token.specs.declared.counts.Need.{Need}
pub use Rattle.token.specs.declared.cursor.Cursor.{Cursor}
pub use Rattle.token.specs.declared.kinds.Form.{Form}
pub use Rattle.token.specs.declared.kinds.TokenKind.{TokenKind}
pub use Rattle.token.specs.declared.refusal.Refused.{Refused}
pub use Rattle.token.specs.declared.walk.Stand.{Stand}
pub use Rattle.token.specs.paper.Kinds.{Kind, Token, TokenType, Word, isComment, keyword, kindNumber, kwNumber, symbolKeywords, word, wordKeywords}
unfoldable pub use Rattle.token.specs.paper.Kinds.{runOf, wordOf}
pub use Rattle.token.specs.paper.Records.{bit, countOf, exactNeed, headLength, intLength, isIntLit, isLongLit, isNewline, isStr, lineLength, longLength, strLength, tokenCount, valueNeed, valuesOf}
unfoldable pub use Rattle.token.specs.paper.Records.{countsOf, fieldsOf, headOf, recordBytes, recordLength, recordOf, records, values}
pub use Rattle.token.specs.paper.Shapes.{Single, singleChar, textOf, tripleChar}
unfoldable pub use Rattle.token.specs.paper.Shapes.{HasShape, Stands, TokenShape}
pub use Rattle.token.specs.paper.Tests.{backslash, closesBlock, digit, digitValue, dollarBrace, endOfLine, endsLine, hexAhead, hexDigit, isAny, letterL, opensBlock, opensComment, opensLine, quote, same, startsWith, threeQuotes}
unfoldable pub use Rattle.token.specs.paper.Tests.{begins, isDigit, isHexDigit}
