-- What the proofs of the readers and of the walk name of std, of `chars` and of this crate's definitions, passed on from one place. Declares
-- nothing.
pub use Rattle.std.proofs.Common.{Bool, Err, List, None, Some, [], add-zero, ap, append-nil, ap₂, arith, cond, drop, eq-eqb, eqb, eqb-true, false, get_or, inl, inr, le-leb, leb, leb-false, leb-true, length, lt-ltb, ltb, ltb-false, ltb-true, ne_eqb, not, refl, rules, subst, suc, sym, tests, true, zero, ℕ, ◌&&◌, ◌*◌, ◌++◌, ◌+◌, ◌-◌, ◌/◌, ◌<◌, ◌||◌, ◌∙◌, ◌∷◌, ◌≡◌, ◌≤◌, ◌⊎◌}
pub use Rattle.std.proofs.lemmas.Option.{none-some, same_Some}
pub use Rattle.std.proofs.lemmas.Result.{err_from_is_err_and}
pub use Prim.Native.String.{String}
pub use borrow.Author.Tests.{eqb-false, lt-leb, not-false, not-true}
pub use lib.ListN.{get_or-eq_default}
pub use lib.Seq.{length-sets, sets}
pub use mathlib.Core.Bool.{and-false, and-true, and_comm, or-false, or-true}
pub use mathlib.Core.Option.{Option, none, some}
pub use Rattle.chars.proofs.Bools.{and-both, clash, or-neither}
pub use Rattle.chars.proofs.Prefix.{end, passed, stopped}
pub use Rattle.chars.proofs.theorems.Promises.{class-laws, code_laws, text-laws}
unfoldable pub use Rattle.chars.specs.code.Text.{charEnd}
unfoldable pub use Rattle.chars.specs.computed.Runs.{afterRun}
pub use Rattle.chars.specs.paper.Classes.{asciiSigns}
unfoldable pub use Rattle.chars.specs.paper.Classes.{isIdChar, isIdStart, isOpSign, isPrintable}
pub use Rattle.chars.specs.paper.Quoted.{between, codes, oneOf}
pub use Rattle.chars.specs.paper.Text.{Char, Text, headIs, idStart, idChar, place}
unfoldable pub use Rattle.chars.specs.paper.Text.{from}
pub use Rattle.chars.specs.promises.Classes.{lowStart}
pub use Rattle.chars.specs.promises.Codes.{alike, every}
pub use Rattle.chars.specs.promises.Texts.{Suffix}
pub use Rattle.words.proofs.Stores.{sets-append}
unfoldable pub use Rattle.token.specs.code.Ascii.{signNumber}
pub use Rattle.token.specs.code.ByteClass.{asksMore, backtickClass, blankClass, classAt, crClass, digitClass, inLineEnd, inOperator, inRun, inWord, isSign, keywordClass, lfClass, otherClass, quoteClass, signKeywordClass, slashClass, startsWord, tickClass, upToBlank, wideClass}
unfoldable pub use Rattle.token.specs.code.ByteClass.{classOf}
pub use Rattle.token.specs.code.Charsym.{endOf, escapedChar}
unfoldable pub use Rattle.token.specs.code.Charsym.{plainOf, runSymbolEnd, symbolOf}
pub use Rattle.token.specs.code.Cursor.{cursorAt}
pub use Rattle.token.specs.code.Form.{headNumber, plainForm}
unfoldable pub use Rattle.token.specs.code.Form.{byForm, formOf, headBytes}
unfoldable pub use Rattle.token.specs.code.Gap.{closedOf}
pub use Rattle.token.specs.code.Ident.{asciiSign, runBefore, signIn}
unfoldable pub use Rattle.token.specs.code.Keyword.{keywordOf, numberOr}
unfoldable pub use Rattle.token.specs.code.Loops.{stepsWhile}
pub use Rattle.token.specs.code.Names.{hereOf, lowBefore, runChar, runTo, wordChar}
unfoldable pub use Rattle.token.specs.code.Names.{bytesTo}
pub use Rattle.token.specs.code.Piece.{PieceAnswer, tokenTo}
unfoldable pub use Rattle.token.specs.code.Piece.{pieceOf}
pub use Rattle.token.specs.code.Records.{Reaches, Standing, State, Trail, answerOf, begun, countedFrom, eofAt, gapGoes, lineEndAt, measuredFrom, noneCounted, storedFrom, tokensOn, trailFrom, withToken}
unfoldable pub use Rattle.token.specs.code.Records.{counting, countingAll, storedIf, stores, trail}
pub use Rattle.token.specs.code.Refusal.{refusedBy, refusedFor}
unfoldable pub use Rattle.token.specs.code.Refusal.{refusalBy}
pub use Rattle.token.specs.code.String.{endAt, escEnd, tickEnd}
unfoldable pub use Rattle.token.specs.code.String.{backtickOf, escapeOf}
pub use Rattle.token.specs.code.Walk.{Counted, Good, LeftTo, Prefixes, Refuses, Steps, beginning, blockBehind, commentBehind, gapAt, gapOf, lineBehind, movedTo, needAt, stateAt, tokenBehind}
unfoldable pub use Rattle.token.specs.code.Walk.{nameNumber, operatorNumber}
pub use Rattle.token.specs.computed.Answer.{Answer, Esc, Found, Start, backtickOr, blockOr, broken, escapedOf, gapBefore, prefixedOf, prepend, refused, runOr, scanAs, tickNext, tokenized, unbroken, wordOr}
unfoldable pub use Rattle.token.specs.computed.Answer.{afterIdent, afterSlash, close, closeString, codesTo, orPrefixed, scan, scanBacktick, scanBlock, scanCharSym, scanIdent, scanLine, scanNumber, scanOperator, scanReturn, scanString, signOf, startOf, walk}
pub use Rattle.token.specs.computed.Flags.{Gap, GapKind, cutOf, fresh, push}
pub use Rattle.token.specs.declared.counts.Counts.{Counts}
pub use Rattle.token.specs.declared.counts.Need.{Need}
pub use Rattle.token.specs.declared.cursor.Cursor.{Cursor}
pub use Rattle.token.specs.declared.kinds.Form.{Form}
pub use Rattle.token.specs.declared.kinds.Kw.{Kw}
pub use Rattle.token.specs.declared.kinds.TokenKind.{TokenKind}
pub use Rattle.token.specs.declared.names.Here.{Here}
pub use Rattle.token.specs.declared.refusal.Refused.{Refused}
pub use Rattle.token.specs.declared.walk.Stand.{Stand}
pub use Rattle.token.specs.paper.Kinds.{Token, kindNumber, symbolKeywords, wordKeywords}
unfoldable pub use Rattle.token.specs.paper.Kinds.{runOf, wordOf}
pub use Rattle.token.specs.paper.Records.{exactNeed, headLength, intLength, lineLength, longLength, valueNeed}
unfoldable pub use Rattle.token.specs.paper.Records.{fieldsOf, headOf, recordBytes, recordLength, recordOf, records, values}
unfoldable pub use Rattle.token.specs.paper.Shapes.{HasShape, Stands}
pub use Rattle.token.specs.paper.Shapes.{both}
pub use Rattle.token.specs.paper.Tests.{apostrophe, backslash, digit, digitValue, endOfLine, freeSign, isAny, notBacktick, opSign, opensBlock, opensComment, opensLine, plainChar, quote}
unfoldable pub use Rattle.token.specs.paper.Tests.{begins, isDigit}
pub use Rattle.token.proofs.Base.{by-test, code-is, ok-parts, zero-one}
pub use Rattle.token.proofs.Classes.{no-sign, no-start, nul-no-sign, sign-byte, sign-no-semi, sign-not, slash-no-start, start-not, under-no-id}
