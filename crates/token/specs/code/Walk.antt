-- Where a walk over a script stands, and what a step of it is.
use Rattle.std.specs.Prelude.{ℕ, ◌+◌, ◌-◌, ◌*◌, ◌/◌, ◌≤◌, ◌<◌, ◌≡◌, Bool, false, IsFalse, if◌then◌else◌, not, ◌&&◌, ◌||◌, List, Err, IsErr, IsTrue, length, drop, slice_index, ◌==◌}
use Rattle.token.specs.computed.Flags.{Gap}
use Rattle.token.specs.paper.Records.{headLength, lineLength, valueNeed, exactNeed}
use Rattle.chars.specs.paper.Quoted.{oneOf}
use Rattle.chars.specs.paper.Text.{from, place, idStart}
use Rattle.chars.specs.computed.Runs.{afterRun}
use Rattle.chars.specs.promises.Texts.{Suffix}
use Rattle.token.specs.paper.Tests.{opSign}
use Rattle.token.specs.paper.Kinds.{wordOf, runOf}
use Rattle.token.specs.computed.Answer.{codesTo, orPrefixed, scan, scanNumber}
use Rattle.token.specs.code.ByteClass.{classAt, lfClass, crClass, digitClass, keywordClass, quoteClass, wideClass, signKeywordClass, slashClass, upToBlank, startsWord, inWord, asksMore, inOperator, isSign, inRun, inLineEnd}
use Rattle.token.specs.code.Keyword.{numberOr}
use Rattle.token.specs.declared.kinds.TokenKind.{TokenKind}
use Rattle.token.specs.code.Form.{mostLength}
use Rattle.token.specs.code.Records.{State, Reaches, measuredFrom, storedFrom, countedFrom}
use Rattle.token.specs.code.Names.{hereOf, runTo, lowBefore, wordChar, runChar}
use Rattle.token.specs.code.Piece.{pieceOf}
use Rattle.token.specs.declared.counts.Counts.{Counts}
use Rattle.token.specs.declared.counts.Need.{Need}
use Rattle.token.specs.declared.names.Here.{Here}
use Rattle.token.specs.declared.refusal.Refused.{Refused}
use Rattle.token.specs.declared.walk.Stand.{Stand}

-- no block comment waits for a line end
abbrev pub gapOf : Bool → Bool → Bool → Gap
gapOf newline comment cut = record { newline = newline; comment = comment; pending = false; cut = cut }

-- a line end, or a comment, came since the last token exactly if no record came behind it
abbrev pub gapAt : Stand → Gap
gapAt x = gapOf (x.line == x.bytes) (x.mark == x.bytes) x.cut

-- so many record bytes, with these tokens counted: each record has a head, and the rest of the bytes are values
abbrev pub needAt : ℕ → Counts → Need
needAt bytes c = record { tokens = (bytes - valueNeed c) / headLength; bytes = bytes; counts = c }

abbrev pub stateAt : Stand → Counts → State
stateAt x c = record { at = x.at; gap = gapAt x; need = needAt x.bytes c }

-- The place is within the script, with no more record bytes than may stand before it, the class is that of the byte there, and no line end or
-- comment is counted that did not come: a number of record bytes that is too large by one stands for none.
pub record Good (s : List ℕ) (x : Stand) : Type 0 where
  pub within : x.at ≤ length s
  pub size : x.bytes ≤ mostLength * x.at
  pub class : x.class.number ≡ classAt s x.at
  pub line : x.line ≤ x.bytes + 1
  pub mark : x.mark ≤ x.bytes + 1

-- The record bytes are heads, of no more tokens than may stand before the place, and the values of those that were counted.
pub record Counted (x : Stand) (c : Counts) : Type 0 where
  pub whole : x.bytes ≡ exactNeed (needAt x.bytes c).tokens c
  pub tokens : (needAt x.bytes c).tokens ≤ x.at

-- at the script's start: no line end and no comment came, for which one byte too many stands
abbrev pub beginning : List ℕ → Stand
beginning s = record { at = 0; class = record { number = classAt s 0 }; bytes = 0; line = 1; mark = 1; cut = false }

-- ---- the next state

-- at another place, in the same gap
abbrev pub movedTo : Stand → Here → Stand
movedTo x to = record { at = to.at; class = to.class; bytes = x.bytes; line = x.line; mark = x.mark; cut = x.cut }

-- behind a token whose record has so many bytes
abbrev pub tokenBehind : Stand → Here → ℕ → Stand
tokenBehind x end size = record { at = end.at; class = end.class; bytes = x.bytes + size; line = x.line; mark = x.mark; cut = false }

-- behind a line end, and behind a comment that no cut comes of; the cut that was set stays
abbrev pub lineBehind : List ℕ → Stand → ℕ → Stand
lineBehind s x end =
    record {
      at = end;
      class = record { number = classAt s end };
      bytes = x.bytes + lineLength;
      line = x.bytes + lineLength;
      mark = x.mark;
      cut = x.cut;
    }

abbrev pub commentBehind : List ℕ → Stand → ℕ → Stand
commentBehind s x end = record { at = end; class = record { number = classAt s end }; bytes = x.bytes; line = x.line; mark = x.bytes; cut = x.cut }

-- behind a block comment and the blanks after it, where a line end came before: the cut comes of it, unless a line end follows
abbrev pub blockBehind : List ℕ → Stand → ℕ → Stand
blockBehind s x end =
    record {
      at = end;
      class = record { number = classAt s end };
      bytes = x.bytes;
      line = x.line;
      mark = x.bytes;
      cut = x.cut || not (inLineEnd (classAt s end));
    }

-- a step, or several: from the state x with the counts c and the buffer out to y with d and next
pub record Steps (s : List ℕ) (x : Stand) (c : Counts) (out : List ℕ) (y : Stand) (d : Counts) (next : List ℕ) : Type 0 where
  pub good : Good s y
  pub counted : Counted y d
  pub reaches : Reaches s (stateAt x c) out (stateAt y d) next
  -- at the place where it was nothing is stored or counted
  pub kept : y.at ≡ x.at → next ≡ out
  pub uncounted : y.at ≡ x.at → d ≡ c

-- the script is refused for what stands there, and no token more is stored or counted
pub record Refuses (s : List ℕ) (x : Stand) (c : Counts) (out : List ℕ) (e : Refused) : Type 0 where
  pub measured : measuredFrom s (stateAt x c) ≡ Err e
  pub stored : storedFrom s (stateAt x c) out ≡ out
  pub counted : countedFrom s (stateAt x c) ≡ c

-- ---- names and operators

-- What stands behind a word that begins at i and ends at e may make more of it: a quote, a character past ASCII, or a sign where a `_` came last.
abbrev pub goesOn : List ℕ → ℕ → ℕ → Bool
goesOn s i e = asksMore (classAt s e) && (not (isSign (classAt s e)) || lowBefore s i e)

-- What stands behind a run of signs at e may make more of it: a character past ASCII, or a `/` with which no comment begins.
abbrev pub runGoesOn : List ℕ → ℕ → Bool
runGoesOn s e = inOperator (classAt s e) && not (classAt s e == slashClass && oneOf "*/" (slice_index s (e + 1)))

-- What stands behind a word or a run with all its characters may make more of it: a quote, or a sign where a `_` came last; a `/` with which no comment
-- begins.
abbrev pub wholeGoesOn : List ℕ → ℕ → Here → Bool
wholeGoesOn s i e = asksMore e.class.number && (e.class.number == quoteClass || lowBefore s i e.at)

abbrev pub wholeRunGoesOn : List ℕ → Here → Bool
wholeRunGoesOn s e = e.class.number == slashClass && not (oneOf "*/" (slice_index s (e.at + 1)))

-- Each turn of the two walks below begins with a loop over ASCII. It leaves neither a blank, a single sign nor an LF; a word or a run of signs only where
-- more may be made of it.
pub record LeftAscii (s : List ℕ) (y : Stand) : Type 0 where
  pub no-sign : IsFalse (upToBlank y.class.number)
  pub no-line : IsFalse (y.class.number == lfClass)
  pub word : IsTrue (startsWord y.class.number) → IsTrue (goesOn s y.at (runTo inWord s (y.at + 1)))
  pub run : IsTrue (inRun y.class.number) → IsTrue (runGoesOn s (runTo inRun s (y.at + 1)))

-- What the walk over words leaves: neither a blank, a single sign nor a line end, an LF or a CR with an LF behind it; a word or a run of signs only
-- where more may be made of it, and a number only where it is refused.
pub record Left (s : List ℕ) (y : Stand) : Type 0 where
  pub no-sign : IsFalse (upToBlank y.class.number)
  pub no-line : IsFalse (y.class.number == lfClass)
  pub alone : IsTrue (y.class.number == crClass) → IsFalse (slice_index s (y.at + 1) == 0x0A)
  pub word : IsTrue (startsWord y.class.number) → IsTrue (goesOn s y.at (runTo inWord s (y.at + 1)))
  pub run : IsTrue (inRun y.class.number) → IsTrue (runGoesOn s (runTo inRun s (y.at + 1)))
  pub number : IsTrue (y.class.number == digitClass) → IsErr (pieceOf (length s) (scanNumber (from s y.at)))

-- What it leaves to the walk over all characters: a word or a run of signs that a character past ASCII follows.
abbrev pub pastAscii : List ℕ → Stand → Bool
pastAscii s y =
    let word = classAt s (runTo inWord s (y.at + 1)) == wideClass in
    let run = classAt s (runTo inRun s (y.at + 1)) == wideClass in
    not (upToBlank y.class.number) && startsWord y.class.number && word || inRun y.class.number && run

-- What the walk over all characters leaves: neither a blank, a single sign nor an LF; a name or a run of signs, also one of characters past ASCII, only
-- where more may be made of it.
pub record LeftWhole (s : List ℕ) (y : Stand) : Type 0 where
  pub no-sign : IsFalse (upToBlank y.class.number)
  pub no-line : IsFalse (y.class.number == lfClass)
  pub name : IsTrue (idStart (from s y.at)) → IsTrue (wholeGoesOn s y.at (hereOf s (place (length s) (afterRun wordChar (drop 1 (from s y.at))))))
  pub run : IsTrue (opSign (from s y.at)) → IsFalse (y.class.number == slashClass)
      → IsTrue (wholeRunGoesOn s (hereOf s (place (length s) (afterRun runChar (drop 1 (from s y.at))))))

-- from the place e on stands what is left of the text from i on
abbrev pub LeftTo : List ℕ → ℕ → ℕ → Type 0
LeftTo s i e = (i ≤ e) × (e ≤ length s) × Suffix (from s e) (from s i)

-- the kind's number of the word from i to e, whose first byte has the class k
unfoldable pub nameNumber : List ℕ → ℕ → ℕ → ℕ → ℕ
nameNumber s k i e = if k == keywordClass then numberOr 1 (wordOf (codesTo (from s i) (from s e))) else 1

-- the kind's number of the operator from i to its end, whose first byte has the class k: before a comment it is no keyword
unfoldable pub operatorNumber : List ℕ → ℕ → ℕ → Here → ℕ
operatorNumber s k i end =
    if not (k == signKeywordClass) || end.class.number == slashClass then 2
    else numberOr 2 (runOf (codesTo (from s i) (from s end.at)))

-- what stands from i to q prefixes the string whose opening stands at q
pub record Prefixes (s : List ℕ) (i q : ℕ) : Type 0 where
  pub kind : TokenKind
  pub on : i < q
  pub within : q ≤ length s
  pub byte : slice_index s q ≡ 0x22
  pub is : scan (length s) (from s i) ≡ orPrefixed (length s) kind (from s i) (from s q)
