-- What a byte is, as `byte_class` tells it: one number, whose order and bits are the classes.
use Rattle.std.specs.Prelude.{ℕ, ◌*◌, ◌/◌, ◌%◌, Bool, if◌then◌else◌, ◌||◌, List, slice_index, ◌==◌, nat_le}
use Rattle.chars.specs.paper.Quoted.{between, oneOf}
use Rattle.chars.specs.paper.Classes.{asciiSigns}
use Rattle.chars.specs.promises.Classes.{lowStart}
use Rattle.token.specs.code.Ascii.{signNumber}

-- ---- the classes

abbrev pub blankClass : ℕ
blankClass = 34

-- what begins no token
abbrev pub otherClass : ℕ
otherClass = 36

abbrev pub crClass : ℕ
crClass = 38

abbrev pub tickClass : ℕ
tickClass = 40

abbrev pub backtickClass : ℕ
backtickClass = 42

abbrev pub lfClass : ℕ
lfClass = 45

abbrev pub digitClass : ℕ
digitClass = 64

-- an id start; `$`; the first letter of one of the nine words
abbrev pub startClass : ℕ
startClass = 80

abbrev pub dollarClass : ℕ
dollarClass = 81

abbrev pub keywordClass : ℕ
keywordClass = 82

abbrev pub quoteClass : ℕ
quoteClass = 129

-- past ASCII
abbrev pub wideClass : ℕ
wideClass = 130

abbrev pub slashClass : ℕ
slashClass = 142

-- an operator sign other than `/`; a backslash
abbrev pub signClass : ℕ
signClass = 160

abbrev pub backslashClass : ℕ
backslashClass = 161

-- the first sign of one of the five operators that are keywords
abbrev pub signKeywordClass : ℕ
signKeywordClass = 162

-- the class of a byte; of one of the nine signs twice its kind's number
unfoldable pub classOf : ℕ → ℕ
classOf b =
    if nat_le 0x80 b then wideClass
    else if oneOf "()[]{},;." b then 2 * signNumber b
    else if oneOf " \t" b then blankClass
    else if b == 0x0D then crClass
    else if b == 0x27 then tickClass
    else if b == 0x60 then backtickClass
    else if b == 0x0A then lfClass
    else if between 0x30 0x39 b then digitClass
    else if b == 0x24 then dollarClass
    else if oneOf "cefimrt" b then keywordClass
    else if lowStart b then startClass
    else if b == 0x22 then quoteClass
    else if b == 0x2F then slashClass
    else if b == 0x5C then backslashClass
    else if oneOf ":=#@" b then signKeywordClass
    else if oneOf asciiSigns b then signClass
    else otherClass

-- of the byte at a place; past the end that of 0, with which no token begins
abbrev pub classAt : List ℕ → ℕ → ℕ
classAt s i = classOf (slice_index s i)

-- ---- what a class says

-- one of the nine signs, or a blank
abbrev pub upToBlank : ℕ → Bool
upToBlank e = nat_le e blankClass

-- an ASCII id start, where no sign stands
abbrev pub startsWord : ℕ → Bool
startsWord e = e / 16 % 2 == 1

-- an ASCII id character or `_`
abbrev pub inWord : ℕ → Bool
inWord e = e / 64 % 2 == 1

-- a quote, past ASCII, or an operator sign: it may make more of the word or the run that it follows directly
abbrev pub asksMore : ℕ → Bool
asksMore e = nat_le 128 e

-- past ASCII, or an operator sign: it may make more of the run of signs that it follows directly
abbrev pub inOperator : ℕ → Bool
inOperator e = nat_le wideClass e

-- an ASCII operator sign; one other than `/`
abbrev pub isSign : ℕ → Bool
isSign e = nat_le slashClass e

abbrev pub inRun : ℕ → Bool
inRun e = nat_le signClass e

-- it stands for itself in every string: no LF, quote, `$` or backslash
abbrev pub isOrdinary : ℕ → Bool
isOrdinary e = e % 2 == 0

-- LF or CR, of which line ends are made
abbrev pub inLineEnd : ℕ → Bool
inLineEnd e = e == lfClass || e == crClass
