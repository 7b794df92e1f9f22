-- The answer for a script, computed: its tokens with their values, or a refusal's number and place. With the declared part it shares: the
-- script as a text and a text's place (`from`, `place`); the character classes; the tests of what a text begins with, and a digit's value
-- (`Tests`); the keywords' texts (`wordOf`, `runOf`); what a token is (`Token`). Of shapes, readings, values, marks, cuts and refusals it shares
-- nothing. With the code it shares the enums `Kw` and `TokenKind`.
use Rattle.std.specs.Prelude.{ℕ, zero, suc, ◌+◌, ◌*◌, ◌-◌, Bool, true, false, if◌then◌else◌, not, ◌&&◌, ◌||◌, List, [], ◌∷◌, map, reverse, length, take, drop, ◌==◌, nat_le}
use Rattle.std.proofs.Math.Option.{Option, none, some}
use Rattle.chars.specs.paper.Text.{Char, Text, from, place, idStart}
use Rattle.chars.specs.computed.Runs.{afterRun}
use Rattle.chars.specs.paper.Classes.{isIdChar}
use Rattle.token.specs.paper.Tests.{isDigit, isHexDigit, isAny, begins, opensLine, opensBlock, closesBlock, opensComment, endOfLine, quote, threeQuotes, backslash, dollarBrace, digit, digitValue, hexAhead, letterL, opSign, freeSign, notBacktick, apostrophe, plainChar}
use Rattle.token.specs.computed.Flags.{Gap, GapKind, fresh, push, cutOf}
use Rattle.token.specs.paper.Kinds.{wordOf, runOf, Token}
use Rattle.token.specs.declared.kinds.Kw.{Kw}
use Rattle.token.specs.declared.kinds.TokenKind.{TokenKind}
use Rattle.token.specs.declared.kinds.TokenKind.TheVariants as tk

-- what stands at a piece's start: a gap piece or a token and the text that follows it, or a refusal's number and the text from its place on
pub data Found : Type 0 where
  gap : GapKind → Text → Found
  token : TokenKind → Text → Found
  stuck : ℕ → Text → Found

-- the codes of the text between s and r
unfoldable pub codesTo : Text → Text → List ℕ
codesTo s r = map (λ (c : Char). c.code) (take (length s - length r) s)

-- ---- gap pieces

unfoldable pub scanReturn : Text → Found
scanReturn s = if begins "\r\n" s then Found.gap GapKind.lineEnd (drop 2 s) else Found.stuck 1 s

unfoldable pub scanLine : Text → Found
scanLine s = Found.gap GapKind.lineComment (afterRun (λ t. not (endOfLine t)) (drop 2 s))

-- from inside of (suc d) open comments, after k characters that are passed: what follows the outermost's end
unfoldable pub close : ℕ → ℕ → Text → Option Text
close d k [] = none
close d (suc k) (c ∷ s) = close d k s
close d zero (c ∷ s) =
    let closed : Option Text = elim d [ zero ↦ some (drop 1 s) | suc e ↦ close e 1 s ] in
    let opened = close (suc d) 1 s in
    let next = close d 0 s in
    if closesBlock (c ∷ s) then closed else if opensBlock (c ∷ s) then opened else next

abbrev pub blockOr : Text → Option Text → Found
blockOr s none = Found.stuck 2 s
blockOr s (some r) = Found.gap GapKind.blockComment r

unfoldable pub scanBlock : Text → Found
scanBlock s = blockOr s (close 0 0 (drop 2 s))

-- ---- numbers

-- digits' value, and what follows them
pub data Numeral : Type 0 where
  numeral : ℕ → Text → Numeral

unfoldable pub readDigits : (ℕ → Bool) → ℕ → ℕ → Text → Numeral
readDigits p b v [] = numeral v []
readDigits p b v (c ∷ s) =
    let more = readDigits p b (v * b + digitValue c.code) s in
    if p c.code then more else numeral v (c ∷ s)

abbrev pub numberOf : Text → Numeral → Found
numberOf s (numeral v r) =
    if letterL r then (if nat_le v 9223372036854775807 then Found.token (tk.LongLit v) (drop 1 r) else Found.stuck 6 s)
    else if nat_le v 2147483647 then Found.token (tk.IntLit v) r
    else Found.stuck 6 s

unfoldable pub scanNumber : Text → Found
scanNumber s =
    let hex = readDigits isHexDigit 16 0 (drop 2 s) in
    let dec = readDigits isDigit 10 0 s in
    numberOf s (if hexAhead s then hex else dec)

-- ---- escapes: from behind the backslash, how many characters the escape has, or its refusal

pub data Esc : Type 0 where
  unbroken : ℕ → Esc
  broken : ℕ → Text → Esc

-- n hex digits, after k characters
unfoldable pub exactHexes : ℕ → ℕ → Text → Esc
exactHexes zero k s = unbroken k
exactHexes (suc n) k [] = broken 13 []
exactHexes (suc n) k (c ∷ s) =
    let more = exactHexes n (suc k) s in
    if isHexDigit c.code then more else broken 13 (c ∷ s)

-- at most n digits more, after k characters
unfoldable pub digitsUpTo : ℕ → ℕ → Text → ℕ
digitsUpTo zero k s = k
digitsUpTo (suc n) k [] = k
digitsUpTo (suc n) k (c ∷ s) =
    let more = digitsUpTo n (suc k) s in
    if isDigit c.code then more else k

unfoldable pub afterSlash : Text → Esc
afterSlash [] = broken 12 []
afterSlash (c ∷ s) =
    let number = unbroken (digitsUpTo 2 1 s) in
    let unicode = exactHexes 4 1 s in
    if isAny "btnfr'\"]" (c ∷ s) then unbroken 1
    else if isDigit c.code then number
    else if isAny "u" (c ∷ s) then unicode
    else broken 14 (c ∷ s)

-- ---- strings: from behind the opening, what follows the string, or its refusal

pub data Closing : Type 0 where
  closed : Text → Closing
  wrong : ℕ → Text → Closing

-- a plain single string, after k characters that are passed
unfoldable pub closePlain : ℕ → Text → Closing
closePlain k [] = wrong 7 []
closePlain (suc k) (c ∷ s) = closePlain k s
closePlain zero (c ∷ s) =
    let escape : Closing = elim (afterSlash s) [ unbroken n ↦ closePlain n s | broken j q ↦ wrong j q ] in
    let next = closePlain 0 s in
    if quote (c ∷ s) then closed s
    else if isAny "\n" (c ∷ s) then wrong 8 (c ∷ s)
    else if backslash (c ∷ s) then escape
    else next

-- a prefixed single string
unfoldable pub closePrefixed : Text → Closing
closePrefixed [] = wrong 7 []
closePrefixed (c ∷ s) =
    let next = closePrefixed s in
    if quote (c ∷ s) then closed s
    else if isAny "\n" (c ∷ s) then wrong 8 (c ∷ s)
    else if dollarBrace (c ∷ s) then wrong 11 (c ∷ s)
    else next

-- a triple; p: it is prefixed
unfoldable pub closeTriple : Bool → Text → Closing
closeTriple p [] = wrong 9 []
closeTriple p (c ∷ s) =
    let end = closed (afterRun quote (c ∷ s)) in
    let next = closeTriple p s in
    if threeQuotes (c ∷ s) then end
    else if backslash (c ∷ s) then wrong 10 (c ∷ s)
    else if p && dollarBrace (c ∷ s) then wrong 11 (c ∷ s)
    else next

-- from the opening on
unfoldable pub closeString : Bool → Text → Closing
closeString p s =
    let triple = closeTriple p (drop 3 s) in
    let plain = closePlain 0 (drop 1 s) in
    let prefixed = closePrefixed (drop 1 s) in
    if threeQuotes s then triple else if p then prefixed else plain

-- the content of a text of k characters that ends at e; t is the text and what was dropped behind it, back the text turned round
unfoldable pub strip : ℕ → Text → Text → ℕ → TokenKind
strip k [] back e = tk.Str e e
strip k (c ∷ t) back e =
    let both = strip (k - 2) t (drop 1 back) (place e back) in
    let front = strip (k - 1) t back e in
    if k == 0 then tk.Str e e else if quote (c ∷ t) then (if nat_le 2 k && quote back then both else front) else tk.Str c.at e

unfoldable pub plainContent : ℕ → Text → Text → TokenKind
plainContent n s r =
    let t = take (length s - length r) s in
    strip (length t) t (reverse t) (place n r)

abbrev pub plainOf : ℕ → Text → Closing → Found
plainOf n s (closed r) = Found.token (plainContent n s r) r
plainOf n s (wrong j q) = Found.stuck j q

unfoldable pub scanString : ℕ → Text → Found
scanString n s = plainOf n s (closeString false s)

-- a string prefixed by the text from s to m
abbrev pub prefixedOf : ℕ → Text → Closing → Found
prefixedOf n s (closed r) = Found.token (tk.Str (place n s) (place n r)) r
prefixedOf n s (wrong j q) = Found.stuck j q

-- an identifier or a backtick from s to r, or the string that it prefixes
unfoldable pub orPrefixed : ℕ → TokenKind → Text → Text → Found
orPrefixed n k s r =
    let string = prefixedOf n s (closeString true r) in
    if quote r then string else Found.token k r

-- ---- identifiers and operators

-- what follows an identifier's rest; u: a `_` came last
unfoldable pub afterIdent : Bool → Text → Text
afterIdent u [] = []
afterIdent u (c ∷ s) =
    let id = afterIdent false s in
    let under = afterIdent true s in
    let signs = afterRun opSign (c ∷ s) in
    if isIdChar c.code then id
    else if isAny "_" (c ∷ s) then under
    else if u then signs
    else c ∷ s

abbrev pub wordOr : ℕ → Text → Text → Option Kw → Found
wordOr n s r none = orPrefixed n tk.Ident s r
wordOr n s r (some k) = Found.token (tk.Kw k) r

unfoldable pub scanIdent : ℕ → Text → Found
scanIdent n s =
    let r = afterIdent false (drop 1 s) in
    wordOr n s r (wordOf (codesTo s r))

abbrev pub runOr : Text → Option Kw → Found
runOr r none = Found.token tk.OpId r
runOr r (some k) = if opensComment r then Found.token tk.OpId r else Found.token (tk.Kw k) r

unfoldable pub scanOperator : Text → Found
scanOperator s =
    let r = afterRun freeSign s in
    runOr r (runOf (codesTo s r))

-- ---- backticks

abbrev pub backtickOr : ℕ → Text → Text → Found
backtickOr n s [] = Found.stuck 4 s
backtickOr n s (c ∷ r) = orPrefixed n tk.BacktickId s r

unfoldable pub scanBacktick : ℕ → Text → Found
scanBacktick n s =
    let name = backtickOr n s (afterRun notBacktick (drop 1 s)) in
    if isAny "`" (drop 1 s) then Found.stuck 5 s else name

-- ---- characters and symbols, from the `'` on

abbrev pub tickNext : Text → Found
tickNext r = if apostrophe r then Found.token tk.CharSym (drop 1 r) else Found.stuck 15 r

abbrev pub escapedOf : Text → Esc → Found
escapedOf m (unbroken k) = tickNext (drop k m)
escapedOf m (broken j q) = Found.stuck j q

unfoldable pub scanCharSym : Text → Found
scanCharSym s =
    let m = drop 1 s in
    let escaped = escapedOf (drop 1 m) (afterSlash (drop 1 m)) in
    let word = Found.token tk.CharSym (afterIdent false (drop 1 m)) in
    let run = Found.token tk.CharSym (afterRun freeSign m) in
    if backslash m then escaped
    else if plainChar m && apostrophe (drop 1 m) then Found.token tk.CharSym (drop 2 m)
    else if idStart m then word
    else if freeSign m then run
    else if isAny ";" m && not (opSign (drop 1 m)) then Found.token tk.CharSym (drop 1 m)
    else Found.stuck 16 m

-- ---- one piece: by what its first characters are

pub data Start : Type 0 where
  line block blank lf cr sign number word operator backtick string charSym other : Start

-- Where `//` or `/*` stands at a piece's start, the piece is a comment: these come first.
unfoldable pub startOf : Text → Start
startOf s =
    if opensLine s then Start.line
    else if opensBlock s then Start.block
    else if isAny " \t" s then Start.blank
    else if isAny "\n" s then Start.lf
    else if isAny "\r" s then Start.cr
    else if isAny "()[]{},;." s then Start.sign
    else if digit s then Start.number
    else if idStart s then Start.word
    else if opSign s then Start.operator
    else if isAny "`" s then Start.backtick
    else if quote s then Start.string
    else if apostrophe s then Start.charSym
    else Start.other

-- does the text begin with a character with which some shape starts? Else it is Start.other, and refusal 3.
abbrev pub starts : Text → Bool
starts s =
    isAny " \t" s || isAny "\n" s || isAny "\r" s || isAny "()[]{},;." s || digit s || idStart s || opSign s || isAny "`" s || quote s
    || apostrophe s

unfoldable pub signOf : Text → TokenKind
signOf s =
    if isAny "(" s then tk.LParen
    else if isAny ")" s then tk.RParen
    else if isAny "[" s then tk.LBracket
    else if isAny "]" s then tk.RBracket
    else if isAny "{" s then tk.LBrace
    else if isAny "}" s then tk.RBrace
    else if isAny "," s then tk.Comma
    else if isAny ";" s then tk.Semi
    else tk.Dot

abbrev pub scanAs : ℕ → Start → Text → Found
scanAs n Start.blank s = Found.gap GapKind.blank (drop 1 s)
scanAs n Start.lf s = Found.gap GapKind.lineEnd (drop 1 s)
scanAs n Start.cr s = scanReturn s
scanAs n Start.line s = scanLine s
scanAs n Start.block s = scanBlock s
scanAs n Start.sign s = Found.token (signOf s) (drop 1 s)
scanAs n Start.number s = scanNumber s
scanAs n Start.word s = scanIdent n s
scanAs n Start.operator s = scanOperator s
scanAs n Start.backtick s = scanBacktick n s
scanAs n Start.string s = scanString n s
scanAs n Start.charSym s = scanCharSym s
scanAs n Start.other s = Found.stuck 3 s

unfoldable pub scan : ℕ → Text → Found
scan n s = scanAs n (startOf s) s

-- ---- the whole script

-- the script's tokens, or a refusal's number and place
pub data Answer : Type 0 where
  tokenized : List Token → Answer
  refused : ℕ → ℕ → Answer

abbrev pub prepend : Token → Answer → Answer
prepend t (tokenized ts) = tokenized (t ∷ ts)
prepend t (refused j a) = refused j a

-- only a line end has a token
abbrev pub gapBefore : GapKind → ℕ → ℕ → Bool → Answer → Answer
gapBefore GapKind.blank a e mark w = w
gapBefore GapKind.lineEnd a e mark w = prepend (record { kind = tk.Newline mark; start = a; end = e; cut = false }) w
gapBefore GapKind.lineComment a e mark w = w
gapBefore GapKind.blockComment a e mark w = w

-- the answer from the text on, after k characters that are passed, in a script of n bytes
unfoldable pub walk : ℕ → ℕ → Gap → Text → Answer
walk n k g [] = tokenized (record { kind = tk.Eof; start = n; end = n; cut = cutOf g } ∷ [])
walk n (suc k) g (c ∷ s) = walk n k g s
walk n zero g (c ∷ s) =
    elim (scan n (c ∷ s)) [
      | gap p r ↦ gapBefore p c.at (place n r) g.comment (walk n (length s - length r) (push p g) s)
      | token t r ↦ prepend (record { kind = t; start = c.at; end = place n r; cut = cutOf g }) (walk n (length s - length r) fresh s)
      | stuck j q ↦ refused j (place n q)
    ]

unfoldable pub answer : List ℕ → Answer
answer script = walk (length script) 0 fresh (from script 0)
