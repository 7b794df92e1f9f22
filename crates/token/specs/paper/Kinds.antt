-- RULES, "Kinds", "Reading" and "Keywords": the kinds, their numbers, and the keywords' texts.
--
-- Five types go by kinds. Two are declared, both below:
--   `Kind`       of a piece: blank, line end, line comment, block comment, or a token of a type
--   `TokenType`  of a piece that is a token, without its values. Line ends are a `Kind` of their own, and Eof is no piece.
-- One is the code's enum (`src/kinds.rt`), used on every side for what a token or record is:
--   `TokenKind`  with its values, Newline and Eof among them; `kindNumber` is its number in RULES, "Kinds"
-- Two are the computed side's own:
--   `GapKind`    (`computed/Flags`) the four of `Kind` that are no token
--   `Start`      (`computed/Answer`) what a piece's first characters are, so which pieces can stand there: no kind
use Rattle.std.specs.Prelude.{ℕ, Bool, true, false, if◌then◌else◌, List, [], ◌∷◌}
use Prim.Native.String.{String}
use Rattle.std.proofs.Math.Option.{Option, none, some}
use Rattle.chars.specs.paper.Quoted.{codes}
use Rattle.token.specs.paper.Tests.{same}
use Rattle.token.specs.declared.kinds.Kw.{Kw}
use Rattle.token.specs.declared.kinds.Kw.TheVariants as kw
use Rattle.token.specs.declared.kinds.TokenKind.{TokenKind}
use Rattle.token.specs.declared.kinds.TokenKind.TheVariants as tk

-- RULES, "Kinds": 32 to 40 are the nine words, 41 to 45 `: => = # @`
abbrev pub kwNumber : Kw → ℕ
kwNumber kw.Case = 32
kwNumber kw.Else = 33
kwNumber kw.False = 34
kwNumber kw.Function = 35
kwNumber kw.If = 36
kwNumber kw.Match = 37
kwNumber kw.Return = 38
kwNumber kw.Then = 39
kwNumber kw.True = 40
kwNumber kw.Colon = 41
kwNumber kw.FatArrow = 42
kwNumber kw.Assign = 43
kwNumber kw.Hash = 44
kwNumber kw.At = 45

-- RULES, "Kinds": 1 Ident, 2 OpId, 3 BacktickId, 4 IntLit, 5 LongLit, 6 Str, 7 CharSym, 8 to 16 `( ) [ ] { } , ; .`, 17 Newline, 18 Eof
abbrev pub kindNumber : TokenKind → ℕ
kindNumber tk.Ident = 1
kindNumber tk.OpId = 2
kindNumber tk.BacktickId = 3
kindNumber (tk.IntLit v) = 4
kindNumber (tk.LongLit v) = 5
kindNumber (tk.Str a e) = 6
kindNumber tk.CharSym = 7
kindNumber tk.LParen = 8
kindNumber tk.RParen = 9
kindNumber tk.LBracket = 10
kindNumber tk.RBracket = 11
kindNumber tk.LBrace = 12
kindNumber tk.RBrace = 13
kindNumber tk.Comma = 14
kindNumber tk.Semi = 15
kindNumber tk.Dot = 16
kindNumber (tk.Newline b) = 17
kindNumber tk.Eof = 18
kindNumber (tk.Kw k) = kwNumber k

-- a keyword with its text
pub data Word : Type 0 where
  word : String → Kw → Word

-- the keyword that has this text, if there is one
abbrev pub keyword : List Word → List ℕ → Option Kw
keyword [] t = none
keyword (word w k ∷ ws) t = if same (codes w) t then some k else keyword ws t

-- RULES, "Keywords": "Nine identifiers are keywords: `case else false function if match return then true`."
abbrev pub wordKeywords : List Word
wordKeywords =
    word "case" kw.Case ∷ word "else" kw.Else ∷ word "false" kw.False ∷ word "function" kw.Function ∷ word "if" kw.If ∷ word "match" kw.Match
    ∷ word "return" kw.Return ∷ word "then" kw.Then ∷ word "true" kw.True ∷ []

-- "Five runs of operator signs are: `:` `=>` `=` `#` `@`, unless `//` or `/*` follows directly; then they are an OpId."
abbrev pub symbolKeywords : List Word
symbolKeywords = word ":" kw.Colon ∷ word "=>" kw.FatArrow ∷ word "=" kw.Assign ∷ word "#" kw.Hash ∷ word "@" kw.At ∷ []

unfoldable pub wordOf : List ℕ → Option Kw
wordOf t = keyword wordKeywords t

unfoldable pub runOf : List ℕ → Option Kw
runOf t = keyword symbolKeywords t

-- The kinds of pieces. A kind carries no value.

-- RULES, "Reading": a token's kinds. "Newline is the kind of a line end's record. Eof has a record and is no piece."
pub data TokenType : Type 0 where
  ident opId backtickId intLit longLit str charSym : TokenType
  lParen rParen lBracket rBracket lBrace rBrace comma semi dot : TokenType
  key : Kw → TokenType

-- the token kinds that carry no value, each as the code has it: 13 bytes without values
abbrev pub withoutValues : TokenType → Option TokenKind
withoutValues TokenType.ident = some tk.Ident
withoutValues TokenType.opId = some tk.OpId
withoutValues TokenType.backtickId = some tk.BacktickId
withoutValues TokenType.intLit = none
withoutValues TokenType.longLit = none
withoutValues TokenType.str = none
withoutValues TokenType.charSym = some tk.CharSym
withoutValues TokenType.lParen = some tk.LParen
withoutValues TokenType.rParen = some tk.RParen
withoutValues TokenType.lBracket = some tk.LBracket
withoutValues TokenType.rBracket = some tk.RBracket
withoutValues TokenType.lBrace = some tk.LBrace
withoutValues TokenType.rBrace = some tk.RBrace
withoutValues TokenType.comma = some tk.Comma
withoutValues TokenType.semi = some tk.Semi
withoutValues TokenType.dot = some tk.Dot
withoutValues (TokenType.key k) = some (tk.Kw k)

-- "Its kind is blank, line end, line comment, block comment, or a token's"
pub data Kind : Type 0 where
  blank lineEnd lineComment blockComment : Kind
  token : TokenType → Kind

abbrev pub isComment : Kind → Bool
isComment Kind.blank = false
isComment Kind.lineEnd = false
isComment Kind.lineComment = true
isComment Kind.blockComment = true
isComment (Kind.token t) = false

abbrev pub isLineEnd : Kind → Bool
isLineEnd Kind.blank = false
isLineEnd Kind.lineEnd = true
isLineEnd Kind.lineComment = false
isLineEnd Kind.blockComment = false
isLineEnd (Kind.token t) = false

-- a token: its kind with its values, its place and its cut
pub record Token : Type 0 where
  pub kind : TokenKind
  pub start : ℕ
  pub end : ℕ
  pub cut : Bool
