-- RULES, "Pieces" to "Symbol", declared: the shape of every kind. RULES, "Shape": "A shape says which texts a kind can have. It is judged from where
-- the piece starts, on the script's own characters: where a rule asks something of what follows the piece, that is what stands behind it in this
-- script." So it is a relation between two texts, s from where the piece starts and r that follows it.
use Rattle.std.specs.Prelude.{ℕ, suc, ◌≤◌, ◌+◌, ◌*◌, ◌-◌, ◌^◌, ◌≡◌, Bool, true, IsTrue, false, IsFalse, not, ◌&&◌, ◌⊎◌, List, [], ◌∷◌, map, length, take, drop}
use Rattle.std.proofs.Math.Option.{none, some}
use Rattle.chars.specs.paper.Text.{Char, Text, idStart, idChar}
use Rattle.token.specs.paper.Tests.{isAny, opensBlock, closesBlock, opensComment, endOfLine, quote, threeQuotes, backslash, dollarBrace, digit, hexDigit, digitValue, hexAhead, letterL, opSign, freeSign, notBacktick, apostrophe, plainChar}
use Rattle.token.specs.paper.Kinds.{Kind, TokenType, isComment, wordOf, runOf}

-- ---- what shapes are made of

abbrev pub Shape : Type 1
Shape = Text → Text → Type 0

-- the quoted or otherwise tested first character, and what follows it
pub data One (p : Text → Bool) : Text → Text → Type 0 where
  one : {c : Char} {s : Text} → IsTrue (p (c ∷ s)) → One p (c ∷ s) s

-- zero or more characters that pass the test, which sees the text from that character on
pub data Run (p : Text → Bool) : Text → Text → Type 0 where
  stop : {s : Text} → Run p s s
  next : {c : Char} {s r : Text} → IsTrue (p (c ∷ s)) → Run p s r → Run p (c ∷ s) r

-- one or more
pub data Run1 (p : Text → Bool) : Text → Text → Type 0 where
  run : {c : Char} {s r : Text} → IsTrue (p (c ∷ s)) → Run p s r → Run1 p (c ∷ s) r

-- exactly n
pub data Times (p : Text → Bool) : ℕ → Text → Text → Type 0 where
  done : {s : Text} → Times p 0 s s
  more : {n : ℕ} {c : Char} {s r : Text} → IsTrue (p (c ∷ s)) → Times p n s r → Times p (suc n) (c ∷ s) r

-- at most n, as many as stand there
pub data UpTo (p : Text → Bool) : ℕ → Text → Text → Type 0 where
  full : {s : Text} → UpTo p 0 s s
  fewer : {n : ℕ} {s : Text} → IsFalse (p s) → UpTo p (suc n) s s
  more : {n : ℕ} {c : Char} {s r : Text} → IsTrue (p (c ∷ s)) → UpTo p n s r → UpTo p (suc n) (c ∷ s) r

-- one shape, then another
pub data ◌then◌ (R S : Shape) (s r : Text) : Type 0 where
  both : {m : Text} → R s m → S m r → ◌then◌ R S s r

infixr 60 ◌then◌
-- RULES, "Longest": "A piece is longest where no longer text from the same start has that shape."
abbrev pub Longest : Shape → Shape
Longest R s r = R s r × ((q : Text) → R s q → length r ≤ length q)

-- the text between s and r
abbrev pub textOf : Text → Text → Text
textOf s r = take (length s - length r) s

abbrev pub codesOf : Text → Text → List ℕ
codesOf s r = map (λ (c : Char). c.code) (textOf s r)

-- ---- Gap pieces

-- RULES, "Blank": "One space or one tab."
abbrev pub Blank : Shape
Blank s r = One (isAny " \t") s r

-- RULES, "Line end": "LF, or CR LF."
abbrev pub LineEnd : Shape
LineEnd s r = One (isAny "\n") s r ⊎ (One (isAny "\r") then One (isAny "\n")) s r

-- RULES, "Line comment": "`//` and all that follows up to the first line end, which is not part of it, or up to the script's end."
abbrev pub LineComment : Shape
LineComment s r = (Times (isAny "/") 2 then Run (λ t. not (endOfLine t))) s r × IsTrue (endOfLine r)

mutual
  -- RULES, "Block comment": "`/*`, then items, then `*/`."
  pub data Block : Text → Text → Type 0 where
    block : {s t u r : Text} → (One (isAny "/") then One (isAny "*")) s t → Items t u → (One (isAny "*") then One (isAny "/")) u r → Block s r

  -- "An item is a whole block comment, or one character at which neither `/*` nor `*/` begins."
  pub data Item : Text → Text → Type 0 where
    comment : {s r : Text} → Block s r → Item s r
    char : {c : Char} {s : Text} → IsFalse (opensBlock (c ∷ s)) → IsFalse (closesBlock (c ∷ s)) → Item (c ∷ s) s

  -- items: zero or more
  pub data Items : Text → Text → Type 0 where
    done : {s : Text} → Items s s
    item : {s m r : Text} → Item s m → Items m r → Items s r

-- ---- Number

-- the value of digits in base b, the most significant first
unfoldable pub valueOfDigits : ℕ → List ℕ → ℕ
valueOfDigits b [] = 0
valueOfDigits b (d ∷ ds) = digitValue d * b ^ length ds + valueOfDigits b ds

-- RULES, "Number": "Where `0x` and a hexadecimal digit stand, its digits are the longest run of hexadecimal digits behind `0x`; else they are the
-- longest run of digits." "Its value is that of its digits, in base 16 behind `0x`, else in base ten."
pub data Digits : ℕ → Text → Text → Type 0 where
  hex : {s r : Text} → IsTrue (hexAhead s) → Longest (Run1 hexDigit) (drop 2 s) r → Digits (valueOfDigits 16 (codesOf (drop 2 s) r)) s r
  dec : {s r : Text} → IsFalse (hexAhead s) → Longest (Run1 digit) s r → Digits (valueOfDigits 10 (codesOf s r)) s r

-- "An `L` or `l` directly behind belongs to it." (true); else none stands there
abbrev pub LongSuffix : Bool → Shape
LongSuffix true s r = One letterL s r
LongSuffix false s r = (s ≡ r) × IsFalse (letterL s)

-- "With that letter it is a LongLit, of at most 9223372036854775807, without it an IntLit, of at most 2147483647."
abbrev pub limit : Bool → ℕ
limit true = 9223372036854775807
limit false = 2147483647

-- the text of a number of the value v, however large
abbrev pub NumberText : Bool → ℕ → Shape
NumberText long v s r = (Digits v then LongSuffix long) s r

abbrev pub Number : Bool → Shape
Number long s r = (v : ℕ) × NumberText long v s r × (v ≤ limit long)

-- ---- Identifier

-- RULES, "Identifier": "A chunk is any number of `_` and behind them one or more id characters."
pub data Chunks : Text → Text → Type 0 where
  done : {s : Text} → Chunks s s
  chunk : {s m r : Text} → (Run (isAny "_") then Run1 idChar) s m → Chunks m r → Chunks s r

-- perhaps a tail: "A tail is one or more `_` and behind them any number of operator signs. In a tail `//` and `/*` do not stop the signs."
abbrev pub Tail : Shape
Tail s r = (s ≡ r) ⊎ (Run1 (isAny "_") then Run opSign) s r

-- "An id start, then chunks, then perhaps a tail; longest."
abbrev pub Ident : Shape
Ident s r = Longest (One idStart then Chunks then Tail) s r

-- one that is no keyword
abbrev pub PlainIdent : Shape
PlainIdent s r = Ident s r × (wordOf (codesOf s r) ≡ none)

-- ---- RULES, "Operator": "The longest run of one or more operator signs at none of which `//` or `/*` begins."

abbrev pub Operator : Shape
Operator s r = Longest (Run1 freeSign) s r

-- ---- RULES, "Backtick": "A backtick, one or more characters that are none, and a backtick."

abbrev pub Backtick : Shape
Backtick s r = (One (isAny "`") then Run1 notBacktick then One (isAny "`")) s r

-- ---- RULES, "Escape": "A backslash, and behind it one of"

pub data Escape : Text → Text → Type 0 where
  -- "the eight characters `b t n f r ' " ]`;"
  simple : {s r : Text} → (One backslash then One (isAny "btnfr'\"]")) s r → Escape s r
  -- "one to three digits from `0` to `9`, as many of them as stand there, so 8 and 9 too;"
  digits : {s r : Text} → (One backslash then One digit then UpTo digit 2) s r → Escape s r
  -- "`u` and four hexadecimal digits."
  hexes : {s r : Text} → (One backslash then One (isAny "u") then Times hexDigit 4) s r → Escape s r

-- ---- String, from its opening on; p: it is prefixed

-- RULES, "String": "In a prefixed string of either form a `$` is content unless `{` follows; `${` is refused by 11."
abbrev pub allowed : Bool → Text → Bool
allowed true s = not (dollarBrace s)
allowed false s = true

-- content of a single string that is no escape: no quote, no LF; in a plain one no backslash, in a prefixed one it is content
abbrev pub singleChar : Bool → Text → Bool
singleChar true s = not (quote s) && not (isAny "\n" s) && allowed true s
singleChar false s = not (quote s) && not (isAny "\n" s) && not (backslash s)

-- RULES, "Single string": "It ends at the next quote that is not in an escape, and holds no LF. In a plain one every backslash opens an escape, which
-- must be a valid one. In a prefixed one a backslash is content"
pub data Single : Bool → Text → Text → Type 0 where
  done : {p : Bool} {s : Text} → Single p s s
  char : {p : Bool} {c : Char} {s r : Text} → IsTrue (singleChar p (c ∷ s)) → Single p s r → Single p (c ∷ s) r
  escape : {s m r : Text} → Escape s m → Single false m r → Single false s r

-- content of a triple string: "It holds no backslash, and line ends are content."; it ends at the first three quotes in a row
abbrev pub tripleChar : Bool → Text → Bool
tripleChar p s = not (threeQuotes s) && not (backslash s) && allowed p s

-- RULES, "String": "Where three quotes stand at the opening, they open a triple string; else one opens a single string." RULES, "Triple string": "The
-- first three quotes in a row close it, together with all quotes directly behind them"
pub data Body (p : Bool) : Text → Text → Type 0 where
  single : {s r : Text} → IsFalse (threeQuotes s) → (One quote then Single p then One quote) s r → Body p s r
  triple : {s r : Text} → IsTrue (threeQuotes s) → (Times quote 3 then Run (tripleChar p) then Times quote 3 then Longest (Run quote)) s r → Body p s r

-- "an identifier that is no keyword, or a backtick, stands directly before its opening"
abbrev pub Prefix : Shape
Prefix s r = PlainIdent s r ⊎ Backtick s r

-- RULES, "String": "A string is plain, or prefixed"
abbrev pub Str : Shape
Str s r = Body false s r ⊎ (Prefix then Body true) s r

-- ---- Character and Symbol

-- RULES, "Character": "`'`, then an escape or a printable that is no backslash, then `'`."
abbrev pub Character : Shape
Character s r = (One apostrophe then Escape then One apostrophe) s r ⊎ (One apostrophe then One plainChar then One apostrophe) s r

-- "a name, which is an identifier, a keyword among them, or a run of operator signs, each the longest as above, or `;` where no operator sign follows
-- it"
abbrev pub Name : Shape
Name s r = Ident s r ⊎ Operator s r ⊎ (One (isAny ";") s r × IsFalse (opSign r))

-- RULES, "Symbol": "Where no character stands, and no backslash follows the `'`: `'` and a name"
abbrev pub Symbol : Shape
Symbol s r = (One apostrophe then Name) s r × ((q : Text) → Character s q → ⊥) × IsFalse (backslash (drop 1 s))

-- ---- the kinds

unfoldable pub TokenShape : TokenType → Shape
-- RULES, "Before a quote": "No Ident and no BacktickId ends directly before a quote"
TokenShape TokenType.ident s r = PlainIdent s r × IsFalse (quote r)
TokenShape TokenType.backtickId s r = Backtick s r × IsFalse (quote r)
-- RULES, "Keywords": the five runs, "unless `//` or `/*` follows directly; then they are an OpId."
TokenShape TokenType.opId s r = Operator s r × ((runOf (codesOf s r) ≡ none) ⊎ IsTrue (opensComment r))
TokenShape (TokenType.key k) s r =
    (Ident s r × (wordOf (codesOf s r) ≡ some k)) ⊎ (Operator s r × (runOf (codesOf s r) ≡ some k) × IsFalse (opensComment r))
TokenShape TokenType.intLit s r = Number false s r
TokenShape TokenType.longLit s r = Number true s r
TokenShape TokenType.str s r = Str s r
TokenShape TokenType.charSym s r = Character s r ⊎ Symbol s r
-- RULES, "Single signs": "`( ) [ ] { } , ; .`: each is one token."
TokenShape TokenType.lParen s r = One (isAny "(") s r
TokenShape TokenType.rParen s r = One (isAny ")") s r
TokenShape TokenType.lBracket s r = One (isAny "[") s r
TokenShape TokenType.rBracket s r = One (isAny "]") s r
TokenShape TokenType.lBrace s r = One (isAny "{") s r
TokenShape TokenType.rBrace s r = One (isAny "}") s r
TokenShape TokenType.comma s r = One (isAny ",") s r
TokenShape TokenType.semi s r = One (isAny ";") s r
TokenShape TokenType.dot s r = One (isAny ".") s r

unfoldable pub HasShape : Kind → Shape
HasShape Kind.blank s r = Blank s r
HasShape Kind.lineEnd s r = LineEnd s r
HasShape Kind.lineComment s r = LineComment s r
HasShape Kind.blockComment s r = Block s r
HasShape (Kind.token t) s r = TokenShape t s r

-- a piece of the kind stands there. RULES, "Comments first": "Where `//` or `/*` stands at a piece's start, the piece is a comment."
unfoldable pub Stands : Kind → Shape
Stands k s r = HasShape k s r × (IsTrue (opensComment s) → IsTrue (isComment k))
