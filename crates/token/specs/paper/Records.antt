-- RULES, "Records": a token's record as bytes, its length, the records of a list of tokens, the token count and the record bytes, and how
-- many bytes a script needs at most. REQUESTS, "Exact need": how many it needs.
use Rattle.std.specs.Prelude.{ℕ, ◌+◌, ◌*◌, Bool, true, false, List, [], ◌∷◌, ◌++◌, length}
use Rattle.std.specs.List.{filter}
use Rattle.words.specs.Words.{le2, le4, le8}
use Rattle.token.specs.paper.Kinds.{kindNumber, Token}
use Rattle.token.specs.declared.counts.Counts.{Counts}
use Rattle.token.specs.declared.kinds.TokenKind.{TokenKind}
use Rattle.token.specs.declared.kinds.TokenKind.TheVariants as tk

abbrev pub bit : Bool → ℕ
bit true = 1
bit false = 0

-- RULES, "Record": length of the whole record (2 bytes), kind (2), start (4), end (4), cut (1)
unfoldable pub fieldsOf : ℕ → ℕ → ℕ → ℕ → Bool → List ℕ
fieldsOf size kind start end cut = le2 size ++ (le2 kind ++ (le4 start ++ (le4 end ++ (bit cut ∷ []))))

-- a value of a record, by how many bytes it takes
pub data Value : Type 0 where
  one four eight : ℕ → Value

-- RULES, "Values": IntLit 4 bytes, LongLit 8, Str 4 and 4, content start and content end, Newline 1, its after-comment mark
abbrev pub valuesOf : TokenKind → List Value
valuesOf tk.Ident = []
valuesOf tk.OpId = []
valuesOf tk.BacktickId = []
valuesOf (tk.IntLit v) = four v ∷ []
valuesOf (tk.LongLit v) = eight v ∷ []
valuesOf (tk.Str a e) = four a ∷ four e ∷ []
valuesOf tk.CharSym = []
valuesOf tk.LParen = []
valuesOf tk.RParen = []
valuesOf tk.LBracket = []
valuesOf tk.RBracket = []
valuesOf tk.LBrace = []
valuesOf tk.RBrace = []
valuesOf tk.Comma = []
valuesOf tk.Semi = []
valuesOf tk.Dot = []
valuesOf (tk.Newline mark) = one (bit mark) ∷ []
valuesOf tk.Eof = []
valuesOf (tk.Kw k) = []

abbrev pub valueBytes : List Value → List ℕ
valueBytes [] = []
valueBytes (one v ∷ vs) = v ∷ valueBytes vs
valueBytes (four v ∷ vs) = le4 v ++ valueBytes vs
valueBytes (eight v ∷ vs) = le8 v ++ valueBytes vs

unfoldable pub values : TokenKind → List ℕ
values k = valueBytes (valuesOf k)

-- "A kind without values has 13 bytes, an IntLit 17, a LongLit 21, a Str 21, a Newline 14."
abbrev pub headLength : ℕ
headLength = 13

-- with values
abbrev pub intLength : ℕ
intLength = headLength + 4

abbrev pub longLength : ℕ
longLength = headLength + 8

abbrev pub strLength : ℕ
strLength = headLength + 8

abbrev pub lineLength : ℕ
lineLength = headLength + 1

-- "length of the whole record, values included"
unfoldable pub recordLength : TokenKind → ℕ
recordLength k = headLength + length (values k)

unfoldable pub headOf : Token → List ℕ
headOf t = fieldsOf (recordLength t.kind) (kindNumber t.kind) t.start t.end t.cut

-- "the values of the kind" stand behind the head
unfoldable pub recordOf : Token → List ℕ
recordOf t = headOf t ++ values t.kind

unfoldable pub records : List Token → List ℕ
records [] = []
records (t ∷ ts) = recordOf t ++ records ts

-- RULES, "Records of a script": "The token count is how many records these are, the record bytes are their lengths added up."
abbrev pub tokenCount : List Token → ℕ
tokenCount ts = length ts

unfoldable pub recordBytes : List Token → ℕ
recordBytes [] = 0
recordBytes (t ∷ ts) = recordLength t.kind + recordBytes ts

-- REQUESTS, "Exact need": "Counted are the tokens of a reading, line ends and Eof included, and of these the IntLits, the LongLits, the Strs and the
-- Newlines."
abbrev pub isIntLit : TokenKind → Bool
isIntLit (tk.IntLit v) = true
isIntLit _ = false

abbrev pub isLongLit : TokenKind → Bool
isLongLit (tk.LongLit v) = true
isLongLit _ = false

abbrev pub isStr : TokenKind → Bool
isStr (tk.Str a e) = true
isStr _ = false

abbrev pub isNewline : TokenKind → Bool
isNewline (tk.Newline mark) = true
isNewline _ = false

-- how many tokens of a list have such a kind
abbrev pub countOf : (TokenKind → Bool) → List Token → ℕ
countOf p ts = length (filter (λ t. p t.kind) ts)

unfoldable pub countsOf : List Token → Counts
countsOf ts = record { int_lits = countOf isIntLit ts; long_lits = countOf isLongLit ts; strs = countOf isStr ts; newlines = countOf isNewline ts }

-- "The need is 13 times the token count, plus 4 for each IntLit, 8 for each LongLit and Str, 1 for each Newline."
abbrev pub valueNeed : Counts → ℕ
valueNeed c = 4 * c.int_lits + 8 * (c.long_lits + c.strs) + c.newlines

abbrev pub exactNeed : ℕ → Counts → ℕ
exactNeed tokens c = headLength * tokens + valueNeed c

-- RULES, "Limits": 17 is met by a longer script. The tokenizer is given none.
abbrev pub mostBytes : ℕ
mostBytes = 16777216

-- RULES, "Record bound": "A script of n bytes that has a reading needs at most 17 times n plus 13 record bytes." No byte of it needs more than a digit's
-- IntLit, and Eof is without values.
-- The empty script and a script of one digit need all of it, 13 and 30 bytes.
abbrev pub perByte : ℕ
perByte = intLength

abbrev pub mostNeed : ℕ → ℕ
mostNeed n = perByte * n + headLength
