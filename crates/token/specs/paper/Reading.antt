-- RULES, "Reading", "String content", "Gaps" and "Records of a script", declared: readings; string content; gaps, marks and cuts; tokens.
use Rattle.std.specs.Prelude.{ℕ, ◌≡◌, ◌≢◌, Bool, true, IsTrue, false, IsFalse, ◌||◌, ◌⊎◌, ◌↔◌, List, [], ◌∷◌, ◌++◌, length}
use Rattle.std.proofs.Math.Option.{some}
use Rattle.chars.specs.paper.Text.{Char, Text, from, place}
use Rattle.token.specs.paper.Tests.{isAny, endsLine, quote}
use Rattle.token.specs.paper.Kinds.{Kind, TokenType, withoutValues, isComment, isLineEnd, Token}
use Rattle.token.specs.paper.Shapes.{Run, Longest, textOf, NumberText, Stands}
use Rattle.token.specs.declared.kinds.TokenKind.{TokenKind}
use Rattle.token.specs.declared.kinds.TokenKind.TheVariants as tk

-- RULES, "Reading": "A piece has a kind, a start and an end."
pub record Piece : Type 0 where
  pub kind : Kind
  pub start : ℕ
  pub end : ℕ

-- The pieces lead from the text s to the text r of a script of n bytes: each starts where the one before it ends, and has its kind's shape.
pub data Pieces (n : ℕ) : Text → List Piece → Text → Type 0 where
  done : {s : Text} → Pieces n s [] s
  piece : {k : Kind} {s m r : Text} {ps : List Piece} → Stands k s m → Pieces n m ps r
      → Pieces n s (record { kind = k; start = place n s; end = place n m } ∷ ps) r

-- "A reading of a script is a list of pieces: the first starts at 0, each other one where the one before ends, and the last ends at the script's
-- length." "The empty list is a reading of the empty script, and of no other."
abbrev pub Reading : List ℕ → List Piece → Type 0
Reading script ps = Pieces (length script) (from script 0) ps []

-- ---- string content

-- a quote stands last
abbrev pub endsQuote : Text → Bool
endsQuote [] = false
endsQuote (c ∷ []) = quote (c ∷ [])
endsQuote (c ∷ d ∷ s) = endsQuote (d ∷ s)

-- "a last quote too, if one is left": from a text and the place where it ends to what is left of it, and the place where that ends
pub data LastDropped (t : Text) (e : ℕ) : Text → ℕ → Type 0 where
  dropped : (m : Text) (d : Char) → t ≡ m ++ (d ∷ []) → IsTrue (quote (d ∷ [])) → LastDropped t e m d.at
  kept : IsFalse (endsQuote t) → LastDropped t e t e

-- RULES, "String content": "Of a plain one: as long as the text begins with a quote, that quote is dropped, and each time a last quote too, if one is
-- left." From a text and the place where it ends to the places where its content starts and ends. M8, both texts from 0 to 8:
-- `"""a""""`: 0 and 7, 1 and 6, 2 and 5 are dropped; `a"`, from 3 to 5, starts with no quote: content 3 to 5.
-- `""""a"""`: 0 and 7, 1 and 6, 2 and 5 are dropped; of `"a`, from 3 to 5, the first alone: content 4 to 5.
pub data Content : Text → ℕ → ℕ → ℕ → Type 0 where
  unquoted : {t : Text} {e a : ℕ} → IsFalse (quote t) → place e t ≡ a → Content t e a e
  quoted : {c : Char} {t m : Text} {e f a b : ℕ} → IsTrue (quote (c ∷ t)) → LastDropped t e m f → Content m f a b → Content (c ∷ t) e a b

-- ---- gaps

-- RULES, "Gap": "The gap before a token is all blanks, line ends and comments since the last token that is no line end, or since the script's start."
-- It is a list of pieces, the latest last.

-- a piece of such a kind is in the list
abbrev pub hasPiece : (Kind → Bool) → List Piece → Bool
hasPiece p [] = false
hasPiece p (q ∷ g) = p q.kind || hasPiece p g

-- RULES, "After-comment": "It is set exactly where a comment, of either kind, stands between this line end and the one before it in its gap, or, where
-- there is none before it, the gap's start."
pub record AfterComment (gap : List Piece) : Type 0 where
  pub front : List Piece
  pub back : List Piece
  pub split : gap ≡ front ++ back
  pub comment : IsTrue (hasPiece isComment back)
  pub noEnd : IsFalse (hasPiece isLineEnd back)

-- "past spaces and tabs, no line end stands"
abbrev pub NoEndAfter : Text → Type 0
NoEndAfter s = (r : Text) × Longest (Run (isAny " \t")) s r × IsFalse (endsLine r)

-- RULES, "Cut": "Each token, Eof too, has a cut"; "It is set exactly where the gap before the token has a block comment"
pub record Cut (script : List ℕ) (gap : List Piece) : Type 0 where
  pub front : List Piece
  pub back : List Piece
  pub start : ℕ
  pub end : ℕ
  -- "that is a piece of the gap itself, so not one inside another comment,"
  pub split : gap ≡ front ++ (record { kind = Kind.blockComment; start = start; end = end } ∷ back)
  -- "that stands behind a line end of the gap,"
  pub after : IsTrue (hasPiece isLineEnd front)
  -- "and behind which, past spaces and tabs, no line end stands."
  pub unended : NoEndAfter (from script end)

-- ---- RULES, "Records of a script": "one for each token and each line end of its reading, in order, and then one Eof, which starts and ends at the
-- script's length."

-- the token kind with its values, of a token between two texts
pub data Valued (n : ℕ) (s r : Text) : TokenType → TokenKind → Type 0 where
  -- a kind that carries nothing
  bare : {t : TokenType} {k : TokenKind} → withoutValues t ≡ some k → Valued n s r t k
  intLit : {v : ℕ} → NumberText false v s r → Valued n s r TokenType.intLit (tk.IntLit v)
  longLit : {v : ℕ} → NumberText true v s r → Valued n s r TokenType.longLit (tk.LongLit v)
  -- RULES, "String content": "Of a prefixed string that is all its text, with prefix and quotes."
  prefixed : IsFalse (quote s) → Valued n s r TokenType.str (tk.Str (place n s) (place n r))
  plain : {a b : ℕ} → IsTrue (quote s) → Content (textOf s r) (place n r) a b → Valued n s r TokenType.str (tk.Str a b)

-- the tokens of pieces that follow a gap
pub data Tokens (script : List ℕ) : List Piece → List Piece → List Token → Type 0 where
  eof : {gap : List Piece} {cut : Bool} → IsTrue cut ↔ Cut script gap
      → Tokens script gap [] (record { kind = tk.Eof; start = length script; end = length script; cut = cut } ∷ [])
  -- a gap piece that has no token
  skip : {gap ps : List Piece} {ts : List Token} {p : Piece} → (p.kind ≡ Kind.blank) ⊎ IsTrue (isComment p.kind)
      → Tokens script (gap ++ (p ∷ [])) ps ts
      → Tokens script gap (p ∷ ps) ts
  -- RULES, "Cut": "Line ends have the cut 0."
  lineEnd : {gap ps : List Piece} {ts : List Token} {p : Piece} {mark : Bool} → p.kind ≡ Kind.lineEnd → IsTrue mark ↔ AfterComment gap
      → Tokens script (gap ++ (p ∷ [])) ps ts
      → Tokens script gap (p ∷ ps) (record { kind = tk.Newline mark; start = p.start; end = p.end; cut = false } ∷ ts)
  token : {gap ps : List Piece} {ts : List Token} {p : Piece} {t : TokenType} {k : TokenKind} {cut : Bool} → p.kind ≡ Kind.token t
      → Valued (length script) (from script p.start) (from script p.end) t k → IsTrue cut ↔ Cut script gap → Tokens script [] ps ts
      → Tokens script gap (p ∷ ps) (record { kind = k; start = p.start; end = p.end; cut = cut } ∷ ts)

-- the tokens of the script's readings
pub record TokensOf (script : List ℕ) (ts : List Token) : Type 0 where
  pub pieces : List Piece
  pub reading : Reading script pieces
  pub tokens : Tokens script [] pieces ts

-- the last token is Eof, and no other is
pub data OnlyLastEof : List Token → Type 0 where
  eof : {t : Token} → t.kind ≡ tk.Eof → OnlyLastEof (t ∷ [])
  other : {t : Token} {ts : List Token} → t.kind ≢ tk.Eof → OnlyLastEof ts → OnlyLastEof (t ∷ ts)
