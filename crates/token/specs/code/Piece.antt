-- What `piece` answers: a piece by the places of its texts.
use Rattle.std.specs.Prelude.{ℕ, Result, Ok}
use Rattle.chars.specs.paper.Text.{place}
use Rattle.token.specs.computed.Answer.{Found}
use Rattle.token.specs.declared.cursor.Cursor.{Cursor}
use Rattle.token.specs.declared.kinds.TokenKind.{TokenKind}
use Rattle.token.specs.declared.refusal.Refusal.TheVariants as refusal
use Rattle.token.specs.declared.refusal.Refused.{Refused}
use Rattle.token.specs.code.Cursor.{cursorAt}
use Rattle.token.specs.code.Refusal.{refusedFor, refusedBy}

-- what the code's type `Piece` is
abbrev pub PieceAnswer : Type 0
PieceAnswer = Result (TokenKind × Cursor) Refused

-- a token and the cursor after it
abbrev pub tokenTo : TokenKind → Cursor → PieceAnswer
tokenTo k c = Ok (k, c)

-- A piece: its token and the cursor after it, or a refusal and its place. The last line stands for a case that cannot come: where a gap
-- piece stands no token is asked for, so it is no refusal of the script.
unfoldable pub pieceOf : ℕ → Found → PieceAnswer
pieceOf n (Found.token k r) = tokenTo k (cursorAt (place n r))
pieceOf n (Found.stuck j q) = refusedBy j (place n q)
pieceOf n (Found.gap g r) = refusedFor refusal.NoPiece (place n r)
