-- What `digits` answers.
use Rattle.std.specs.Prelude.{ℕ, ◌≡◌, ◌+◌, if◌then◌else◌, nat_le, Option, Some, None}
use Rattle.chars.specs.paper.Quoted.{oneOf}
use Rattle.token.specs.paper.Digits.{IsBase, digitIn, fitting}
use Rattle.token.specs.paper.Tests.{isDigit, digitValue}
use Rattle.token.specs.declared.kinds.TokenKind.TheVariants as tk
use Rattle.token.specs.declared.cursor.Cursor.{Cursor}
use Rattle.token.specs.declared.digits.DigitRun.{DigitRun}
use Rattle.token.specs.declared.refusal.Refusal.TheVariants as refusal
use Rattle.token.specs.code.Cursor.{cursorAt}
use Rattle.token.specs.code.Piece.{PieceAnswer, tokenTo}
use Rattle.token.specs.code.Refusal.{refusedFor}

-- a digit's value; none of any other byte
unfoldable pub digitOf : ℕ → ℕ → Option ℕ
digitOf base c = if digitIn base c then Some (digitValue c) else None

-- a letter's value as a hex digit
unfoldable pub letterOf : ℕ → Option ℕ
letterOf c = if isDigit c then None else digitOf 16 c

-- so many digits of a base fit 64 bits, so that their value needs no test; with one more, no zero first, it is above every most
abbrev pub Untested : ℕ → ℕ → Type 0
Untested base most = IsBase base × (most ≡ fitting base)

-- an IntLit that ends at a cursor, at most 2147483647, else refusal 6 at the number's start
unfoldable pub intOr : ℕ → ℕ → Cursor → PieceAnswer
intOr start v end = if nat_le v 2147483647 then tokenTo (tk.IntLit v) end else refusedFor refusal.LargeNumber start

-- a LongLit that ends at a cursor, at most 9223372036854775807, else refusal 6 at the number's start
unfoldable pub longOr : ℕ → ℕ → Cursor → PieceAnswer
longOr start v end = if nat_le v 9223372036854775807 then tokenTo (tk.LongLit v) end else refusedFor refusal.LargeNumber start

-- the number that begins at a place and has these digits, with the `L` or `l` behind them
unfoldable pub numberBy : ℕ → DigitRun → PieceAnswer
numberBy start r = if oneOf "Ll" r.next then longOr start r.value (cursorAt (r.end + 1)) else intOr start r.value (cursorAt r.end)
