-- The entry's refusals: one of a piece, and one by its number.
use Rattle.std.specs.Prelude.{ℕ, ◌==◌, if◌then◌else◌}
use Rattle.token.specs.code.Refusal as piece
use Rattle.token.specs.declared.refusal.Refused as token
use Rattle.entry.specs.declared.refusal.Refusal.{Refusal}
use Rattle.entry.specs.declared.refusal.Refusal.TheVariants as refusal
use Rattle.entry.specs.declared.refusal.Refused.{Refused}

-- what a piece is refused for, at the same place
abbrev pub pieceRefused : token.Refused → Refused
pieceRefused e = record { what = refusal.Piece e.what; place = e.place }

-- the refusal that has the number j; for a number that none has, a piece's last
unfoldable pub refusalBy : ℕ → Refusal
refusalBy j =
    if j == 17 then refusal.TooLong else
    if j == 18 then refusal.NotUtf8 else
    if j == 27 then refusal.OverLimit else
    if j == 28 then refusal.TooManyTokens else
    if j == 29 then refusal.DirectionMark else refusal.Piece (piece.refusalBy j)
