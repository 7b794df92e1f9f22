-- The numbers of the refusals: RULES, "Refusals of a piece" and "Refusals of a call"; REQUESTS, "Limits" and "Refusal of a mark".
use Rattle.std.specs.Prelude.{ℕ}
use Rattle.token.specs.code.Refusal as piece
use Rattle.entry.specs.declared.refusal.Refusal.{Refusal}
use Rattle.entry.specs.declared.refusal.Refusal.TheVariants as refusal

abbrev pub refusalNumber : Refusal → ℕ
refusalNumber refusal.TooLong = 17
refusalNumber refusal.NotUtf8 = 18
refusalNumber refusal.OverLimit = 27
refusalNumber refusal.TooManyTokens = 28
refusalNumber refusal.DirectionMark = 29
refusalNumber (refusal.Piece r) = piece.refusalNumber r
