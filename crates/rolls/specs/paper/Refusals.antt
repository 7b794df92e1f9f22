-- The numbers of the refusals: REQUESTS, "Refusals of a record".
use Rattle.std.specs.Prelude.{ℕ}
use Rattle.rolls.specs.declared.refusal.Refusal.{Refusal}
use Rattle.rolls.specs.declared.refusal.Refusal.TheVariants as refusal

abbrev pub refusalNumber : Refusal → ℕ
refusalNumber refusal.TooFew = 22
refusalNumber refusal.NoKind = 23
refusalNumber refusal.Wrong = 24
