-- What `gap` answers.
use Rattle.std.specs.Prelude.{ℕ, ◌+◌, ◌-◌, ◌*◌, Bool, ◌&&◌, List, length, slice_index, ◌==◌, nat_le, Option, Some, None}
use Rattle.std.proofs.Math.Option as math
use Rattle.std.proofs.Math.Option.{none, some}
use Rattle.chars.specs.paper.Text.{Text, place}
use Rattle.token.specs.declared.cursor.Cursor.{Cursor}
use Rattle.token.specs.declared.gap.Nest.{Nest}
use Rattle.token.specs.code.Cursor.{cursorAt}
use Rattle.token.specs.code.Loops.{stepsWhile}

-- a block comment's end, or that it is open at the end of script
unfoldable pub closedOf : ℕ → math.Option Text → Option Cursor
closedOf n none = None
closedOf n (some r) = Some (cursorAt (place n r))

-- `/*` at the place i, its two bytes as one number; and four in a row
abbrev pub opensAt : List ℕ → ℕ → Bool
opensAt s i = slice_index s i + 256 * slice_index s (i + 1) == 0x2A2F

unfoldable pub fourOpen : List ℕ → ℕ → Bool
fourOpen s i = nat_le (i + 8) (length s) && (opensAt s i && ((opensAt s (i + 2) && opensAt s (i + 4)) && opensAt s (i + 6)))

-- a place inside nested comments, and how many are open there besides the outermost
abbrev pub nestAt : ℕ → ℕ → Nest
nestAt i d = record { at = i; depth = d }

-- four more open there
abbrev pub fourMore : List ℕ → Nest → Bool
fourMore s n = fourOpen s n.at

-- behind them
abbrev pub fourPassed : Nest → Nest
fourPassed n = nestAt (n.at + 8) (n.depth + 4)

-- past the `/*` from the place i on, four after four while four stand there. A step passes eight bytes: as many steps as bytes are left are enough.
unfoldable pub openings : List ℕ → ℕ → Nest
openings s i = stepsWhile (fourMore s) fourPassed (length s - i) (nestAt i 0)
