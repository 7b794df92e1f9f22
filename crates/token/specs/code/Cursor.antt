-- How the code's answers render the definitions: a text that is left becomes the place of its first character, in a script of n bytes.
use Rattle.std.specs.Prelude.{ℕ, ◌+◌, List, Option, Some, None}
use Rattle.chars.specs.code.Text.{stepAt}
use Rattle.chars.specs.declared.utf8.Decoded.{Decoded}
use Rattle.token.specs.declared.cursor.Cursor.{Cursor}

abbrev pub cursorAt : ℕ → Cursor
cursorAt i = record { at = i }

-- the first character and the cursor after it
abbrev pub peekedOf : ℕ → Option Decoded → Option (Decoded × Cursor)
peekedOf i None = None
peekedOf i (Some d) = Some (d, cursorAt (i + d.width))

abbrev pub peekAt : List ℕ → ℕ → Option (Decoded × Cursor)
peekAt s i = peekedOf i (stepAt s i)
