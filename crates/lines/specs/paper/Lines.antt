-- REQUESTS, "Lines and columns": lines, and line and column by counting from the script's first byte. Everything is said of the script's characters.
use Rattle.std.specs.Prelude.{ℕ, ◌≤◌, ◌+◌, ◌≡◌, IsFalse, List, [], ◌∷◌, length}
use Rattle.chars.specs.paper.Text.{Char, Text, from, place}
use Rattle.token.specs.paper.Tests.{isAny}
use Rattle.token.specs.paper.Shapes.{LineEnd}
use Rattle.entry.specs.paper.TokenText.{insideCharacter}

-- REQUESTS, "Lines": "LF and CR LF end a line wherever they stand, also in strings, comments and backticks; a CR alone ends none." They are `LineEnd`.

-- the text begins with no line end
abbrev pub NoLineEnd : Text → Type 0
NoLineEnd s = (r : Text) → LineEnd s r → ⊥

-- The places behind the line ends of a text, in order, in a script of n bytes. "CR LF is one line end"
pub data Ends (n : ℕ) : Text → List ℕ → Type 0 where
  empty : Ends n [] []
  ended : {s r : Text} {l : List ℕ} → LineEnd s r → Ends n r l → Ends n s (place n r ∷ l)
  passed : {c : Char} {s : Text} {l : List ℕ} → NoLineEnd (c ∷ s) → Ends n s l → Ends n (c ∷ s) l

-- "The first line starts at 0, and each other one behind a line end. So a script has one line more than it has line ends"
pub data Starts (script : List ℕ) : List ℕ → Type 0 where
  starts : {l : List ℕ} → Ends (length script) (from script 0) l → Starts script (0 ∷ l)

-- REQUESTS, "Counting": "Lines and columns count from 1, columns in characters. At 0 stand line 1 and column 1.": the text that is left, with its line
-- and its column.
pub data Counts (script : List ℕ) : Text → ℕ → ℕ → Type 0 where
  first : Counts script (from script 0) 1 1
  -- "Behind a line end the next line begins, at column 1"
  line : {s r : Text} {l c : ℕ} → Counts script s l c → LineEnd s r → Counts script r (l + 1) 1
  -- "behind every character but LF stands the next column of the same line. So the place between CR and LF is one column behind the CR."
  column : {x : Char} {s : Text} {l c : ℕ} → Counts script (x ∷ s) l c → IsFalse (isAny "\n" (x ∷ s)) → Counts script s l (c + 1)

-- line and column of a place
pub record Position (script : List ℕ) (a l c : ℕ) : Type 0 where
  pub left : Text
  pub counts : Counts script left l c
  pub stands : place (length script) left ≡ a

-- REQUESTS, "Good place": "A place that is not past the script's end and not inside a character."
pub record GoodPlace (script : List ℕ) (a : ℕ) : Type 0 where
  pub within : a ≤ length script
  pub outside : IsFalse (insideCharacter script a)
