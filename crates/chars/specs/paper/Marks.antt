-- Direction marks in a script: REQUESTS, "First mark".
use Rattle.std.specs.Prelude.{ℕ, ◌<◌, ◌≡◌, IsTrue, List}
use mathlib.Core.List.{Memᴰ}
use Rattle.chars.specs.paper.Classes.{isMark}
use Rattle.chars.specs.paper.Text.{Char, from}

-- a direction mark stands at the place a: it is a character of the script
pub record MarkAt (script : List ℕ) (a : ℕ) : Type 0 where
  pub mark : Char
  pub of-script : Memᴰ mark (from script 0)
  pub is-mark : IsTrue (isMark mark.code)
  pub here : mark.at ≡ a

-- "The first mark of a script is the place at which a direction mark stands and before which none does."
pub record FirstMark (script : List ℕ) (a : ℕ) : Type 0 where
  pub stands : MarkAt script a
  pub first : (b : ℕ) → b < a → MarkAt script b → ⊥

-- "A script is unmarked where no direction mark stands in it."
abbrev pub Unmarked : List ℕ → Type 0
Unmarked script = (a : ℕ) → MarkAt script a → ⊥
