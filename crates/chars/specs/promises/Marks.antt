-- What is computed of a script's first direction mark is what is declared; and a mark stands inside of the script.
use Rattle.std.specs.Prelude.{ℕ, ◌<◌, ◌≡◌, ◌↔◌, List, length, Some, None}
use Rattle.chars.specs.paper.Text.{from}
use Rattle.chars.specs.paper.Marks.{MarkAt, FirstMark, Unmarked}
use Rattle.chars.specs.computed.Marks.{firstMark}

pub record MarkLaws : Type 0 where
  pub first-mark : (s : List ℕ) (a : ℕ) → (firstMark (from s 0) ≡ Some a) ↔ FirstMark s a
  pub unmarked : (s : List ℕ) → (firstMark (from s 0) ≡ None) ↔ Unmarked s
  pub mark-within : (s : List ℕ) (a : ℕ) → MarkAt s a → a < length s
