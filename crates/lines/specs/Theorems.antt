-- What is proved of every script, a list of bytes. Proved: proofs/theorems.
use Rattle.std.specs.Prelude.{ℕ, ◌+◌, ◌<◌, ◌≡◌, ◌≢◌, ◌↔◌, List, length, take, slice_index}
use Rattle.words.specs.Words.{blockOf, Told, told, numberTold}
use Rattle.chars.specs.paper.Utf8.{WellFormed}
use Rattle.entry.specs.paper.Host.{Seen, numberSeen, bufferSeen}
use Rattle.lines.specs.paper.Lines.{Starts, Position, GoodPlace}
use Rattle.lines.specs.paper.Host.{Builds, Answers}
use Rattle.lines.specs.computed.Lines.{startsOf, lineAt, columnAt}
use Rattle.lines.specs.computed.Host.{indexSeen, positionTold}
use Rattle.lines.specs.computed.Examples.{LineExamples}

pub record LineTheorems (script : List ℕ) : Type 0 where
  -- The starts of lines are those that are declared, and there is one list of them.
  pub starts : (l : List ℕ) → (startsOf script ≡ l) ↔ Starts script l
  -- They are where counting from the first byte begins a line, the first of them line 1, and the script's end is in the last line.
  pub line-starts : (l : List ℕ) → Starts script l → (k : ℕ) → k < length l → Position script (slice_index l k) (k + 1) 1
  pub last-line : (l : List ℕ) → Starts script l → (c : ℕ) × Position script (length script) (length l) c
  -- Counting from the first byte of a well-formed script gives every good place one line and one column, and no other place any.
  pub counted : WellFormed script → (a l c : ℕ) → GoodPlace script a → ((lineAt script a ≡ l) × (columnAt script a ≡ c)) ↔ Position script a l c
  pub only-good : WellFormed script → (a l c : ℕ) → Position script a l c → GoodPlace script a
  -- What building shows is what is declared, and nothing else. Every refusal leaves the index as it was.
  pub builds : (index block : List ℕ) (x : Seen) → (indexSeen script index block ≡ x) ↔ Builds script index block x
  pub unchanged : (index block : List ℕ) → numberSeen (indexSeen script index block) ≢ 0 → bufferSeen (indexSeen script index block) ≡ index
  -- What a query tells is declared, and nothing else is: no other refusal, and over the script's line starts, with whatever numbers behind them, no
  -- other line and column.
  pub answers : (index : List ℕ) (a : ℕ) (block : List ℕ) → Answers script index a block (positionTold script index a block)
  pub answers-one : (index : List ℕ) (a : ℕ) (block : List ℕ) (x : Told) → (numberTold x ≡ 0 → take (length (startsOf script)) index ≡ startsOf script)
      → Answers script index a block x → positionTold script index a block ≡ x
  -- Over the index that was built a query gives what counting from the first byte gives.
  pub over-built : (index block : List ℕ) → numberSeen (indexSeen script index block) ≡ 0 → (a l c : ℕ) → Position script a l c
      → (other : List ℕ) → length other ≡ 16 → positionTold script (bufferSeen (indexSeen script index block)) a other ≡ told 0 (blockOf 0 0 l c)
  -- Examples come out as REQUESTS says.
  pub examples : LineExamples
