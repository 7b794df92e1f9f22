-- REQUESTS, "Building an index" and "Asking for a place": the refusals of building and of a query, in their order, and what the host sees. The number
-- handed back and the place come first in the block; 20, a block of another length, goes before every other refusal and leaves the block as it was.
use Rattle.std.specs.Prelude.{ℕ, ◌+◌, ◌≤◌, ◌<◌, ◌≡◌, ◌≢◌, List, ◌++◌, length, take, drop}
use Rattle.words.specs.Words.{blockOf, Told, told}
use Rattle.chars.specs.paper.Utf8.{WellFormed, LongestValid}
use Rattle.token.specs.paper.Records.{mostBytes}
use Rattle.entry.specs.paper.Host.{Seen, seen}
use Rattle.lines.specs.paper.Lines.{Starts, Position, GoodPlace}

-- none of 20, 17 and 18
pub record Taken (script block : List ℕ) : Type 0 where
  pub sixteen : length block ≡ 16
  pub in-limit : length script ≤ mostBytes
  pub utf8 : WellFormed script

-- ---- building: refusal, place, number of lines, 0. What is seen is the number handed back, the index, which is 32-bit numbers, and the block.

-- REQUESTS, "Building an index": "Building can be refused, in this order, by 20, 17, 18 and 26. Otherwise the starts of all lines stand at the buffer's
-- start, in order, and numbers behind them keep their values. A refusal leaves the whole buffer as it was."
pub data Builds (script index block : List ℕ) : Seen → Type 0 where
  twenty : length block ≢ 16 → Builds script index block (seen 20 index block)
  seventeen : length block ≡ 16 → mostBytes < length script → Builds script index block (seen 17 index (blockOf 17 0 0 0))
  eighteen : {n : ℕ} → length block ≡ 16 → length script ≤ mostBytes → LongestValid script n → n < length script
      → Builds script index block (seen 18 index (blockOf 18 n 0 0))
  -- "fewer numbers were lent than the script has lines"; that number is told, so that the host can lend enough
  twentySix : {l : List ℕ} → Taken script block → Starts script l → length index < length l
      → Builds script index block (seen 26 index (blockOf 26 0 (length l) 0))
  built : {l : List ℕ} → Taken script block → Starts script l → length l ≤ length index
      → Builds script index block (seen 0 (l ++ drop (length l) index) (blockOf 0 0 (length l) 0))

-- ---- a query: refusal, place, line, column. What is told is the number handed back and the block.

-- REQUESTS, "Asking for a place": "It can be refused, in this order, by 20, 17, 18, 25 and 26; the place of 25 and 26 is 0."
pub data Answers (script index : List ℕ) (a : ℕ) (block : List ℕ) : Told → Type 0 where
  twenty : length block ≢ 16 → Answers script index a block (told 20 block)
  seventeen : length block ≡ 16 → mostBytes < length script → Answers script index a block (told 17 (blockOf 17 0 0 0))
  eighteen : {n : ℕ} → length block ≡ 16 → length script ≤ mostBytes → LongestValid script n → n < length script
      → Answers script index a block (told 18 (blockOf 18 n 0 0))
  twentyFive : Taken script block → (GoodPlace script a → ⊥) → Answers script index a block (told 25 (blockOf 25 0 0 0))
  twentySix : {l : List ℕ} → Taken script block → GoodPlace script a → Starts script l → length index < length l
      → Answers script index a block (told 26 (blockOf 26 0 0 0))
  -- "Where the index begins with the script's own starts, whatever numbers stand behind them, they are those of counting from the first byte. Over other
  -- numbers the query still ends, with a line from 1 to the number of lines and a column from 1 to one more than the place." So both fit their four
  -- bytes.
  answered : {l : List ℕ} {line column : ℕ} → Taken script block → GoodPlace script a → Starts script l → length l ≤ length index
      → (take (length l) index ≡ l → Position script a line column) → 1 ≤ line → line ≤ length l → 1 ≤ column → column ≤ a + 1
      → Answers script index a block (told 0 (blockOf 0 0 line column))
