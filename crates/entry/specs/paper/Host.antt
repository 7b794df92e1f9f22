-- What the host sees: RULES, "Refusals of a call", "Order of refusals" and "Answer"; REQUESTS, "Limits" and "Direction marks".
use Rattle.std.specs.Prelude.{ℕ, ◌≤◌, ◌<◌, ◌≡◌, ◌≢◌, List, ◌++◌, length, drop, IsSomeAnd}
use Rattle.chars.specs.paper.Utf8.{WellFormed, LongestValid}
use Rattle.chars.specs.paper.Marks.{FirstMark, Unmarked}
use Rattle.token.specs.paper.Kinds.{Token}
use Rattle.token.specs.paper.Reading.{TokensOf}
use Rattle.token.specs.paper.Refusals.{Refused}
use Rattle.token.specs.paper.Records.{mostBytes, records, tokenCount, recordBytes}
use Rattle.words.specs.Words.{blockOf}
use Rattle.entry.specs.declared.limits.Limits.{Limits}
use Rattle.entry.specs.paper.Limits.{Few}

-- what the host sees afterwards: the number handed back, the records buffer and the answer block
pub data Seen : Type 0 where
  seen : ℕ → List ℕ → List ℕ → Seen

abbrev pub numberSeen : Seen → ℕ
numberSeen (seen j buffer block) = j

abbrev pub bufferSeen : Seen → List ℕ
bufferSeen (seen j buffer block) = buffer

-- RULES, "Order of refusals": "20, then 17, then 18, then 29, then the first of 1 to 16, then 19." REQUESTS, "Refusals by a limit", has two more: "20,
-- then 17, 27, 18, 29, the first of 1 to 16, then 28 and 19." What is not met before each of them, step by step.

-- neither 17 nor 27. REQUESTS, "Limits in force": "A script of just so many bytes or tokens is within the limits."
pub record Sized (limits : Limits) (script : List ℕ) : Type 0 where
  pub in-limit : length script ≤ mostBytes
  pub within : length script ≤ limits.bytes

-- nor 18
pub record Valid (limits : Limits) (script : List ℕ) : Type 0 where
  pub sized : Sized limits script
  pub utf8 : WellFormed script

-- nor 29
pub record Clean (limits : Limits) (script : List ℕ) : Type 0 where
  pub valid : Valid limits script
  pub unmarked : Unmarked script

-- nor one of 1 to 16, nor 28: the script has a reading, and these are its tokens, no more than the limit, where tokens have one
pub record Read (limits : Limits) (script : List ℕ) (ts : List Token) : Type 0 where
  pub clean : Clean limits script
  pub tokensOf : TokensOf script ts
  pub few : Few limits ts

-- A refusal of the script, whatever is lent for its records, and the place. 20 goes before it.
pub data Rejects (limits : Limits) (script : List ℕ) : ℕ → ℕ → Type 0 where
  -- RULES, "Refusals of a call": "the script has more than 16,777,216 bytes"; at 0
  seventeen : mostBytes < length script → Rejects limits script 17 0
  -- REQUESTS, "Refusals by a limit": "the script has more bytes than the limit in force, and not more than 16,777,216"; at 0
  twentySeven : length script ≤ mostBytes → limits.bytes < length script → Rejects limits script 27 0
  -- RULES, "Refusals of a call": "the script is not well-formed UTF-8"; at "the length of the longest valid prefix"
  eighteen : {n : ℕ} → Sized limits script → LongestValid script n → n < length script → Rejects limits script 18 n
  -- REQUESTS, "Refusal of a mark": "the script has a direction mark"; at "the first mark"
  twentyNine : {a : ℕ} → Valid limits script → FirstMark script a → Rejects limits script 29 a
  -- 1 to 16
  refused : {j a : ℕ} → Clean limits script → Refused script j a → Rejects limits script j a
  -- REQUESTS, "Refusals by a limit": "the tokens are more than the limit in force, line ends and Eof included"; at 0
  twentyEight : {ts : List Token} → Clean limits script → TokensOf script ts → IsSomeAnd limits.tokens (λ most. most < tokenCount ts)
      → Rejects limits script 28 0

-- What the host sees, by the refusals and their order. "Every refusal leaves the records buffer as it was."
pub data Sees (limits : Limits) (script buffer block : List ℕ) : Seen → Type 0 where
  -- RULES, "Answer": "A block of another length is refused by 20 and keeps its bytes."
  twenty : length block ≢ 16 → Sees limits script buffer block (seen 20 buffer block)
  -- 17, 27, 18, 29, 1 to 16, 28
  rejected : {j a : ℕ} → length block ≡ 16 → Rejects limits script j a → Sees limits script buffer block (seen j buffer (blockOf j a 0 0))
  -- RULES, "Refusals of a call": "the records need more bytes than were lent"; "Order of refusals": "it tells the token count and the record bytes"
  nineteen : {ts : List Token} → length block ≡ 16 → Read limits script ts → length buffer < recordBytes ts
      → Sees limits script buffer block (seen 19 buffer (blockOf 19 0 (tokenCount ts) (recordBytes ts)))
  -- RULES, "Answer": "On acceptance the records stand at the buffer's start, and bytes behind them keep their values."
  accepted : {ts : List Token} → length block ≡ 16 → Read limits script ts → recordBytes ts ≤ length buffer
      → Sees limits script buffer block (seen 0 (records ts ++ drop (recordBytes ts) buffer) (blockOf 0 0 (tokenCount ts) (recordBytes ts)))
