-- What is proved of what the host sees, for all limits, scripts, buffers and blocks, and of what one is told that measures. Proved:
-- proofs/theorems/Hosts and Measuring.
use Rattle.std.specs.Prelude.{ℕ, ◌≤◌, ◌<◌, ◌≡◌, ◌≢◌, ◌⊎◌, ◌↔◌, List, [], ◌++◌, length, drop}
use Rattle.words.specs.Words.{blockOf, Told, told, numberTold}
use Rattle.chars.specs.paper.Utf8.{WellFormed}
use Rattle.chars.specs.paper.Marks.{Unmarked}
use Rattle.token.specs.paper.Kinds.{Token}
use Rattle.token.specs.paper.Reading.{Piece, Reading, Tokens, TokensOf}
use Rattle.token.specs.paper.Records.{mostBytes, mostNeed, records, tokenCount, recordBytes}
use Rattle.token.specs.Theorems.{Theorems}
use Rattle.entry.specs.declared.limits.Limits.{Limits}
use Rattle.entry.specs.paper.Limits.{compiler, contact, contactNeed, Few, Keeps}
use Rattle.entry.specs.paper.Host.{Seen, seen, numberSeen, bufferSeen, Rejects, Sees}
use Rattle.entry.specs.paper.Measure.{needBlock, refusedBlock, Measures, TellsNeed}
use Rattle.entry.specs.computed.Host.{hostFor, hostOf}
use Rattle.entry.specs.computed.Measure.{measureTold}
use Rattle.entry.specs.computed.Examples.{Examples}

-- What a host that lends enough passes: UTF-8, 17 times as many bytes and 13 for the records, 16 for the answer.
pub record Lends (script buffer block : List ℕ) : Type 0 where
  pub utf8 : WellFormed script
  pub room : mostNeed (length script) ≤ length buffer
  pub sixteen : length block ≡ 16

-- Then the number is 0 exactly when a reading exists, no direction mark stands and the limits are kept. There is no second reading, and it has a list of
-- tokens. Then the buffer holds the records of these tokens, every byte past them as before, and the block their count and their bytes.
pub record Accepts (limits : Limits) (script buffer block : List ℕ) : Type 0 where
  pub exactly : (numberSeen (hostFor limits script buffer block) ≡ 0) ↔ (Unmarked script × Keeps limits script)
  pub one-reading : (ps qs : List Piece) → Reading script ps → Reading script qs → ps ≡ qs
  pub has-tokens : (ps : List Piece) → Reading script ps → (ts : List Token) × Tokens script [] ps ts
  pub writes : (ps : List Piece) (ts : List Token) → Reading script ps → Tokens script [] ps ts
      → Unmarked script → length script ≤ limits.bytes → Few limits ts
      → hostFor limits script buffer block ≡ seen 0 (records ts ++ drop (recordBytes ts) buffer) (blockOf 0 0 (tokenCount ts) (recordBytes ts))

-- Of what the host sees.
pub record HostTheorems (limits : Limits) (script buffer block : List ℕ) : Type 0 where
  -- It is what the refusals and their order declare, and nothing else.
  pub sees : (x : Seen) → (hostFor limits script buffer block ≡ x) ↔ Sees limits script buffer block x
  -- "Every refusal leaves the records buffer as it was."; the number is 0, one of 1 to 20, 27, 28 or 29.
  pub unchanged : numberSeen (hostFor limits script buffer block) ≢ 0 → bufferSeen (hostFor limits script buffer block) ≡ buffer
  pub numbers : (numberSeen (hostFor limits script buffer block) ≤ 20)
      ⊎ ((27 ≤ numberSeen (hostFor limits script buffer block)) × (numberSeen (hostFor limits script buffer block) ≤ 29))
  -- Of the script alone: its readings, their tokens, and refusals 1 to 16.
  pub script-theorems : Theorems script
  -- To a host that lends enough, with limits up to the large one, the tokens of every reading that keeps them are handed, and nothing else is accepted.
  pub lent-enough : limits.bytes ≤ mostBytes → Lends script buffer block → Accepts limits script buffer block
  -- And the examples of RULES and REQUESTS come out as they say.
  pub examples : Examples

-- Within the compiler's limits: 27 and 28 are never met, and with enough lent the number is 0 exactly when a script of at most 16,777,216 bytes has a
-- reading and no direction mark.
pub record CompilerTheorems (script buffer block : List ℕ) : Type 0 where
  pub compiler-numbers : (numberSeen (hostOf script buffer block) ≤ 20) ⊎ (numberSeen (hostOf script buffer block) ≡ 29)
  pub compiler-exactly : Lends script buffer block → length script ≤ mostBytes
      → (numberSeen (hostOf script buffer block) ≡ 0) ↔ (Unmarked script × ((ps : List Piece) × Reading script ps))

-- Within a contact's limits: no contact needs more than 10,744 record bytes, and a host that lends them is never refused by 19 and has lent enough.
pub record ContactTheorems (script buffer block : List ℕ) : Type 0 where
  pub contact-need : (ts : List Token) → TokensOf script ts → Few contact ts → recordBytes ts ≤ contactNeed
  pub contact-room : contactNeed ≤ length buffer → numberSeen (hostFor contact script buffer block) ≢ 19
  pub contact-lent : WellFormed script → contactNeed ≤ length buffer → length block ≡ 16 → Accepts contact script buffer block

-- Of what a host is told that measures, with the compiler's limits.
pub record MeasureTheorems (script block : List ℕ) : Type 0 where
  -- It is what is declared, and nothing else; 19, 27 and 28 are never met.
  pub measures : (x : Told) → (measureTold script block ≡ x) ↔ Measures script block x
  pub measure-numbers : (numberTold (measureTold script block) ≤ 18) ⊎ (numberTold (measureTold script block) ≡ 20)
      ⊎ (numberTold (measureTold script block) ≡ 29)
  -- Of a script of well-formed UTF-8 and at most 16,777,216 bytes, with a block of 32, the number is 0 exactly where it has a reading and no
  -- direction mark.
  pub measure-exactly : WellFormed script → length script ≤ mostBytes → length block ≡ 32
      → (numberTold (measureTold script block) ≡ 0) ↔ (Unmarked script × ((ps : List Piece) × Reading script ps))
  -- Where there is no mark, the block then has the counts and the record bytes of that reading's tokens, and none of them wraps. A host that lends
  -- `ergo_tokenize` so many bytes, or more, gets 0; one that lends fewer, 19.
  pub measured-told : (ts : List Token) → WellFormed script → Unmarked script → length script ≤ mostBytes → TokensOf script ts → length block ≡ 32
      → measureTold script block ≡ told 0 (needBlock ts)
  pub numbers-told : (ts : List Token) → length script ≤ mostBytes → TokensOf script ts → TellsNeed ts (needBlock ts)
  pub enough-lent : (ts : List Token) (buffer answer : List ℕ) → WellFormed script → Unmarked script → length script ≤ mostBytes → TokensOf script ts
      → length answer ≡ 16 → recordBytes ts ≤ length buffer → numberSeen (hostOf script buffer answer) ≡ 0
  pub fewer-lent : (ts : List Token) (buffer answer : List ℕ) → WellFormed script → Unmarked script → length script ≤ mostBytes → TokensOf script ts
      → length answer ≡ 16 → length buffer < recordBytes ts → numberSeen (hostOf script buffer answer) ≡ 19
  -- Every refusal of the script is told as `ergo_tokenize` tells it.
  pub refused-told : (j a : ℕ) → Rejects compiler script j a → length block ≡ 32 → measureTold script block ≡ told j (refusedBlock j a)
  pub refused-seen : (j a : ℕ) (buffer answer : List ℕ) → Rejects compiler script j a → length answer ≡ 16
      → hostOf script buffer answer ≡ seen j buffer (blockOf j a 0 0)
  -- Of the script alone: its one reading, the tokens, and the exact need by the counts.
  pub script-theorems : Theorems script
  -- And the examples of REQUESTS come out as they say.
  pub examples : Examples
