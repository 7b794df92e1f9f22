-- What is proved of every roll, a list of bytes. Proved: proofs/theorems.
use Rattle.std.specs.Prelude.{ℕ, ◌≤◌, ◌<◌, ◌≡◌, ◌↔◌, List, length}
use Rattle.words.specs.Words.{fourAt, Told}
use Rattle.token.specs.paper.Kinds.{Token, kindNumber}
use Rattle.token.specs.paper.Reading.{TokensOf, OnlyLastEof}
use Rattle.token.specs.paper.Records.{mostBytes, records}
use Rattle.rolls.specs.paper.Roll.{Stepped, yielded, Steps, Outcome, tokens, ReadsRoll}
use Rattle.rolls.specs.paper.Host.{TellsRoll, TellsRecord, tokenBlock}
use Rattle.rolls.specs.computed.Roll.{readAt, readRoll}
use Rattle.rolls.specs.computed.Host.{rollTold, recordTold}
use Rattle.rolls.specs.computed.Examples.{RollExamples}

pub record RollTheorems (roll : List ℕ) : Type 0 where
  -- The answer is what is declared (`paper`), and nothing else: of one record, wherever it is asked for, and of the roll.
  pub steps : (at previous : ℕ) (x : Stepped) → (readAt roll at previous ≡ x) ↔ Steps roll at previous x
  pub reads : (x : Outcome) → (readRoll roll ≡ x) ↔ ReadsRoll roll x
  -- So is what a host is told, with any block.
  pub tells-record : (at previous : ℕ) (block : List ℕ) (x : Told) → (recordTold roll at previous block ≡ x) ↔ TellsRecord roll at previous block x
  pub tells-roll : (block : List ℕ) (x : Told) → (rollTold roll block ≡ x) ↔ TellsRoll roll block x
  -- A token that is yielded brings the reader on, within the roll, and its end fits 4 bytes. In a roll of less than 2³² bytes its block has the kind, the
  -- end and the next offset as they are: so whoever steps by the numbers of the block makes just these steps, and they end.
  pub onward : (at previous next : ℕ) (t : Token) → readAt roll at previous ≡ yielded t next → (at < next) × (next ≤ length roll) × (t.end < 4294967296)
  pub by-block : (at previous next : ℕ) (t : Token) → length roll < 4294967296 → readAt roll at previous ≡ yielded t next
      → (fourAt (tokenBlock t next) 8 ≡ kindNumber t.kind) × (fourAt (tokenBlock t next) 16 ≡ t.end) × (fourAt (tokenBlock t next) 28 ≡ next)
  -- REQUESTS, "Rolls that were written": "The roll of every script that has a reading, of at most 16,777,216 bytes, is read to the tokens of that
  -- reading."
  pub written : (script : List ℕ) (ts : List Token) → length script ≤ mostBytes → TokensOf script ts → readRoll (records ts) ≡ tokens ts
  -- "And of every roll that is read, whoever made it, writing the tokens again gives the same bytes."
  pub back : (ts : List Token) → readRoll roll ≡ tokens ts → records ts ≡ roll
  -- REQUESTS, "End of a roll": "A roll ends with its only Eof."
  pub one-eof : (ts : List Token) → readRoll roll ≡ tokens ts → OnlyLastEof ts
  -- Rolls whole and damaged come out as REQUESTS says.
  pub examples : RollExamples
