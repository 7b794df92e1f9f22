-- What a host is told that measures: REQUESTS, "Answer of measuring".
use Rattle.std.specs.Prelude.{ℕ, ◌≡◌, ◌≢◌, List, ◌++◌, length}
use Rattle.words.specs.Words.{fourAt, blockOf, Told, told}
use Rattle.token.specs.paper.Kinds.{Token}
use Rattle.token.specs.paper.Records.{tokenCount, recordBytes, countsOf}
use Rattle.entry.specs.paper.Limits.{compiler}
use Rattle.entry.specs.paper.Host.{Read, Rejects}

-- "Its block has 32 bytes: eight numbers of 4 bytes, little-endian: refusal, place, token count, record bytes, and how many tokens are IntLits,
-- LongLits, Strs and Newlines."
abbrev pub needBlock : List Token → List ℕ
needBlock ts = let c = countsOf ts in blockOf 0 0 (tokenCount ts) (recordBytes ts) ++ blockOf c.int_lits c.long_lits c.strs c.newlines

-- of a refusal: "the rest of the block is zeros."
abbrev pub refusedBlock : ℕ → ℕ → List ℕ
refusedBlock j a = blockOf j a 0 0 ++ blockOf 0 0 0 0

pub data Measures (script block : List ℕ) : Told → Type 0 where
  -- "A block of another length is refused by 20 and keeps its bytes."
  twenty : length block ≢ 32 → Measures script block (told 20 block)
  -- "Every other script is refused with the number and the place that `ergo_tokenize` gives"
  rejected : {j a : ℕ} → length block ≡ 32 → Rejects compiler script j a → Measures script block (told j (refusedBlock j a))
  -- "The number handed back is 0 where `ergo_tokenize` takes the script if enough bytes are lent"
  measured : {ts : List Token} → length block ≡ 32 → Read compiler script ts → Measures script block (told 0 (needBlock ts))

-- "In 4 bytes none of these numbers wraps.": they are those of the tokens.
pub record TellsNeed (ts : List Token) (block : List ℕ) : Type 0 where
  pub tokens : fourAt block 8 ≡ tokenCount ts
  pub bytes : fourAt block 12 ≡ recordBytes ts
  pub int-lits : fourAt block 16 ≡ (countsOf ts).int_lits
  pub long-lits : fourAt block 20 ≡ (countsOf ts).long_lits
  pub strs : fourAt block 24 ≡ (countsOf ts).strs
  pub newlines : fourAt block 28 ≡ (countsOf ts).newlines
