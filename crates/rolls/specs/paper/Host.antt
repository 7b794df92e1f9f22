-- What a host is told of a roll and of one record: the number handed back, and the answer block afterwards. REQUESTS, "Block of another length": "For both
-- functions 20 goes before everything else: a block of another length than 16, or 40, keeps its bytes." Numbers have 4 bytes (`le4`), so that larger ones
-- stand there modulo 2³².
use Rattle.std.specs.Prelude.{ℕ, ◌≡◌, ◌≢◌, List, ◌++◌, length, take, replicate}
use Rattle.words.specs.Words.{le4, blockOf, Told, told}
use Rattle.token.specs.paper.Kinds.{Token, kindNumber}
use Rattle.token.specs.paper.Records.{bit, values}
use Rattle.rolls.specs.paper.Roll.{Stepped, yielded, stopped, Steps, Outcome, tokens, refused, ReadsRoll}

-- ---- REQUESTS, "Answer of a roll": "the number handed back, the place of a refusal, the token count and the bytes of the roll."

abbrev pub outcomeTold : ℕ → Outcome → Told
outcomeTold bytes (tokens ts) = told 0 (blockOf 0 0 (length ts) bytes)
outcomeTold bytes (refused j a) = told j (blockOf j a 0 0)

pub data TellsRoll (roll block : List ℕ) : Told → Type 0 where
  twenty : length block ≢ 16 → TellsRoll roll block (told 20 block)
  answers : {x : Outcome} → length block ≡ 16 → ReadsRoll roll x → TellsRoll roll block (outcomeTold (length roll) x)

-- ---- REQUESTS, "Answer of a record": refusal, place, kind, start, end, cut, depth (none yet, so 0), offset of the next record, then 8 bytes: "the values
-- as the record has them, zeros behind them"; "On a refusal everything behind the place is 0."

unfoldable pub tokenBlock : Token → ℕ → List ℕ
tokenBlock t next =
    le4 0 ++ (le4 0 ++ (le4 (kindNumber t.kind) ++ (le4 t.start ++ (le4 t.end ++ (le4 (bit t.cut) ++ (le4 0 ++ (le4 next
    ++ take 8 (values t.kind ++ replicate 8 0))))))))

unfoldable pub stopBlock : ℕ → ℕ → List ℕ
stopBlock j a = le4 j ++ (le4 a ++ replicate 32 0)

abbrev pub steppedTold : Stepped → Told
steppedTold (yielded t next) = told 0 (tokenBlock t next)
steppedTold (stopped j a) = told j (stopBlock j a)

pub data TellsRecord (roll : List ℕ) (at previous : ℕ) (block : List ℕ) : Told → Type 0 where
  twenty : length block ≢ 40 → TellsRecord roll at previous block (told 20 block)
  answers : {x : Stepped} → length block ≡ 40 → Steps roll at previous x → TellsRecord roll at previous block (steppedTold x)
