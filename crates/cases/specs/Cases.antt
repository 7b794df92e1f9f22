-- A list of cases, one directly after the other from its start on: what a case lists, and how many cases do not agree. A place is a byte's offset in the
-- list.
use Rattle.std.specs.Prelude.{ℕ, ◌+◌, ◌<◌, min, ◌≡◌, List, length, take, drop, replicate}
use Rattle.words.specs.Words.{fourAt}

-- n bytes as they are before a call
unfoldable pub untouched : ℕ → List ℕ
untouched n = replicate n 0xA5

-- the list has this answer block at a place, and first in it the number that was handed back
pub record Listed (list : List ℕ) (at number : ℕ) (block : List ℕ) : Type 0 where
  pub number-is : number ≡ fourAt list at
  pub block-is : take (length block) (drop at list) ≡ block

-- where the next case starts, behind one that ends at a place: at the list's end, if that cuts it short
abbrev pub nextIn : List ℕ → ℕ → ℕ
nextIn list end = min end (length list)

-- Cases replayed from the list's start up to a place: how many there are, and how many of them do not agree. `next` is where the case behind the one
-- at a place starts.
pub data Replays (list : List ℕ) (next : ℕ → ℕ) (Agrees : ℕ → Type 0) : ℕ → ℕ → ℕ → Type 0 where
  begun : Replays list next Agrees 0 0 0
  agreed : {at cases differ : ℕ} → Replays list next Agrees at cases differ → at < length list → Agrees at
      → Replays list next Agrees (next at) (cases + 1) differ
  differed : {at cases differ : ℕ} → Replays list next Agrees at cases differ → at < length list → (Agrees at → ⊥)
      → Replays list next Agrees (next at) (cases + 1) (differ + 1)
