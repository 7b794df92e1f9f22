-- A list of cases, as src/main.rt describes it, and what it means that the case at a place agrees. A place is a byte's offset in the list.
use Rattle.std.specs.Prelude.{ℕ, ◌+◌, ◌*◌, ◌≤◌, ◌<◌, List, length, take, drop}
use Rattle.words.specs.Words.{fourAt, Told, numberTold, blockTold}
use Rattle.rolls.specs.computed.Host.{rollTold, recordTold}
use Rattle.cases.specs.Cases.{untouched, Listed}

-- the roll of the case at a place, and where it ends
unfoldable pub rollAt : List ℕ → ℕ → List ℕ
rollAt list at = take (fourAt list at) (drop (at + 24) list)

unfoldable pub rollEnd : List ℕ → ℕ → ℕ
rollEnd list at = at + 24 + fourAt list at

-- where the case ends, behind the records that it asks for
unfoldable pub caseEnd : List ℕ → ℕ → ℕ
caseEnd list at = rollEnd list at + 48 * fourAt list (at + 4)

-- what is told is what the list has at a place
abbrev pub AsListed : List ℕ → ℕ → Told → Type 0
AsListed list at x = Listed list at (numberTold x) (blockTold x)

-- a host that reads the roll is told what the list has at a place
abbrev pub RollAgrees : List ℕ → ℕ → List ℕ → Type 0
RollAgrees list at roll = AsListed list at (rollTold roll (untouched 16))

-- a host that reads the record asked for at a place, by its offset and the previous end, is told what stands behind these two
unfoldable pub RecordAgrees : List ℕ → List ℕ → ℕ → Type 0
RecordAgrees list roll at = AsListed list (at + 8) (recordTold roll (fourAt list at) (fourAt list (at + 4)) (untouched 40))

-- so many records, asked for from a place on
abbrev pub RecordsAgree : List ℕ → List ℕ → ℕ → ℕ → Type 0
RecordsAgree list roll from count = (k : ℕ) → k < count → RecordAgrees list roll (from + 48 * k)

-- The case at a place agrees: the list holds all of it, and the roll and each record asked for are read as it says.
pub record CaseAgrees (list : List ℕ) (at : ℕ) : Type 0 where
  pub whole : caseEnd list at ≤ length list
  pub roll : RollAgrees list (at + 8) (rollAt list at)
  pub records : RecordsAgree list (rollAt list at) (rollEnd list at) (fourAt list (at + 4))
