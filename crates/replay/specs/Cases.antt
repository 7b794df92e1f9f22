-- A list of cases, as src/main.rt describes it, and what it means that the case at a place agrees. A place is a byte's offset in the list.
use Rattle.std.specs.Prelude.{ℕ, ◌+◌, ◌-◌, ◌≤◌, ◌≡◌, if◌then◌else◌, List, ◌++◌, ◌==◌, length, take, drop}
use Rattle.words.specs.Words.{fourAt}
use Rattle.entry.specs.declared.limits.Limits.{Limits}
use Rattle.entry.specs.paper.Limits.{compiler, contact, contactNeed}
use Rattle.entry.specs.paper.Host.{Seen, seen}
use Rattle.entry.specs.computed.Host.{hostFor}
use Rattle.cases.specs.Cases.{untouched}

-- lent bytes that hold records first, and behind them what they held before a call
abbrev pub recordsIn : List ℕ → ℕ → List ℕ
recordsIn records room = records ++ untouched (room - length records)

-- the most bytes that a case may lend: no contact needs more
abbrev pub mostRoom : ℕ
mostRoom = contactNeed

-- the limits that a number stands for: 0 for the compiler's, any other for a contact's
unfoldable pub limitsOf : ℕ → Limits
limitsOf which = if which == 0 then compiler else contact

-- ---- the case at a place

-- its script, and where it ends
unfoldable pub scriptAt : List ℕ → ℕ → List ℕ
scriptAt list at = take (fourAt list at) (drop (at + 28) list)

unfoldable pub scriptEnd : List ℕ → ℕ → ℕ
scriptEnd list at = at + 28 + fourAt list at

-- how many bytes are lent for the records
unfoldable pub roomAt : List ℕ → ℕ → ℕ
roomAt list at = fourAt list (at + 4)

-- under which limits
unfoldable pub limitsAt : List ℕ → ℕ → Limits
limitsAt list at = limitsOf (fourAt list (at + 8))

-- how many record bytes it lists: where its number is 0, the fourth number of its block
unfoldable pub listedBytes : List ℕ → ℕ → ℕ
listedBytes list at = if fourAt list (at + 12) == 0 then fourAt list (at + 24) else 0

-- the records, and where the case ends
unfoldable pub recordsAt : List ℕ → ℕ → List ℕ
recordsAt list at = take (listedBytes list at) (drop (scriptEnd list at) list)

unfoldable pub caseEnd : List ℕ → ℕ → ℕ
caseEnd list at = scriptEnd list at + listedBytes list at

-- ---- what it means that it agrees

-- what a host sees that tokenizes a script under limits, with so many bytes lent
unfoldable pub seenLent : Limits → List ℕ → ℕ → Seen
seenLent limits script room = hostFor limits script (untouched room) (untouched 16)

-- what the list says: number and block stand at a place, and these are the records
unfoldable pub listedOf : List ℕ → ℕ → List ℕ → ℕ → Seen
listedOf list at records room = seen (fourAt list at) (recordsIn records room) (take 16 (drop at list))

-- The case at a place agrees: the list holds all of it, it lends at most `mostRoom` bytes, and a host sees what it lists: the number, the records and every
-- other lent byte, and the block.
pub record CaseAgrees (list : List ℕ) (at : ℕ) : Type 0 where
  pub whole : caseEnd list at ≤ length list
  pub lendable : roomAt list at ≤ mostRoom
  pub as-listed : seenLent (limitsAt list at) (scriptAt list at) (roomAt list at) ≡ listedOf list (at + 12) (recordsAt list at) (roomAt list at)
