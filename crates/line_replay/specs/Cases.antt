-- A list of cases, as src/main.rt describes it, and what it means that the case at a place agrees. A place of the list is a byte's offset in it.
use Rattle.std.specs.Prelude.{ℕ, ◌+◌, ◌*◌, ◌≤◌, ◌<◌, ◌≡◌, List, length, take, drop, slice_index, replicate}
use Rattle.words.specs.Words.{fourAt, Told, numberTold, blockTold}
use Rattle.entry.specs.paper.Host.{Seen, seen, numberSeen, bufferSeen}
use Rattle.lines.specs.computed.Host.{indexSeen, positionTold}
use Rattle.cases.specs.Cases.{untouched, Listed}

-- n numbers that hold the same
unfoldable pub holding : ℕ → ℕ → List ℕ
holding held n = replicate n held

-- the most numbers that a case may lend
abbrev pub mostRoom : ℕ
mostRoom = 512

-- ---- the case at a place

-- its script, and where it ends
unfoldable pub scriptAt : List ℕ → ℕ → List ℕ
scriptAt list at = take (fourAt list at) (drop (at + 32) list)

unfoldable pub scriptEnd : List ℕ → ℕ → ℕ
scriptEnd list at = at + 32 + fourAt list at

-- how many numbers are lent for the index, the numbers before, and how many places are asked for
abbrev pub roomAt : List ℕ → ℕ → ℕ
roomAt list at = fourAt list (at + 4)

abbrev pub lentAt : List ℕ → ℕ → List ℕ
lentAt list at = holding (fourAt list (at + 8)) (roomAt list at)

abbrev pub askedAt : List ℕ → ℕ → ℕ
askedAt list at = fourAt list (at + 12)

-- where it ends, behind the numbers and the places asked for
unfoldable pub caseEnd : List ℕ → ℕ → ℕ
caseEnd list at = scriptEnd list at + 4 * roomAt list at + 20 * askedAt list at

-- ---- what it means that it agrees

abbrev pub blockSeen : Seen → List ℕ
blockSeen (seen j buffer block) = block

-- what a host sees that builds the index of a script in lent numbers
unfoldable pub builtSeen : List ℕ → List ℕ → Seen
builtSeen script lent = indexSeen script lent (untouched 16)

-- number and block are what the list has at a place
abbrev pub BlockAgrees : List ℕ → ℕ → Seen → Type 0
BlockAgrees list at x = Listed list at (numberSeen x) (blockSeen x)

-- the first so many of these numbers are what the list has from a place on
abbrev pub NumbersListed : List ℕ → ℕ → ℕ → List ℕ → Type 0
NumbersListed list at count numbers = (k : ℕ) → k < count → slice_index numbers k ≡ fourAt list (at + 4 * k)

-- what is told is what the list has at a place
abbrev pub AsListed : List ℕ → ℕ → Told → Type 0
AsListed list at x = Listed list at (numberTold x) (blockTold x)

-- a host that asks for the place at a place of the list, over these numbers, is told what stands behind it
unfoldable pub PlaceAgrees : List ℕ → List ℕ → List ℕ → ℕ → Type 0
PlaceAgrees list script index at = AsListed list (at + 4) (positionTold script index (fourAt list at) (untouched 16))

-- so many places, asked for from a place of the list on
abbrev pub PlacesAgree : List ℕ → List ℕ → List ℕ → ℕ → ℕ → Type 0
PlacesAgree list script index from count = (k : ℕ) → k < count → PlaceAgrees list script index (from + 20 * k)

-- What a host sees of building, and what it is told over the numbers that it has then, is what the list says: the block at a place, the numbers and
-- the places asked for from another on.
pub record Agrees (list : List ℕ) (at : ℕ) (script : List ℕ) (from room count : ℕ) (x : Seen) : Type 0 where
  pub block : BlockAgrees list at x
  pub numbers : NumbersListed list from room (bufferSeen x)
  pub places : PlacesAgree list script (bufferSeen x) (from + 4 * room) count

-- The case at a place agrees: the list holds all of it, it lends at most `mostRoom` numbers, and what it says of its script is seen and told.
pub record CaseAgrees (list : List ℕ) (at : ℕ) : Type 0 where
  pub whole : caseEnd list at ≤ length list
  pub lendable : roomAt list at ≤ mostRoom
  pub as-listed : Agrees list (at + 16) (scriptAt list at) (scriptEnd list at) (roomAt list at) (askedAt list at)
      (builtSeen (scriptAt list at) (lentAt list at))
