-- Runs of bytes that have a property, and where a loop by steps stops.
use Rattle.std.specs.Prelude.{ℕ, zero, suc, ◌+◌, ◌≤◌, ◌<◌, Bool, if◌then◌else◌, List, length, slice_index}

-- every byte from the place i to the place j has the property
abbrev pub Each : (ℕ → Type 0) → List ℕ → ℕ → ℕ → Type 0
Each P s i j = (k : ℕ) → i ≤ k → k < j → P (slice_index s k)

-- bytes of a range, from low to high
abbrev pub Within : ℕ → ℕ → ℕ → Type 0
Within low high x = (low ≤ x) × (x ≤ high)

abbrev pub AllIn : ℕ → ℕ → List ℕ → ℕ → ℕ → Type 0
AllIn low high = Each (Within low high)

-- ---- where a loop over such tests stops

-- from the place i on, `step` bytes at a time as long as the test holds of the place, in at most `most` steps
unfoldable pub stepsIn : ℕ → ℕ → (ℕ → Bool) → ℕ → ℕ
stepsIn zero step holds i = i
stepsIn (suc most) step holds i =
    let on = stepsIn most step holds (i + step) in
    if holds i then on else i

-- the same by a test that holds only where so many bytes stand: as many steps as there are bytes suffice
abbrev pub stepsOver : ℕ → (List ℕ → ℕ → Bool) → List ℕ → ℕ → ℕ
stepsOver step holds s = stepsIn (length s) step (holds s)
