-- What a measured run says of each byte: `run_end` and `block_at` of `runs` answer by `prefix_len` of a set's test.
use Rattle.std.specs.Prelude.{ℕ, ◌+◌, ◌≤◌, ◌<◌, ◌≡◌, Bool, IsTrue, IsFalse, ◌&&◌, List, length, drop, slice_index, nat_le}
use Rattle.std.specs.List.{prefix_len}
use Rattle.chars.specs.code.Runs.{Each, AllIn}

-- where the run ends that begins at the place i; and whether a block of sixteen bytes stands there, each in the set
abbrev pub runEnd : (ℕ → Bool) → List ℕ → ℕ → ℕ
runEnd holds s i = i + prefix_len holds (drop i s)

abbrev pub blockAt : (ℕ → Bool) → List ℕ → ℕ → Bool
blockAt holds s i = nat_le 16 (prefix_len holds (drop i s))

-- every byte from the place i to the place j is in the set
abbrev pub AllHold : (ℕ → Bool) → List ℕ → ℕ → ℕ → Type 0
AllHold holds = Each (λ x. IsTrue (holds x))

pub record RunLaws : Type 0 where
  -- a run ends within the list; every byte of it is in the set, and the one where it ends, if any, is not; and there is one such place
  pub end-within : (holds : ℕ → Bool) (s : List ℕ) (i : ℕ) → i ≤ length s → runEnd holds s i ≤ length s
  pub run-holds : (holds : ℕ → Bool) (s : List ℕ) (i : ℕ) → AllHold holds s i (runEnd holds s i)
  pub end-fails : (holds : ℕ → Bool) (s : List ℕ) (i : ℕ) → runEnd holds s i < length s → IsFalse (holds (slice_index s (runEnd holds s i)))
  pub end-only : (holds : ℕ → Bool) (s : List ℕ) (i e : ℕ) → i ≤ e → e ≤ length s → AllHold holds s i e
      → (e < length s → IsFalse (holds (slice_index s e))) → e ≡ runEnd holds s i
  -- past the end of the list nothing is passed
  pub past-end : (holds : ℕ → Bool) (s : List ℕ) (i : ℕ) → length s ≤ i → runEnd holds s i ≡ i
  -- a block is found exactly where sixteen bytes stand, each in the set
  pub block-holds : (holds : ℕ → Bool) (s : List ℕ) (i : ℕ) → IsTrue (blockAt holds s i) → (i + 16 ≤ length s) × AllHold holds s i (i + 16)
  pub holds-block : (holds : ℕ → Bool) (s : List ℕ) (i : ℕ) → i + 16 ≤ length s → AllHold holds s i (i + 16) → IsTrue (blockAt holds s i)
  -- of a range: they stand there, each in it
  pub sixteen-all : (low high : ℕ) (s : List ℕ) (i : ℕ) → IsTrue (blockAt (λ b. nat_le low b && nat_le b high) s i)
      → (i + 16 ≤ length s) × AllIn low high s i (i + 16)
