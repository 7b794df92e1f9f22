-- Runs of digits, as numbers and escapes have them. RULES, "Digits".
use Rattle.std.specs.Prelude.{ℕ, ◌≡◌, ◌⊎◌, ◌+◌, ◌-◌, ◌≤◌, ◌<◌, Bool, IsTrue, IsFalse, if◌then◌else◌, List, length, take, drop, slice_index, ◌==◌}
use Rattle.token.specs.paper.Tests.{isDigit, isHexDigit}

-- "There are two bases, 10 and 16."
abbrev pub IsBase : ℕ → Type 0
IsBase base = (base ≡ 10) ⊎ (base ≡ 16)

-- "A digit is one of base 10, a hexadecimal digit one of base 16."
unfoldable pub digitIn : ℕ → ℕ → Bool
digitIn base c = if base == 16 then isHexDigit c else isDigit c

-- "A run has a base, a place where it begins and a greatest count": it ends at e
pub record RunEnds (base most : ℕ) (s : List ℕ) (at e : ℕ) : Type 0 where
  pub on : at ≤ e
  -- "at the first place where no digit of its base stands": before it only digits stand
  pub digits : (i : ℕ) → at ≤ i → i < e → IsTrue (digitIn base (slice_index s i))
  -- "the script's end included"
  pub within : e ≤ length s
  -- "or at the count if that comes first"
  pub counted : e ≤ at + most
  -- and one of the three is there
  pub ends : IsFalse (digitIn base (slice_index s e)) ⊎ ((e ≡ length s) ⊎ (e ≡ at + most))

-- what stands from a place to another
abbrev pub digitsTo : List ℕ → ℕ → ℕ → List ℕ
digitsTo s at e = take (e - at) (drop at s)

-- "19 digits of base 10 and 16 digits of base 16 fit 64 bits, whatever they are."
abbrev pub fitting : ℕ → ℕ
fitting base = if base == 16 then 16 else 19
