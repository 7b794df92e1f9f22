-- RULES, "Token text", and refusal 21 of RULES, "Refusals of a call".
use Rattle.std.specs.Prelude.{ℕ, ◌+◌, ◌-◌, ◌≡◌, Bool, IsTrue, IsFalse, if◌then◌else◌, not, ◌&&◌, List, [], length, take, drop, slice_index, nat_le, nat_lt}
use Rattle.std.specs.Borrow.{Bor}
use Rattle.chars.specs.paper.Quoted.{between}

-- "A place is inside a character where it is inside the script and its byte is 0x80 to 0xBF."
abbrev pub insideCharacter : List ℕ → ℕ → Bool
insideCharacter script i = nat_lt i (length script) && between 0x80 0xBF (slice_index script i)

-- "Two places enclose a text where start is not past end, end is not past the script, and neither is inside a character."
unfoldable pub hasText : List ℕ → ℕ → ℕ → Bool
hasText script a e = nat_le a e && nat_le e (length script) && not (insideCharacter script a) && not (insideCharacter script e)

-- the script's bytes from start to end; at 21 none
unfoldable pub tokenText : List ℕ → ℕ → ℕ → List ℕ
tokenText script a e = if hasText script a e then take (e - a) (drop a script) else []

-- A slice as it is lent: where it points, which is a block of memory and an offset in it, and its bytes.
abbrev pub Lent : Type 0
Lent = Bor (List ℕ)

-- "as a part of the script and not as a copy": it points into the script's own block, as many bytes past where the script begins as start says, and
-- has the bytes from there to end.
pub record PartOf (script : Lent) (a e : ℕ) (part : Lent) : Type 0 where
  pub memory : part.ref_ptr.0 ≡ script.ref_ptr.0
  pub offset : part.ref_ptr.1 ≡ script.ref_ptr.1 + a
  pub bytes : part.now ≡ take (e - a) (drop a script.now)

-- "The text of a token is the script's bytes from its start to its end, as a part of the script and not as a copy." "Where they enclose none that is
-- refusal 21: for a caller in Rattle the text is then the empty one at 0"
pub record TextPart (script : Lent) (a e : ℕ) (part : Lent) : Type 0 where
  pub text : IsTrue (hasText script.now a e) → PartOf script a e part
  pub no-text : IsFalse (hasText script.now a e) → PartOf script 0 0 part

-- "a host gets 0 or 21 as a number."
abbrev pub textNumber : List ℕ → ℕ → ℕ → ℕ
textNumber script a e = if hasText script a e then 0 else 21
