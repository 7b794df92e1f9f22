-- What `text` answers.
use Rattle.std.specs.Prelude.{ℕ, suc, ◌+◌, ◌-◌, ◌*◌, ◌/◌, max, Bool, false, not, ◌&&◌, ◌==◌, Option, Some, None, if◌then◌else◌, nat_lt, List, length, drop, slice_index}
use Rattle.chars.specs.paper.Quoted.{between}
use Rattle.chars.specs.paper.Utf8.{width, codeOf}
use Rattle.chars.specs.code.Utf8.{decoded}
use Rattle.chars.specs.declared.utf8.Decoded.{Decoded}

-- the code of the character at i
abbrev pub codeAt : List ℕ → ℕ → ℕ
codeAt s i = codeOf (width (drop i s)) (drop i s)

-- where it ends
unfoldable pub charEnd : List ℕ → ℕ → ℕ
charEnd s i = suc i + (width (drop i s) - 1)

-- the first character of the text from the place i on: its code, and how many bytes it has, one where no well-formed character begins
unfoldable pub stepAt : List ℕ → ℕ → Option Decoded
stepAt s i =
    let t = drop i s in
    if nat_lt i (length s) then decoded (codeOf (width t) t) (max 1 (width t)) else None

-- Are the bytes a, of E0 to EF, and b, of 80 to BF, the first two of a character of three bytes? By its block of 64 codes, halved into 32: none of the
-- first 32 blocks, and no surrogate's.
unfoldable pub beginsThree : ℕ → ℕ → Bool
beginsThree a b = not ((64 * a + b - 0x3880) / 32 == 0) && not ((64 * a + b - 0x3880) / 32 == 27)

-- are the three bytes such a character?
abbrev pub threeBytes : ℕ → ℕ → ℕ → Bool
threeBytes a b c = between 0xE0 0xEF a && (between 0x80 0xBF b && (between 0x80 0xBF c && beginsThree a b))

-- do the bytes from the place i on have the form of such a character?
unfoldable pub formOfThree : List ℕ → ℕ → Bool
formOfThree s i =
    between 0xE0 0xEF (slice_index s i) && (nat_lt (i + 2) (length s) && (between 0x80 0xBF (slice_index s (i + 1)) && between 0x80 0xBF (slice_index s (i + 2))))

-- how many bytes an operator sign has, if the character is one
abbrev pub signWidth : Option Decoded → Option ℕ
signWidth None = None
signWidth (Some d) = if d.classes.op_sign then Some d.width else None

-- is the character an id character of two bytes?
abbrev pub idOfTwo : Option Decoded → Bool
idOfTwo None = false
idOfTwo (Some d) = d.width == 2 && d.classes.id_char
