-- How the exports pack an answer into one number.
use Rattle.std.specs.Prelude.{ℕ, ◌+◌, ◌*◌, Option, Some, None, if◌then◌else◌}
use Rattle.chars.specs.paper.Classes.{isIdStart, isIdChar, isOpSign, isPrintable}
use Rattle.chars.specs.declared.utf8.Decoded.{Decoded}

-- the four classes of a character, a bit for each
unfoldable pub bits : ℕ → ℕ
bits c = (if isIdStart c then 1 else 0) + (if isIdChar c then 2 else 0) + (if isOpSign c then 4 else 0) + (if isPrintable c then 8 else 0)

-- the width times 2^32 and the code; 0 where no character stands
abbrev pub packed : Option Decoded → ℕ
packed (Some d) = d.width * 0x100000000 + d.code
packed None = 0
