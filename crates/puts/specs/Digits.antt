-- Digits in ASCII.
use Rattle.std.specs.Prelude.{ℕ, ◌+◌, ◌-◌, if◌then◌else◌, nat_lt}

-- a hexadecimal digit, where `ten` is the letter for ten
unfoldable pub glyph : ℕ → ℕ → ℕ
glyph d ten = if nat_lt d 10 then 0x30 + d else ten + (d - 10)
