-- What `classes` answers: all four classes together; and sets of ASCII characters as two masks, of which `CodeLaws` speaks.
use Rattle.std.specs.Prelude.{ℕ, ◌-◌, ◌/◌, ◌%◌, ◌^◌, Bool, if◌then◌else◌, ◌&&◌, ◌==◌, nat_lt}
use Rattle.chars.specs.paper.Classes.{classesOf}
use Rattle.chars.specs.declared.classes.Classes.{Classes}

-- the four answers on a code
abbrev pub answers : ℕ → Classes
answers c =
    let all = classesOf c in
    record { id_start = all.idStart; id_char = all.idChar; op_sign = all.opSign; printable = all.printable }

-- is the code's bit set, up to 0x3F in low, from 0x40 to 0x7F in high?
unfoldable pub bitIn : ℕ → ℕ → ℕ → Bool
bitIn low high c = if nat_lt c 0x40 then low / 2 ^ c % 2 == 1 else nat_lt c 0x80 && high / 2 ^ (c - 0x40) % 2 == 1
