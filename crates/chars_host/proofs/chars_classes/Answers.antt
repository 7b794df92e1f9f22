use Rattle.std.proofs.Common.{◌≡◌, ◌+◌, ◌*◌, ◌%◌, Bool, cond, bit_or, arith}
use mir.Val.{bool_byte}
use Rattle.chars_host.specs.Packing.{bits}
use Rattle.chars_host.proofs.chars_classes.Goals as goal

-- four tests, a bit for each
four : (a b c d : Bool)
    → bit_or (bit_or (bit_or (bool_byte a) (bool_byte b * 2 % 4294967296)) (bool_byte c * 4 % 4294967296)) (bool_byte d * 8 % 4294967296)
    ≡ cond a 1 0 + cond b 2 0 + cond c 4 0 + cond d 8 0
four a b c d = grind arith

pub returns : goal.returns
unfolding bits
returns c =
    rw (c.from.ensures, c.from-2.ensures, c.from-3.ensures, c.from-4.ensures, c.classes_of-classes.ensures.value) (four _ _ _ _)
