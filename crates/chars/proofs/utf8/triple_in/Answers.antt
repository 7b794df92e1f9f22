-- The last range of the row is met after the others.
use Rattle.chars.specs.paper.Ranges.{◌to◌}
use Rattle.chars.proofs.utf8.Rows.{fits-last}
use Rattle.chars.proofs.utf8.triple_in.Goals as goal

pub returns-then-pair_in : goal.returns-then-pair_in
returns-then-pair_in c =
    let a = c.args in
    rw (fits-last a.low a.high (0x80 to 0xBF) (0x80 to 0xBF) a.s.now a.at, ← c.if-pair_in.ensures) c.byte_in.ensures
