-- The ranges of the row are met one after the other.
use Rattle.std.proofs.Common.{[], ◌∷◌}
use Rattle.chars.specs.paper.Ranges.{◌to◌}
use Rattle.chars.proofs.utf8.Rows.{fits-next}
use Rattle.chars.proofs.utf8.pair_in.Goals as goal

pub returns-then-byte_in : goal.returns-then-byte_in
returns-then-byte_in c =
    let a = c.args in
    rw (fits-next a.low a.high (a.low2 to a.high2 ∷ []) a.s.now a.at, ← c.if-byte_in.ensures) c.byte_in-then-byte_in.ensures
