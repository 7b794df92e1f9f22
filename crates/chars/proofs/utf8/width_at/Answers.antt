-- The arms are the rows of the table.
use Rattle.std.proofs.Common.{arith}
use Rattle.chars.proofs.utf8.Rows.{row-00, row-C2, row-E0, row-E1, row-ED, row-EE, row-F0, row-F1, row-F4, none-low, none-high}
use Rattle.chars.proofs.utf8.Stands.{found, not-found, found-if, past_end}
use Rattle.chars.proofs.utf8.width_at.Goals as goal

pub returns-then-s-at : goal.returns-then-s-at
returns-then-s-at c = past_end _ _ c.if-s-at.true

pub returns-in-224 : goal.returns-in-224
returns-in-224 c = found-if _ _ _ c.if-s-at.false c.then_some-in-224.ensures c.pair_in.ensures (row-E0 _ _ c.in-224.is)

pub returns-in-237 : goal.returns-in-237
returns-in-237 c = found-if _ _ _ c.if-s-at.false c.then_some-in-237.ensures c.pair_in-in-237.ensures (row-ED _ _ c.in-237.is)

pub returns-in-240 : goal.returns-in-240
returns-in-240 c = found-if _ _ _ c.if-s-at.false c.then_some-in-240.ensures c.triple_in.ensures (row-F0 _ _ c.in-240.is)

pub returns-in-244 : goal.returns-in-244
returns-in-244 c = found-if _ _ _ c.if-s-at.false c.then_some-in-244.ensures c.triple_in-in-244.ensures (row-F4 _ _ c.in-244.is)

pub returns-in-0-to-127 : goal.returns-in-0-to-127
returns-in-0-to-127 c = found _ _ _ c.if-s-at.false (row-00 _ _ (omega arith) (omega arith))

pub returns-in-194-to-223 : goal.returns-in-194-to-223
returns-in-194-to-223 c = found-if _ _ _ c.if-s-at.false c.then_some.ensures c.byte_in.ensures (row-C2 _ _ (omega arith) (omega arith))

pub returns-in-225-to-236 : goal.returns-in-225-to-236
returns-in-225-to-236 c = found-if _ _ _ c.if-s-at.false c.then_some-in-225-to-236.ensures c.pair_in-in-225-to-236.ensures (row-E1 _ _ (omega arith) (omega arith))

pub returns-in-238-to-239 : goal.returns-in-238-to-239
returns-in-238-to-239 c = found-if _ _ _ c.if-s-at.false c.then_some-in-238-to-239.ensures c.pair_in-in-238-to-239.ensures (row-EE _ _ (omega arith) (omega arith))

pub returns-in-241-to-243 : goal.returns-in-241-to-243
returns-in-241-to-243 c = found-if _ _ _ c.if-s-at.false c.then_some-in-241-to-243.ensures c.triple_in-in-241-to-243.ensures (row-F1 _ _ (omega arith) (omega arith))

pub returns-in_default : goal.returns-in_default
returns-in_default c = not-found _ _ c.if-s-at.false (none-low _ _ (omega arith) (omega arith))

pub returns-in_default-2 : goal.returns-in_default-2
returns-in_default-2 c = not-found _ _ c.if-s-at.false (none-high _ _ (omega arith))

pub returns-in_default-s-2 : goal.returns-in_default-s-2
returns-in_default-s-2 c = not-found _ _ c.if-s-at.false (none-high _ _ (omega arith))
