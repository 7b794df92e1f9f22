-- The record that is yielded has bytes, and they lie within the roll.
use Rattle.std.proofs.Common.{arith}
use Rattle.rolls.proofs.roll.Laws.{turn, turn-on}
use Rattle.rolls.proofs.roll.read_roll.Goals as goal

pub loop-found-smaller : goal.loop-found-smaller
loop-found-smaller c =
    let on = turn-on _ (λ i. omega (arith, c.type_inv.roll i)) _ _ _ _ c.in_ok-found.ensures.value in
    omega (arith, on.0, on.1)

pub loop-found-preserved : goal.loop-found-preserved
loop-found-preserved c =
    let on = turn-on _ (λ i. omega (arith, c.type_inv.roll i)) _ _ _ _ c.in_ok-found.ensures.value in
    record { total = grind (arith, turn); few = omega (arith, c.loop-found.invariant.few, on.0); within = on.1 }
