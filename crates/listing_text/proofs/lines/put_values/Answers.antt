use Rattle.std.proofs.Common.{◌≡◌, [], ◌∷◌, arith}
use Rattle.puts.proofs.Laws.{puts-none, puts-fails, puts-then, puts-last}
use Rattle.listing_text.specs.Lines.{valuesText, heldValues}
use Rattle.listing_text.proofs.lines.put_values.Goals as goal

pub returns-in_err-put_spaced-in-6 : goal.returns-in_err-put_spaced-in-6
unfolding valuesText heldValues
returns-in_err-put_spaced-in-6 c = rw c.in-6.is (puts-fails _ _ c.from_residual.ensures.0 c.in_err-put_spaced-in-6.ensures)

pub returns-in_ok-put_spaced-in-6 : goal.returns-in_ok-put_spaced-in-6
unfolding valuesText heldValues
returns-in_ok-put_spaced-in-6 c = rw c.in-6.is (puts-then _ _ c.in_ok-put_spaced-in-6.ensures (puts-last c.put_spaced-in-6.ensures))

pub returns-in_default : goal.returns-in_default
unfolding valuesText heldValues
returns-in_default c = let e : heldValues c.args.held.number c.args.held.values ≡ [] = grind arith in rw e puts-none

pub returns-in_default-2 : goal.returns-in_default-2
unfolding valuesText heldValues
returns-in_default-2 c = let e : heldValues c.args.held.number c.args.held.values ≡ [] = grind arith in rw e puts-none

pub returns-in-4 : goal.returns-in-4
unfolding valuesText heldValues
returns-in-4 c =
    let e : heldValues c.args.held.number c.args.held.values ≡ c.args.held.values ∷ [] = grind arith in
    rw e (puts-last c.put_spaced-in-4.ensures)
