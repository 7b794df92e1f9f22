-- A character is passed, or the place is where none stands, or a mark.
use Rattle.std.proofs.Common.{◌∙◌, sym, arith}
use Rattle.chars.specs.code.Utf8.{plainAt}
use Rattle.chars.proofs.runs.Laws.{over-end}
use Rattle.chars.proofs.utf8.Marks.{plain-room, plain-on}
use Rattle.chars.proofs.utf8.skip_plain.Goals as goal

pub overflow_add-i : goal.overflow_add-i
overflow_add-i c = omega (arith, plain-room c.args.s.now c.loop-i.i (sym c.loop-i-test.ensures))

pub loop-i-smaller : goal.loop-i-smaller
loop-i-smaller c = omega (arith, plain-room c.args.s.now c.loop-i.i (sym c.loop-i-test.ensures))

pub loop-i-preserved : goal.loop-i-preserved
loop-i-preserved c = plain-on c.args.s.now c.loop-i.i (sym c.loop-i-test.ensures) ∙ c.loop-i.invariant

pub returns : goal.returns
returns c = over-end 3 plainAt c.args.s.now c.loop-i.i (sym c.loop-i-test.ensures) ∙ c.loop-i.invariant
