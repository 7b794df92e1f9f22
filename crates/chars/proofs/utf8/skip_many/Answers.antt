-- Sixty-four are passed, or the place is where they end.
use Rattle.std.proofs.Common.{◌∙◌, sym}
use Rattle.chars.specs.code.Utf8.{manyAt}
use Rattle.chars.proofs.runs.Laws.{over-end}
use Rattle.chars.proofs.utf8.Widths.{many-on}
use Rattle.chars.proofs.utf8.skip_many.Goals as goal

pub loop-i-preserved : goal.loop-i-preserved
loop-i-preserved c = many-on c.args.s.now c.loop-i.i (sym c.loop-i-test.ensures) ∙ c.loop-i.invariant

pub returns : goal.returns
returns c = over-end 64 manyAt c.args.s.now c.loop-i.i (sym c.loop-i-test.ensures) ∙ c.loop-i.invariant
