-- A character with such a first byte has four.
use Rattle.std.proofs.Common.{arith, ap, ◌∙◌}
use Rattle.std.specs.Option.{is_some}
use Rattle.std.proofs.lemmas.Bool.{lt-leb}
use Rattle.chars.proofs.text.Looks.{four-some, four-low}
use Rattle.chars.proofs.text.is_four.Goals as goal

pub returns-then-s-at-ge240 : goal.returns-then-s-at-ge240
returns-then-s-at-ge240 c = c.is_some.ensures ∙ ap is_some c.width_at.ensures ∙ four-some c.args.s.now c.args.at c.requires c.if-s-at-ge240.true

pub returns-else-s-at-ge240 : goal.returns-else-s-at-ge240
returns-else-s-at-ge240 c = lt-leb 0xF0 _ (omega (arith, c.if-s-at-ge240.false)) ∙ four-low c.args.s.now c.args.at c.requires (omega (arith, c.if-s-at-ge240.false))
