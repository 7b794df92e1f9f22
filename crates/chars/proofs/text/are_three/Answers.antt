-- What the tables pass is one.
use Rattle.std.proofs.Common.{sym, ◌∙◌}
use Rattle.chars.proofs.text.Looks.{plain-three}
use Rattle.chars.proofs.text.are_three.Goals as goal

pub returns-then-is_plain_three : goal.returns-then-is_plain_three
returns-then-is_plain_three c = c.if-is_plain_three.true ∙ sym (plain-three c.args.a c.args.b c.args.c (sym c.is_plain_three.ensures ∙ c.if-is_plain_three.true))
