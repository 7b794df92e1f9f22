-- By the character that is decoded there, if any.
use Rattle.std.proofs.Common.{◌∙◌}
use Rattle.chars.proofs.utf8.Marks.{mark-found, mark-none}
use Rattle.chars.proofs.utf8.mark_at.Goals as goal

pub returns-in-Some : goal.returns-in-Some
returns-in-Some c = c.is_mark.ensures ∙ mark-found c.args.s.now c.args.at c.in-Some.c c.in-Some.ensures.value

pub returns-in-None : goal.returns-in-None
returns-in-None c = mark-none c.args.s.now c.args.at c.in-None.ensures.value
