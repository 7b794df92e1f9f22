-- Each mask says of the code what its class says.
use Rattle.std.proofs.Common.{◌∙◌}
use Rattle.chars.proofs.classes.Masks.{start-place, id-place, sign-place, print-place}
use Rattle.chars.proofs.classes.classes_at.Goals as goal

pub returns : goal.returns
returns c =
    let b = c.args.block in
    let p = c.args.place in
    let h = c.requires.block in
    let l = c.requires.place in
    rw (c.has.ensures ∙ start-place b p h l, c.has-2.ensures ∙ id-place b p h l, c.has-3.ensures ∙ sign-place b p h l, c.has-4.ensures ∙ print-place b p h l)
