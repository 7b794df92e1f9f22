-- No block has masks that are not there: one computed test.
use Rattle.std.proofs.Common.{refl}
use Rattle.chars.specs.code.Masks.{inMask}
use Rattle.chars.specs.declared.masks.TheConstants.{BLOCKS}
use Rattle.chars.proofs.classes.Masks.{below-at}
use Rattle.chars.proofs.classes.has.Goals as goal

pub bounds-masks-block : goal.bounds-masks-block
bounds-masks-block c = below-at 176 0 BLOCKS refl c.args.block c.requires.block

pub returns : goal.returns
unfolding inMask
returns c = refl
