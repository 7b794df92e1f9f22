use Rattle.std.proofs.Common.{◌∙◌, ap, take}
use Rattle.words.proofs.Stores.{copied-at, four-bytes, length-four}
use Rattle.words.proofs.write.put4.Goals as goal

pub returns : goal.returns
returns c = copied-at c.args.out.now _ _ c.args.w 4 (c.copy_from_slice.ensures.after ∙ ap (take 4) c.to_le_bytes-bytes.ensures ∙ four-bytes c.args.x) (length-four c.args.x) c.requires
