use Rattle.words.proofs.Stores.{put-sixteen}
use Rattle.words.proofs.write.put_block.Goals as goal

pub returns : goal.returns
returns c = put-sixteen _ _ _ _ _ _ c.requires c.put_numbers.ensures
