use Rattle.words.proofs.Stores.{put-eight}
use Rattle.words.proofs.write.put8.Goals as goal

pub returns : goal.returns
returns c = put-eight _ _ _ _ _ c.put4.ensures c.put4-2.ensures
