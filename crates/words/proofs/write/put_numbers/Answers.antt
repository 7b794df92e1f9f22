use Rattle.words.proofs.Stores.{put-four-numbers}
use Rattle.words.proofs.write.put_numbers.Goals as goal

pub returns : goal.returns
returns c = put-four-numbers _ _ _ _ _ _ _ _ _ _ c.put4.ensures c.put4-2.ensures c.put4-3.ensures c.put4-4.ensures
