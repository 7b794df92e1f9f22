-- What is handed back is what a host is told, and it is compared with the list.
use Rattle.cases.specs.Cases.{untouched}
use Rattle.line_replay.specs.Cases.{PlaceAgrees}
use Rattle.line_replay.proofs.place_agrees.Goals as goal

pub returns : goal.returns
unfolding PlaceAgrees untouched
returns c = rw (← c.four-place.ensures.value, ← c.line_column-number.ensures.answer_after) c.is_listed.ensures
