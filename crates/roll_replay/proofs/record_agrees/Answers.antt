-- What is handed back is what a host sees, and it is compared with the list.
use Rattle.cases.specs.Cases.{untouched}
use Rattle.roll_replay.specs.Cases.{RecordAgrees}
use Rattle.roll_replay.proofs.record_agrees.Goals as goal

pub returns : goal.returns
unfolding RecordAgrees untouched
returns c =
    rw (← c.four-offset.ensures.value, ← c.four-previous.ensures.value, ← c.answer_record-number.ensures.answer_after) c.is_listed.ensures
