use Rattle.chars.specs.paper.Quoted.{codes}
use Rattle.puts.proofs.Laws.{put-either}
use Rattle.listing_text.specs.Lines.{zeros}
use Rattle.listing_text.proofs.AnswerLaws.{long-text, short-text}
use Rattle.listing_text.proofs.text.listing.Goals as goal

pub returns-then-script-gt-MOST_BYTES-clause-put : goal.returns-then-script-gt-MOST_BYTES-clause-put
returns-then-script-gt-MOST_BYTES-clause-put c =
    let p = c.extend_from_slice.ensures in
    rw (long-text c.args.script.now c.if-script-gt-MOST_BYTES.true) (put-either _ (codes "long\n") p.items p.full p.capacity)

pub returns-clause-put : goal.returns-clause-put
unfolding zeros
returns-clause-put c =
    rw (← short-text c.args.script.now c.if-script-gt-MOST_BYTES.false, ← c.tokenize-number.ensures.answer_after) c.put_answer.ensures
