-- Each return is a branch of the judgement.
use Rattle.std.proofs.Common.{ap, ◌∙◌}
use Rattle.words.specs.Words.{blockOf}
use Rattle.entry.proofs.host.Laws.{entry-refused, entry-short, entry-done}
use Rattle.entry.proofs.host.tokenize_by.Goals as goal

pub returns-in-Err-clause-answer_after : goal.returns-in-Err-clause-answer_after
returns-in-Err-clause-answer_after c =
    let put = c.put_refused.ensures in
    rw (put.value, c.number.ensures)
    (entry-refused c.args.limits.now c.args.script.now c.args.records.now c.args.answer.now c.requires _ _ _ c.in-Err.ensures.refusal
    (put.answer_after ∙ ap (λ j. blockOf j c.in-Err.refused.place 0 0) c.number.ensures))

pub returns-in-Ok-clause-answer_after : goal.returns-in-Ok-clause-answer_after
returns-in-Ok-clause-answer_after c =
    entry-short c.args.limits.now c.args.script.now c.args.records.now c.args.answer.now c.requires _ c.in-Ok.ensures.judged _ c.if-records-need.true
    c.put_block.ensures

pub returns-in-Ok-2-clause-answer_after : goal.returns-in-Ok-2-clause-answer_after
returns-in-Ok-2-clause-answer_after c =
    entry-done c.args.limits.now c.args.script.now c.args.records.now c.args.answer.now c.requires _ c.in-Ok.ensures.judged _ _ c.if-records-need.false
    c.write.ensures c.put_block-in-Ok-2.ensures
