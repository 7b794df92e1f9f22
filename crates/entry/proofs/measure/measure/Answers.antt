-- Each return is a branch of the judgement.
use Rattle.std.proofs.Common.{sym, ap, ◌∙◌}
use Rattle.entry.specs.paper.Measure.{refusedBlock}
use Rattle.entry.proofs.measure.Laws.{told-need, told-refused}
use Rattle.entry.proofs.theorems.Measuring.{measure-20, measure_theorems}
use Rattle.entry.proofs.measure.measure.Goals as goal

pub returns-then-answer-ne32 : goal.returns-then-answer-ne32
returns-then-answer-ne32 c = record {
  answer_after = sym (measure-20 c.args.script.now c.args.answer.now c.if-answer-ne32.true);
  measure_theorems = measure_theorems c.args.script.now c.args.answer.now;
}

pub returns-in-Ok : goal.returns-in-Ok
returns-in-Ok c = record {
  answer_after = told-need c.args.script.now c.args.answer.now c.if-answer-ne32.false _ (c.in-Ok.ensures.value _) _ c.put_need.ensures;
  measure_theorems = measure_theorems c.args.script.now c.args.answer.now;
}

pub returns-in-Err : goal.returns-in-Err
returns-in-Err c =
    let script = c.args.script.now in
    let block = c.args.answer.now in
    let number = c.number-number.ensures in
    let stored = c.put_refusal.ensures ∙ ap (λ j. refusedBlock j c.in-Err.refused.place) number in
    record {
      answer_after = rw number (told-refused script block c.if-answer-ne32.false _ _ c.in-Err.ensures.refusal _ stored);
      measure_theorems = measure_theorems script block;
    }
