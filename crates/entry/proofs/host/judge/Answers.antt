-- Each return is a branch of the verdict, and of what the lent buffer then holds.
use Rattle.std.proofs.Common.{◌∙◌, sym}
use Rattle.entry.specs.code.Refusal.{pieceRefused}
use Rattle.entry.proofs.host.Laws.{is-err, judge-checked, checked-by, judge-refused, refused-by, judge-many, many-by, judge-read, read-by, scratch-checked, scratch-passed}
use Rattle.entry.proofs.host.judge.Goals as goal

pub returns-in_err-check_clean : goal.returns-in_err-check_clean
returns-in_err-check_clean c =
    let limits = c.args.limits.now in
    let script = c.args.script.now in
    let check = c.in_err-check_clean.ensures.value in
    rw (is-err c.from_residual.result c.in_err-check_clean.field-0.0 c.from_residual.ensures.1)
    (record {
      value = λ room. checked-by limits script _ check room;
      refusal = λ room. judge-checked limits script _ check room;
      judged = tt;
      held = tt;
      scratch_after = scratch-checked limits script c.args.scratch.now _ check;
    })

pub returns-in_err-need : goal.returns-in_err-need
returns-in_err-need c =
    let limits = c.args.limits.now in
    let script = c.args.script.now in
    let check = c.in_ok-check_clean.ensures.value in
    let told = c.in_err-need.ensures in
    rw (is-err c.from_residual-in_err-need.result (pieceRefused c.in_err-need.field-0.0) c.from_residual-in_err-need.ensures.1)
    (record {
      value = λ room. refused-by limits script _ check _ _ told.refusal room;
      refusal = λ room. judge-refused limits script _ check _ _ told.refusal room;
      judged = tt;
      held = tt;
      scratch_after = told.scratch_after ∙ scratch-passed limits script c.args.scratch.now _ check;
    })

pub returns-then-has_too_many : goal.returns-then-has_too_many
returns-then-has_too_many c =
    let limits = c.args.limits.now in
    let script = c.args.script.now in
    let check = c.in_ok-check_clean.ensures.value in
    let told = c.in_ok-need.ensures in
    let many = sym c.has_too_many.ensures ∙ c.if-has_too_many.true in
    rw c.at.ensures
    (record {
      value = λ room. many-by limits script _ check _ told.needs many room;
      refusal = λ room. judge-many limits script _ check _ told.needs many room;
      judged = tt;
      held = tt;
      scratch_after = told.scratch_after ∙ scratch-passed limits script c.args.scratch.now _ check;
    })

pub returns : goal.returns
returns c =
    let limits = c.args.limits.now in
    let script = c.args.script.now in
    let check = c.in_ok-check_clean.ensures.value in
    let told = c.in_ok-need.ensures in
    let few = sym c.has_too_many.ensures ∙ c.if-has_too_many.false in
    record {
      value = λ room. read-by limits script _ check _ told.needs few room;
      refusal = tt;
      judged = judge-read limits script _ check _ told.needs few;
      held = told.held;
      scratch_after = told.scratch_after ∙ scratch-passed limits script c.args.scratch.now _ check;
    }
