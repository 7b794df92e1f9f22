-- One digit.
use Rattle.token.proofs.walk.Words.{digit-here, step-digit}
use Rattle.token.proofs.walk.digit_step.Goals as goal

pub digit_value-requires-clause-digit : goal.digit_value-requires-clause-digit
digit_value-requires-clause-digit c = digit-here c.requires.good c.requires.digit

pub returns-clause-on : goal.returns-clause-on
returns-clause-on c =
    let p = c.requires in
    rw (c.behind.ensures, c.add.ensures) (step-digit p.good p.digit p.counted _ p.end_is p.alone _ c.digit_value.ensures _ _ (rw c.form.ensures.value at c.put_if.ensures))
