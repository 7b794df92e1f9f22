-- Behind the zeros the number is read again; where still a digit more stands there, both values are above every most.
use Rattle.token.proofs.cursor.Words.{arith, sym, ap, ◌∙◌, from, numberOf, digitIn}
use Rattle.token.proofs.digits.Laws.{digits-ascii, read-stop, over-found}
use Rattle.token.proofs.digits.Runs.{read-run, over-full}
use Rattle.token.proofs.digits.long_run.Goals as goal

pub returns-then-is_digit-clause-same : goal.returns-then-is_digit-clause-same
returns-then-is_digit-clause-same g c =
    let s = c.args.s.now in
    let run = c.digit_run-run.result in
    let e = c.digit_run-run.ensures in
    let f = sym c.if-is_digit.ensures in
    let z = c.skip_zeros.ensures in
    λ t. over-found t 18446744073709551615 (from s run.end) (omega arith)
    ∙ sym (ap (numberOf t) (sym (z.value g.row.BASE)) ∙ over-full g.row.BASE g.row.MOST c.requires.untested s _ run.end e.run (rw e.next at f) z.past t)

pub returns-clause-same : goal.returns-clause-same
returns-clause-same g c =
    let s = c.args.s.now in
    let run = c.digit_run-run.result in
    let e = c.digit_run-run.ensures in
    let f = sym c.if-is_digit.ensures in
    let v = read-run g.row.BASE g.row.MOST c.requires.untested s _ run.end e.run run.value e.own in
    λ t. ap (numberOf t)
    (read-stop (digitIn g.row.BASE) (digits-ascii g.row.BASE) s run.end g.row.BASE run.value (rw e.next at f) ∙ v ∙ c.skip_zeros.ensures.value g.row.BASE)
