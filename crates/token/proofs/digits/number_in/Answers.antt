-- Where no digit more stands there, the digits that were read are all.
use Rattle.token.proofs.cursor.Words.{length, arith, sym, ap, ◌∙◌, from, numberOf, digitIn, pieceOf}
use Rattle.token.proofs.digits.Laws.{digits-ascii, read-stop, number-piece}
use Rattle.token.proofs.digits.Runs.{read-run}
use Rattle.token.proofs.digits.number_in.Goals as goal

pub returns : goal.returns
returns g c =
    let s = c.args.s.now in
    let run = c.digit_run-run.result in
    let e = c.digit_run-run.ensures in
    let f = sym c.if-is_digit.ensures in
    let v = read-run g.row.BASE g.row.MOST c.requires.untested s c.args.at run.end e.run run.value e.own in
    let r = read-stop (digitIn g.row.BASE) (digits-ascii g.row.BASE) s run.end g.row.BASE run.value (rw e.next at f) ∙ v in
    c.number_of.ensures ∙ number-piece s c.args.start run (omega arith) e.run.within e.next ∙ ap (λ r. pieceOf (length s) (numberOf (from s c.args.start) r)) r
