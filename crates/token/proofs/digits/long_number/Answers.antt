-- The digits make the number that all of them make.
use Rattle.token.proofs.cursor.Words.{length, arith, ap, ◌∙◌, from, pieceOf}
use Rattle.token.proofs.digits.Laws.{number-piece}
use Rattle.token.proofs.digits.long_number.Goals as goal

pub returns : goal.returns
returns g c =
    let s = c.args.s.now in
    let e = c.long_run.ensures in
    c.number_of.ensures ∙ number-piece s c.args.start c.long_run.result (omega arith) e.within e.next ∙ ap (pieceOf (length s)) (e.same (from s c.args.start))
