-- By what stands behind the word.
use Rattle.token.proofs.lexer.Words.{◌≡◌, false, ◌&&◌, sym, ap, ◌∙◌, and-false, isSign, lowBefore}
use Rattle.token.proofs.names.Laws.{signs-go-on, word-over}
use Rattle.token.proofs.ident.name_end.Goals.{else-is_op-via-then-is_op+else-ends_low, else-is_op-via-else-is_op}
use Rattle.token.proofs.ident.name_end.Goals as goal

pub returns-then-ends_low-clause-rest : goal.returns-then-ends_low-clause-rest
returns-then-ends_low-clause-rest c =
    let p = c.requires in
    c.consume_signs.ensures.rest ∙ sym (signs-go-on c.args.s.now c.args.end p.here p.stops _ (sym c.if-is_op.ensures) (sym c.if-ends_low.ensures))

pub returns-clause-rest : goal.returns-clause-rest
returns-clause-rest c =
    let p = c.requires in
    let s = c.args.s.now in
    let e = c.args.end in
    let v : isSign e.class.number && lowBefore s c.args.start e.at ≡ false = elim c.else-is_op.branch [
      | else-is_op-via-then-is_op+else-ends_low w ↦ ap (λ z. isSign e.class.number && z) (sym w.if-ends_low.ensures) ∙ and-false (isSign e.class.number)
      | else-is_op-via-else-is_op w ↦ ap (λ z. z && lowBefore s c.args.start e.at) (sym w.if-is_op.ensures)
    ] in
    sym (word-over s e p.here p.stops (lowBefore s c.args.start e.at) (sym c.if-eq.ensures) v)
