use Rattle.std.proofs.Common.{[], ◌∷◌, append_assoc, arith}
use Rattle.puts.proofs.Laws.{puts-err, puts-fails, puts-then, put-end, put-nothing}
use Rattle.listing_text.specs.Lines.{lineText}
use Rattle.listing_text.proofs.lines.put_line.Goals as goal

pub returns-in_err-put_head : goal.returns-in_err-put_head
unfolding lineText
returns-in_err-put_head c = rw append_assoc (puts-fails _ _ c.from_residual.ensures.0 c.in_err-put_head.ensures)

pub returns-in_err-put_values : goal.returns-in_err-put_values
unfolding lineText
returns-in_err-put_values c =
    rw append_assoc (puts-then _ _ c.in_ok-put_head.ensures (puts-fails _ _ c.from_residual-in_err-put_values.ensures.0 c.in_err-put_values.ensures))

pub returns-in_err-push : goal.returns-in_err-push
unfolding lineText
returns-in_err-push c =
    let p = c.in_err-push.ensures in
    rw append_assoc
    (puts-then _ _ c.in_ok-put_head.ensures
    (puts-then _ _ c.in_ok-put_values.ensures
    (puts-err _ c.from_residual-in_err-push.ensures.0 (put-nothing {more = 10 ∷ []} p.items (omega arith) p.capacity))))

pub returns : goal.returns
unfolding lineText
returns c =
    let p = c.in_ok-push.ensures in
    rw append_assoc
    (puts-then _ _ c.in_ok-put_head.ensures
    (puts-then _ _ c.in_ok-put_values.ensures (put-end p.items p.capacity)))
