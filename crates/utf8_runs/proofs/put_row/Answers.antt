use Rattle.std.proofs.Common.{[], ◌∷◌, append_assoc, arith}
use Rattle.puts.proofs.Laws.{puts-fails, puts-then, put-all, put-nothing}
use Rattle.utf8_runs.specs.Rows.{rowText}
use Rattle.utf8_runs.proofs.put_row.Goals as goal

pub returns-in_err-put_number : goal.returns-in_err-put_number
unfolding rowText
returns-in_err-put_number c = simp append_assoc (puts-fails _ _ c.from_residual.ensures.0 c.in_err-put_number.ensures.put)

pub returns-in_err-push : goal.returns-in_err-push
unfolding rowText
returns-in_err-push c =
    let p = c.in_err-push.ensures in
    simp append_assoc
    (puts-then _ _ c.in_ok-put_number.ensures.put
    (puts-fails _ _ c.from_residual-in_err-push.ensures.0 (put-nothing {more = 32 ∷ []} p.items (omega arith) p.capacity)))

pub returns-in_err-extend_from_slice : goal.returns-in_err-extend_from_slice
unfolding rowText
returns-in_err-extend_from_slice c =
    let p = c.in_ok-push.ensures in
    let q = c.in_err-extend_from_slice.ensures in
    simp append_assoc
    (puts-then _ _ c.in_ok-put_number.ensures.put
    (puts-then _ _ (put-all {new = c.push.new.self} p.items p.capacity)
    (puts-fails _ _ c.from_residual-in_err-extend_from_slice.ensures.0 (put-nothing {more = c.args.first.now} q.items q.full q.capacity))))

pub returns : goal.returns
unfolding rowText
returns c =
    let p = c.in_ok-push.ensures in
    let q = c.in_ok-extend_from_slice.ensures in
    simp append_assoc
    (puts-then _ _ c.in_ok-put_number.ensures.put
    (puts-then _ _ (put-all {new = c.push.new.self} p.items p.capacity) (puts-then _ _ (put-all q.items q.capacity) c.put_counts.ensures)))
