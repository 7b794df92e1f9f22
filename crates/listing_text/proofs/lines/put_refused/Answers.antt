use Rattle.std.proofs.Common.{[], ◌∷◌, append_assoc, arith}
use Rattle.chars.specs.paper.Quoted.{codes}
use Rattle.puts.proofs.Laws.{puts-err, puts-fails, puts-then, put-all, put-end, put-nothing}
use Rattle.token.specs.computed.Listing.{refusedAt}
use Rattle.listing_text.proofs.lines.put_refused.Goals as goal

pub returns-in_err-extend_from_slice : goal.returns-in_err-extend_from_slice
unfolding refusedAt
returns-in_err-extend_from_slice c =
    let p = c.in_err-extend_from_slice.ensures in
    simp append_assoc (puts-fails _ _ c.from_residual.ensures.0 (put-nothing {more = codes "refused "} p.items p.full p.capacity))

pub returns-in_err-put_number : goal.returns-in_err-put_number
unfolding refusedAt
returns-in_err-put_number c =
    let p = c.in_ok-extend_from_slice.ensures in
    simp append_assoc
    (puts-then _ _ (put-all p.items p.capacity)
    (puts-fails _ _ c.from_residual-in_err-put_number.ensures.0 c.in_err-put_number.ensures.put))

pub returns-in_err-extend_from_slice-2 : goal.returns-in_err-extend_from_slice-2
unfolding refusedAt
returns-in_err-extend_from_slice-2 c =
    let p = c.in_ok-extend_from_slice.ensures in
    let q = c.in_err-extend_from_slice-2.ensures in
    simp append_assoc
    (puts-then _ _ (put-all p.items p.capacity)
    (puts-then _ _ c.in_ok-put_number.ensures.put
    (puts-fails _ _ c.from_residual-in_err-extend_from_slice-2.ensures.0 (put-nothing {more = codes " at "} q.items q.full q.capacity))))

pub returns-in_err-put_number-2 : goal.returns-in_err-put_number-2
unfolding refusedAt
returns-in_err-put_number-2 c =
    let p = c.in_ok-extend_from_slice.ensures in
    let q = c.in_ok-extend_from_slice-2.ensures in
    simp append_assoc
    (puts-then _ _ (put-all p.items p.capacity)
    (puts-then _ _ c.in_ok-put_number.ensures.put
    (puts-then _ _ (put-all q.items q.capacity)
    (puts-fails _ _ c.from_residual-in_err-put_number-2.ensures.0 c.in_err-put_number-2.ensures.put))))

pub returns-in_err-push : goal.returns-in_err-push
unfolding refusedAt
returns-in_err-push c =
    let p = c.in_ok-extend_from_slice.ensures in
    let q = c.in_ok-extend_from_slice-2.ensures in
    let end = c.in_err-push.ensures in
    simp append_assoc
    (puts-then _ _ (put-all p.items p.capacity)
    (puts-then _ _ c.in_ok-put_number.ensures.put
    (puts-then _ _ (put-all q.items q.capacity)
    (puts-then _ _ c.in_ok-put_number-2.ensures.put (puts-err _ c.from_residual-in_err-push.ensures.0 (put-nothing {more = 10 ∷ []} end.items (omega arith) end.capacity))))))

pub returns : goal.returns
unfolding refusedAt
returns c =
    let p = c.in_ok-extend_from_slice.ensures in
    let q = c.in_ok-extend_from_slice-2.ensures in
    let end = c.in_ok-push.ensures in
    simp append_assoc
    (puts-then _ _ (put-all p.items p.capacity)
    (puts-then _ _ c.in_ok-put_number.ensures.put
    (puts-then _ _ (put-all q.items q.capacity)
    (puts-then _ _ c.in_ok-put_number-2.ensures.put (put-end end.items end.capacity)))))
