use Rattle.std.proofs.Common.{[], ◌∷◌, append_assoc, arith}
use Rattle.chars.specs.paper.Quoted.{codes}
use Rattle.puts.proofs.Laws.{puts-fails, puts-then, put-all, put-nothing}
use Rattle.listing_text.specs.Lines.{caseText}
use Rattle.listing_text.proofs.text.case_text.Goals as goal

pub returns-in_err-extend_from_slice-clause-put : goal.returns-in_err-extend_from_slice-clause-put
unfolding caseText
returns-in_err-extend_from_slice-clause-put c =
    let p = c.in_err-extend_from_slice.ensures in
    simp append_assoc (puts-fails _ _ c.from_residual.ensures.0 (put-nothing {more = codes "-- "} p.items p.full p.capacity))

pub returns-in_err-put_number-clause-put : goal.returns-in_err-put_number-clause-put
unfolding caseText
returns-in_err-put_number-clause-put c =
    let p = c.in_ok-extend_from_slice.ensures in
    simp append_assoc
    (puts-then _ _ (put-all p.items p.capacity) (puts-fails _ _ c.from_residual-in_err-put_number.ensures.0 c.in_err-put_number.ensures.put))

pub returns-in_err-push-clause-put : goal.returns-in_err-push-clause-put
unfolding caseText
returns-in_err-push-clause-put c =
    let p = c.in_ok-extend_from_slice.ensures in
    let end = c.in_err-push.ensures in
    simp append_assoc
    (puts-then _ _ (put-all p.items p.capacity)
    (puts-then _ _ c.in_ok-put_number.ensures.put
    (puts-fails _ _ c.from_residual-in_err-push.ensures.0 (put-nothing {more = 10 ∷ []} end.items (omega arith) end.capacity))))

pub returns-clause-put : goal.returns-clause-put
unfolding caseText
returns-clause-put c =
    let p = c.in_ok-extend_from_slice.ensures in
    let end = c.in_ok-push.ensures in
    simp append_assoc
    (puts-then _ _ (put-all p.items p.capacity)
    (puts-then _ _ c.in_ok-put_number.ensures.put (puts-then _ _ (put-all end.items end.capacity) c.listing.ensures.put)))
