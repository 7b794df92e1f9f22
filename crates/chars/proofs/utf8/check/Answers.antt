-- Each turn passes a mark, and what follows it up to the next one; it stops at the end, or where no character stands.
use Rattle.std.proofs.Common.{◌∙◌, sym}
use Rattle.chars.proofs.theorems.Marks.{mark_laws}
use Rattle.chars.proofs.utf8.Marks.{marked, check-start, check-mark, checked-bad, checked-all}
use Rattle.chars.proofs.utf8.check.Goals as goal

pub loop-i-init : goal.loop-i-init
loop-i-init c = let e = c.clean_end-i.ensures in check-start c.args.s.now _ e.clean e.stops

pub returns-then-not-mark_at : goal.returns-then-not-mark_at
returns-then-not-mark_at c =
    let bad = sym c.if-not-mark_at.true ∙ c.mark_at.ensures in
    record { value = checked-bad c.args.s.now c.loop-i.i c.loop-i.mark c.loop-i.invariant bad c.loop-i-test.true; mark_laws = mark_laws }

pub clean_end-i-requires-in-loop-i : goal.clean_end-i-requires-in-loop-i
clean_end-i-requires-in-loop-i c =
    let m = marked c.args.s.now c.loop-i.i c.loop-i-test.true (sym c.mark_at.ensures ∙ c.if-not-mark_at.false) in
    m.within

pub loop-i-preserved : goal.loop-i-preserved
loop-i-preserved c =
    let e = c.clean_end-i-in-loop-i.ensures in
    let is = sym c.mark_at.ensures ∙ c.if-not-mark_at.false in
    rw c.or-mark.ensures (check-mark c.args.s.now c.loop-i.i c.loop-i.mark c.loop-i.invariant is c.loop-i-test.true _ e.clean e.stops)

pub returns : goal.returns
returns c = record { value = checked-all c.args.s.now c.loop-i.i c.loop-i.mark c.loop-i.invariant c.loop-i-test.false; mark_laws = mark_laws }
