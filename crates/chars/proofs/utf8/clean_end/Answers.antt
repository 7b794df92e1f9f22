-- Each turn passes whole characters that are no marks, and where it stops none stands, or a mark.
use Rattle.std.proofs.Common.{sym, inl, ◌∙◌, arith}
use Rattle.chars.specs.paper.Utf8.{here, later}
use Rattle.chars.proofs.utf8.Stands.{stands, nothing}
use Rattle.chars.proofs.utf8.Widths.{width-within, width-end}
use Rattle.chars.proofs.utf8.Marks.{clean-on, clean-row, clean-high, moved-ascii, moved-three, stops-left}
use Rattle.chars.proofs.utf8.clean_end.Goals as goal

pub loop-i-smaller-then-s-i-lt128 : goal.loop-i-smaller-then-s-i-lt128
loop-i-smaller-then-s-i-lt128 c =
    let m = moved-ascii c.args.s.now c.loop-i.i _ c.loop-i-test.true c.if-s-i-lt128.true c.ascii_end-i.ensures in
    omega (arith, m.on)

pub loop-i-preserved-then-s-i-lt128 : goal.loop-i-preserved-then-s-i-lt128
loop-i-preserved-then-s-i-lt128 c =
    let m = moved-ascii c.args.s.now c.loop-i.i _ c.loop-i-test.true c.if-s-i-lt128.true c.ascii_end-i.ensures in
    clean-on c.loop-i.invariant m.clean

pub loop-i-preserved-then-pair_in : goal.loop-i-preserved-then-pair_in
loop-i-preserved-then-pair_in c =
    clean-on c.loop-i.invariant (clean-row (later here) (λ e. omega arith) c.args.s.now c.loop-i.i (sym c.pair_in.ensures ∙ c.if-pair_in.true))

pub returns-in_default-clause-stops : goal.returns-in_default-clause-stops
returns-in_default-clause-stops c = inl (nothing c.args.s.now c.loop-i.i c.in_default.ensures)

pub overflow_add-i-then-s-i-ge240 : goal.overflow_add-i-then-s-i-ge240
overflow_add-i-then-s-i-ge240 c =
    let b = stands c.args.s.now c.loop-i.i c.in-Some.w c.in-Some.ensures in
    omega (arith, b.is, width-within c.args.s.now c.loop-i.i c.loop-i.invariant.within)

pub loop-i-smaller-then-s-i-ge240 : goal.loop-i-smaller-then-s-i-ge240
loop-i-smaller-then-s-i-ge240 c =
    let b = stands c.args.s.now c.loop-i.i c.in-Some.w c.in-Some.ensures in
    omega (arith, b.least)

pub loop-i-preserved-then-s-i-ge240 : goal.loop-i-preserved-then-s-i-ge240
loop-i-preserved-then-s-i-ge240 c =
    let b = stands c.args.s.now c.loop-i.i c.in-Some.w c.in-Some.ensures in
    clean-on c.loop-i.invariant (clean-high c.args.s.now c.loop-i.i c.in-Some.w c.loop-i-test.true c.if-s-i-ge240.true b.is (omega (arith, b.least)))

pub loop-i-smaller : goal.loop-i-smaller
loop-i-smaller c =
    let m = moved-three c.args.s.now c.loop-i.i _ (sym c.plain_in.ensures ∙ c.if-plain_in.true) c.skip_plain-i.ensures in
    omega (arith, m.on)

pub loop-i-preserved : goal.loop-i-preserved
loop-i-preserved c =
    let m = moved-three c.args.s.now c.loop-i.i _ (sym c.plain_in.ensures ∙ c.if-plain_in.true) c.skip_plain-i.ensures in
    clean-on c.loop-i.invariant m.clean

pub returns-else-plain_in-clause-stops : goal.returns-else-plain_in-clause-stops
returns-else-plain_in-clause-stops c =
    stops-left c.args.s.now c.loop-i.i c.if-s-i-lt128.false (omega (arith, c.if-s-i-ge240.false)) (sym c.pair_in.ensures ∙ c.if-pair_in.false)
    (sym c.plain_in.ensures ∙ c.if-plain_in.false)

pub returns-clause-stops : goal.returns-clause-stops
returns-clause-stops c = inl (width-end c.args.s.now c.loop-i.i c.loop-i-test.false)
