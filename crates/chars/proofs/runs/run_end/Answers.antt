use Rattle.std.proofs.Common.{arith}
use Rattle.chars.proofs.runs.Laws.{run-on, run-stops}
use Rattle.chars.proofs.runs.run_end.Goals as goal

pub returns-then-outside-ne0 : goal.returns-then-outside-ne0
returns-then-outside-ne0 g c =
    let o = c.in-Some.ensures in
    let e = run-stops g.C.ByteSet.holds 16 c.args.s.now c.loop-outside.end o.within (omega arith) c.in-Some.outside o.mask (omega arith) in
    omega (arith, e, c.loop-outside.invariant)

pub loop-outside-preserved : goal.loop-outside-preserved
loop-outside-preserved g c =
    let o = c.in-Some.ensures in
    let e = run-on g.C.ByteSet.holds 16 c.args.s.now c.loop-outside.end o.within c.in-Some.outside o.mask (omega arith) in
    omega (arith, e, c.loop-outside.invariant)
