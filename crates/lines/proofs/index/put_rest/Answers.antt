-- The bytes looked at before are shifted out.
use Rattle.std.proofs.Common.{◌+◌, ◌-◌, ◌/◌, ◌^◌, length, ap, ◌∙◌, arith}
use Rattle.std.proofs.lemmas.List.Edits.{sets}
use lib.Seq.{length-sets}
use Rattle.lines.specs.computed.Lines.{part, startsIn}
use Rattle.lines.proofs.index.Laws.{mask-last, few-more, few-stored, few-fit}
use Rattle.lines.proofs.index.put_rest.Goals as goal

pub put_marked-requires-clause-marked : goal.put_marked-requires-clause-marked
put_marked-requires-clause-marked c =
    ap (λ m. m / 2 ^ (64 - (length c.args.s.now - c.args.from))) c.lf_mask.ensures ∙ mask-last c.args.s.now c.args.from (omega arith) (omega arith) (omega arith)

pub put_few-k-requires-clause-room : goal.put_few-k-requires-clause-room
put_few-k-requires-clause-room c =
    let o = c.by_few in
    let f = few-fit c.args.s.now c.args.from o.i (o.i + 16) o.invariant.begun (omega arith) (omega arith) in
    let e = ap length o.invariant.stored in
    let g = length-sets c.args.index.now c.args.first (startsIn c.args.from (part c.args.s.now c.args.from o.i)) in
    omega arith

pub by_few-preserved : goal.by_few-preserved
by_few-preserved c =
    let o = c.by_few in
    let s = c.args.s.now in
    let e = few-more s c.args.from o.i (o.i + 16) o.invariant.begun (omega arith) (omega arith) in
    let t = c.put_few-k.ensures in
    record {
      begun = omega arith;
      within = omega arith;
      count = omega arith;
      stored =
          t.index_after
          ∙ ap (λ l. sets l o.k (startsIn o.i (part s o.i (o.i + 16)))) o.invariant.stored
          ∙ ap (λ k. sets (sets c.args.index.now c.args.first (startsIn c.args.from (part s c.args.from o.i))) k (startsIn o.i (part s o.i (o.i + 16)))) o.invariant.count
          ∙ few-stored s c.args.from o.i (o.i + 16) o.invariant.begun (omega arith) (omega arith) c.args.index.now c.args.first;
    }

pub put_each-requires-clause-room : goal.put_each-requires-clause-room
put_each-requires-clause-room c =
    let o = c.by_few in
    let f = few-fit c.args.s.now c.args.from o.i (length c.args.s.now) o.invariant.begun o.invariant.within (omega arith) in
    let e = ap length o.invariant.stored in
    let g = length-sets c.args.index.now c.args.first (startsIn c.args.from (part c.args.s.now c.args.from o.i)) in
    omega arith

pub returns-clause-value : goal.returns-clause-value
returns-clause-value c =
    let o = c.by_few in
    let e = few-more c.args.s.now c.args.from o.i (length c.args.s.now) o.invariant.begun o.invariant.within (omega arith) in
    omega (arith, c.put_each.ensures.value)
