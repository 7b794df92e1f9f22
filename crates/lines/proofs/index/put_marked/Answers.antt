-- Each turn stores the next start.
use Rattle.std.proofs.Common.{◌+◌, ◌/◌, length, ap, ◌∙◌, sym, add-one, arith}
use Rattle.std.proofs.lemmas.List.Edits.{sets}
use lib.Count.{count_trailing_zeros}
use Rattle.lines.proofs.index.Laws.{ahead, Next, next-start, ahead-none, ahead-all}
use Rattle.lines.proofs.index.put_marked.Goals.{In-loop-left}
use Rattle.lines.proofs.index.put_marked.Goals as goal

next : (c : In-loop-left) → Next c.args.s.now c.loop-left.at c.args.to c.loop-left.left (count_trailing_zeros 64 c.loop-left.left)
next c =
    let o = c.loop-left in
    next-start c.args.s.now o.at c.args.to o.left o.invariant.marked o.invariant.within c.requires.within (omega arith) c.loop-left-test.true

pub loop-left-init : goal.loop-left-init
loop-left-init c =
    let s = c.args.s.now in
    let a = ahead-all s c.args.from c.args.to (omega arith) c.requires.within in
    let e = c.requires.marked in
    let b = ap (λ x. ahead s (c.args.from + 1) c.args.to x) e ∙ a.1 in
    record {
      begun = omega arith;
      within = omega arith;
      marked = ap (λ x. x / 2) e ∙ a.0;
      count = ap (λ l. c.args.first + length l) b;
      stored = ap (sets c.args.index.now c.args.first) b;
    }

pub overflow_sub-left : goal.overflow_sub-left
overflow_sub-left c = (next c).some

pub loop-left-smaller : goal.loop-left-smaller
loop-left-smaller c = (next c).less

pub offset_bounds-index-k : goal.offset_bounds-index-k
offset_bounds-index-k c = let e = ap length (next c).starts in omega arith

pub bounds-index-k : goal.bounds-index-k
bounds-index-k c = let e = ap length (next c).starts in omega arith

pub overflow_add-k : goal.overflow_add-k
overflow_add-k c = let e = ap length (next c).starts in omega arith

pub loop-left-preserved : goal.loop-left-preserved
loop-left-preserved c =
    let o = c.loop-left in
    let t = next c in
    let e = ap length t.starts in
    record {
      begun = omega arith;
      within = omega (arith, t.within);
      marked = t.mask;
      count = omega arith;
      stored = rw (add-one o.k) (ap (sets o.index o.k) (sym t.starts) ∙ o.invariant.stored);
    }

pub returns-clause-value : goal.returns-clause-value
returns-clause-value c =
    let o = c.loop-left in
    let e = ap length (ahead-none c.args.s.now o.at c.args.to o.left o.invariant.marked c.loop-left-test.false) in
    omega arith

pub returns-clause-index_after : goal.returns-clause-index_after
returns-clause-index_after c =
    let o = c.loop-left in
    let e = ahead-none c.args.s.now o.at c.args.to o.left o.invariant.marked c.loop-left-test.false in
    ap (sets o.index o.k) (sym e) ∙ o.invariant.stored
