use Rattle.std.proofs.Common.{◌≡◌, ◌+◌, ap, ◌∙◌, slice_set, arith}
use Rattle.std.specs.List.{range_with_len}
use Rattle.std.proofs.lemmas.List.Edits.{sets}
use Rattle.lines.proofs.index.Laws.{stored-next}
use Rattle.lines.proofs.index.put_consecutive.Goals as goal

pub loop-i-preserved : goal.loop-i-preserved
loop-i-preserved c = ap (λ l. slice_set l (c.args.first + c.loop-i.i) (c.args.start + c.loop-i.i)) c.loop-i.invariant ∙ stored-next c.args.index.now c.args.first c.args.start c.loop-i.i

pub returns : goal.returns
returns c =
    let e : c.loop-i.i ≡ c.args.count = omega arith in
    c.loop-i.invariant ∙ ap (λ n. sets c.args.index.now c.args.first (range_with_len c.args.start n)) e
