use Rattle.std.proofs.Common.{sym, ◌∙◌}
use Rattle.std.proofs.lemmas.Bool.{eq-eqb}
use Rattle.chars.proofs.runs.Laws.{block-in}
use Rattle.chars.proofs.runs.block_at.Goals as goal

pub returns-in-Some-eq0-clause-value : goal.returns-in-Some-eq0-clause-value
returns-in-Some-eq0-clause-value g c =
    let o = c.in-Some-eq0.ensures in
    let m = c.in-Some-eq0.field-0 in
    sym (eq-eqb m 0 c.in-Some-eq0.field-0-test) ∙ block-in g.C.ByteSet.holds 16 c.args.s.now c.args.at o.within m o.mask
