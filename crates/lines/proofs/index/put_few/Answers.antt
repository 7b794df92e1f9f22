-- Sixteen LFs by `starts-all`.
use Rattle.std.proofs.Common.{◌+◌, length, ap, ◌∙◌, sym, arith}
use Rattle.std.proofs.lemmas.List.Edits.{sets}
use Rattle.lines.proofs.index.Laws.{starts-all}
use Rattle.lines.proofs.index.put_few.Goals as goal

pub put_consecutive-requires-clause-room : goal.put_consecutive-requires-clause-room
put_consecutive-requires-clause-room c =
    let e = ap length (starts-all 16 c.args.s.now c.args.from c.requires.within (ap (λ m. m + 1) (sym c.few_mask-lfs.ensures ∙ c.if-lfs-eq65535.true))) in
    omega arith

pub returns-then-lfs-eq65535-clause-value : goal.returns-then-lfs-eq65535-clause-value
returns-then-lfs-eq65535-clause-value c =
    let e = ap length (starts-all 16 c.args.s.now c.args.from c.requires.within (ap (λ m. m + 1) (sym c.few_mask-lfs.ensures ∙ c.if-lfs-eq65535.true))) in
    omega arith

pub returns-then-lfs-eq65535-clause-index_after : goal.returns-then-lfs-eq65535-clause-index_after
returns-then-lfs-eq65535-clause-index_after c =
    let e = starts-all 16 c.args.s.now c.args.from c.requires.within (ap (λ m. m + 1) (sym c.few_mask-lfs.ensures ∙ c.if-lfs-eq65535.true)) in
    c.put_consecutive.ensures ∙ ap (sets c.args.index.now c.args.first) (sym e)
