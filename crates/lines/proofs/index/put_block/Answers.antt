-- Sixty-four LFs by `starts-all`.
use Rattle.std.proofs.Common.{◌+◌, length, ap, ◌∙◌, sym, arith}
use Rattle.std.proofs.lemmas.List.Edits.{sets}
use Rattle.lines.proofs.index.Laws.{starts-all}
use Rattle.lines.proofs.index.put_block.Goals as goal

pub put_consecutive-requires-clause-room : goal.put_consecutive-requires-clause-room
put_consecutive-requires-clause-room c =
    let e = ap length (starts-all 64 c.args.s.now c.args.from c.requires.within (ap (λ m. m + 1) (sym c.lf_mask-lfs.ensures ∙ c.if-lfs.true))) in
    omega arith

pub returns-then-lfs-clause-value : goal.returns-then-lfs-clause-value
returns-then-lfs-clause-value c =
    let e = ap length (starts-all 64 c.args.s.now c.args.from c.requires.within (ap (λ m. m + 1) (sym c.lf_mask-lfs.ensures ∙ c.if-lfs.true))) in
    omega arith

pub returns-then-lfs-clause-index_after : goal.returns-then-lfs-clause-index_after
returns-then-lfs-clause-index_after c =
    let e = starts-all 64 c.args.s.now c.args.from c.requires.within (ap (λ m. m + 1) (sym c.lf_mask-lfs.ensures ∙ c.if-lfs.true)) in
    c.put_consecutive.ensures ∙ ap (sets c.args.index.now c.args.first) (sym e)
