-- Bytes above both line-end bytes are passed together first; the rest is found by what stands at each place.
use Rattle.token.proofs.cursor.Words.{ap, sym, ◌∙◌, afterRun}
use Rattle.token.proofs.gap.Laws.{line-begins, line-past}
use Rattle.token.proofs.cursor.Cursor.consume_line_comment.Goals as goal

pub loop-i-init : goal.loop-i-init
loop-i-init c =
    let p = line-begins _ _ c.requires.opens in
    let r = line-past c.args.s.now _ _ p.1 c.run_end-i.ensures in
    (r.1, r.2 ∙ ap (afterRun _) (sym p.0))
