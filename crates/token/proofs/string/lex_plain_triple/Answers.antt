use Rattle.token.proofs.cursor.Words.{length, false, ap, ◌∙◌, endedOf, err_from_is_err_and}
use Rattle.token.proofs.string.Contents.{three-quote, triple-opened}
use Rattle.token.proofs.string.Laws.{plain-end, plain-refused, plain-ended}
use Rattle.token.proofs.string.lex_plain_triple.Goals as goal

pub returns-in_err-end : goal.returns-in_err-end
returns-in_err-end c =
    let s = c.args.s.now in
    let p = err_from_is_err_and c.from_residual.result c.from_residual.ensures.1 in
    rw (p.1, p.2) (plain-refused (length s) _ _ (c.in_err-end.ensures ∙ ap (endedOf (length s)) (triple-opened false s _ c.requires.opens)))

pub strip_triple-content-requires : goal.strip_triple-content-requires
strip_triple-content-requires c =
    let s = c.args.s.now in
    let q = c.requires in
    let p = plain-end s _ _ q.within (three-quote s _ q.opens) (c.in_ok-end.ensures ∙ ap (endedOf (length s)) (triple-opened false s _ q.opens)) in
    record { order = p.0; within = p.1; opens = q.opens; closes = p.3 }

pub returns : goal.returns
returns c =
    let s = c.args.s.now in
    let r = c.requires in
    let q = c.in_ok-end.ensures ∙ ap (endedOf (length s)) (triple-opened false s _ r.opens) in
    plain-ended (length s) _ _ _ _ q (plain-end s _ _ r.within (three-quote s _ r.opens) q).3 c.strip_triple-content.ensures
