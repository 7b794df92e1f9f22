-- Three quotes, or many.
use Rattle.token.proofs.cursor.Words.{◌∙◌, arith}
use Rattle.token.proofs.string.Contents.{three-quote, triple-content}
use Rattle.token.proofs.string.Strips.{string-tail}
use Rattle.token.proofs.string.strip_triple.Goals as goal

pub strip_quotes-requires-clause-suffix : goal.strip_quotes-requires-clause-suffix
strip_quotes-requires-clause-suffix c = let p = c.requires in string-tail _ _ _ (three-quote _ _ p.opens) p.closes

pub overflow_sub-result : goal.overflow_sub-result
overflow_sub-result c =
    let p = c.requires in
    omega (arith, (triple-content _ _ _ p.order p.within p.closes p.opens (λ e. c.if-byte_at-eq34.false (c.byte_at.ensures ∙ e))).0)

pub returns : goal.returns
returns c = let p = c.requires in (triple-content _ _ _ p.order p.within p.closes p.opens (λ e. c.if-byte_at-eq34.false (c.byte_at.ensures ∙ e))).1
