-- The escape ends where the definition says, or is refused as it says.
use Rattle.token.proofs.lexer.Words.{length, ap, ◌∙◌, pieceOf, err_from_is_err_and}
use Rattle.token.proofs.charsym.Laws.{escape-ends, escape-wrong}
use Rattle.token.proofs.charsym.lex_escaped_char.Goals as goal

pub close_char-requires : goal.close_char-requires
close_char-requires c = (escape-ends c.args.s.now c.args.c.at c.requires _ c.in_ok-end.ensures).0

pub returns-in_err-end : goal.returns-in_err-end
returns-in_err-end c = let p = err_from_is_err_and c.from_residual.result c.from_residual.ensures.1 in rw (p.1, p.2) (escape-wrong c.args.s.now c.args.c.at _ c.in_err-end.ensures)

pub returns : goal.returns
returns c =
    let s = c.args.s.now in
    c.close_char.ensures ∙ ap (pieceOf (length s)) (escape-ends s c.args.c.at c.requires _ c.in_ok-end.ensures).1
