use Rattle.token.proofs.lexer.Words.{◌∙◌}
use Rattle.token.proofs.walk.Prefixes.{string-opens, string-begun}
use Rattle.token.proofs.walk.string_step.Goals as goal

pub lex_plain_string-piece-requires-clause-opens : goal.lex_plain_string-piece-requires-clause-opens
lex_plain_string-piece-requires-clause-opens c = string-opens c.requires.good c.requires.quote

pub put_piece-requires : goal.put_piece-requires
put_piece-requires c =
    let p = c.requires in
    let b = string-begun p.good p.quote in
    record { short = p.short; good = p.good; counted = p.counted; within = b.within; no_gap = b.no_gap; no_comment = b.no_comment; piece_is = c.lex_plain_string-piece.ensures ∙ b.is }
