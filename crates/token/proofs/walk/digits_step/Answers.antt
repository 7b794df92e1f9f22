use Rattle.token.proofs.lexer.Words.{◌∙◌}
use Rattle.token.proofs.walk.Prefixes.{number-begun}
use Rattle.token.proofs.walk.digits_step.Goals as goal

pub put_piece-requires : goal.put_piece-requires
put_piece-requires c =
    let p = c.requires in
    let b = number-begun p.good p.digit in
    record { short = p.short; good = p.good; counted = p.counted; within = b.within; no_gap = b.no_gap; no_comment = b.no_comment; piece_is = c.lex_number-piece.ensures ∙ b.is }
