use Rattle.token.proofs.lexer.Words.{◌∙◌}
use Rattle.token.proofs.walk.Prefixes.{tick-begun}
use Rattle.token.proofs.walk.Words.{tick-opens}
use Rattle.token.proofs.walk.char_sym_step.Goals as goal

pub lex_char_sym-piece-requires-clause-opens : goal.lex_char_sym-piece-requires-clause-opens
lex_char_sym-piece-requires-clause-opens c = tick-opens c.requires.good c.requires.tick

pub put_piece-requires : goal.put_piece-requires
put_piece-requires c =
    let p = c.requires in
    let b = tick-begun p.good p.tick in
    record { short = p.short; good = p.good; counted = p.counted; within = b.within; no_gap = b.no_gap; no_comment = b.no_comment; piece_is = c.lex_char_sym-piece.ensures ∙ b.is }
