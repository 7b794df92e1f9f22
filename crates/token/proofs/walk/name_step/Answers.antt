use Rattle.token.proofs.lexer.Words.{◌∙◌}
use Rattle.token.proofs.walk.Starts.{start-begun}
use Rattle.token.proofs.walk.name_step.Goals as goal

pub lex_ident-piece-requires-clause-within : goal.lex_ident-piece-requires-clause-within
lex_ident-piece-requires-clause-within c = (start-begun c.args.s.now c.args.x.at c.requires.starts).within

pub put_piece-requires : goal.put_piece-requires
put_piece-requires c =
    let p = c.requires in
    let b = start-begun c.args.s.now c.args.x.at p.starts in
    record { short = p.short; good = p.good; counted = p.counted; within = b.within; no_gap = b.no_gap; no_comment = b.no_comment; piece_is = c.lex_ident-piece.ensures ∙ b.is }
