use Rattle.token.proofs.lexer.Words.{◌∙◌, arith}
use Rattle.token.proofs.walk.Prefixes.{prefixed-opens, prefixed-scan}
use Rattle.token.proofs.walk.prefixed_step.Goals as goal

pub lex_prefixed_string-piece-requires : goal.lex_prefixed_string-piece-requires
lex_prefixed_string-piece-requires c =
    let p = c.requires.prefixes in
    record { order = let o = p.on in omega arith; within = p.within; opens = prefixed-opens p }

pub put_piece-requires-clause-piece_is : goal.put_piece-requires-clause-piece_is
put_piece-requires-clause-piece_is c = c.lex_prefixed_string-piece.ensures ∙ prefixed-scan c.requires.prefixes
