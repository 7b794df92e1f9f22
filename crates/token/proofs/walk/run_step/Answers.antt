use Rattle.token.proofs.lexer.Words.{◌∙◌}
use Rattle.token.proofs.walk.Starts.{run-begun, sign-next}
use Rattle.token.proofs.walk.run_step.Goals as goal

pub lex_op_run-piece-requires-clause-within : goal.lex_op_run-piece-requires-clause-within
lex_op_run-piece-requires-clause-within c = (run-begun c.args.s.now c.args.x.at c.requires.sign c.requires.no_comment).within

pub lex_op_run-piece-requires-clause-next_same : goal.lex_op_run-piece-requires-clause-next_same
lex_op_run-piece-requires-clause-next_same c = sign-next c.args.s.now c.args.x.at c.requires.sign c.requires.no_comment c.args.next.at c.requires.next_same

pub put_piece-requires : goal.put_piece-requires
put_piece-requires c =
    let p = c.requires in
    let b = run-begun c.args.s.now c.args.x.at p.sign p.no_comment in
    record { short = p.short; good = p.good; counted = p.counted; within = b.within; no_gap = b.no_gap; no_comment = b.no_comment; piece_is = c.lex_op_run-piece.ensures ∙ b.is }
