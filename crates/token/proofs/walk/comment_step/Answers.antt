-- A line comment up to its end.
use Rattle.token.proofs.lexer.Words.{arith, sym, ◌∙◌, rules}
use Rattle.token.proofs.gap.Scans.{line-comment-found}
use Rattle.token.proofs.walk.Pieces.{step-line-comment, opens-line-here, opens-block-here}
use Rattle.token.proofs.walk.comment_step.Goals as goal

pub consume_line_comment-end-requires : goal.consume_line_comment-end-requires
consume_line_comment-end-requires c =
    record {
      within = c.requires.good.within;
      opens = opens-line-here c.args.s.now c.args.x.at c.requires.opened (sym c.byte_at.ensures ∙ c.if-byte_at-eq47.true);
    }

pub returns-then-byte_at-eq47 : goal.returns-then-byte_at-eq47
returns-then-byte_at-eq47 c =
    let s = c.args.s.now in
    let o = opens-line-here s c.args.x.at c.requires.opened (sym c.byte_at.ensures ∙ c.if-byte_at-eq47.true) in
    let m = c.consume_line_comment-end.ensures in
    let f = line-comment-found s c.args.x.at _ o m.within m.rest in
    rw c.behind_comment.ensures (record { on = λ d out u. step-line-comment c.requires.good u _ f out; further = let u = f.on in omega arith; refused = search rules })

pub block_step-requires-clause-opened : goal.block_step-requires-clause-opened
block_step-requires-clause-opened c =
    opens-block-here c.args.s.now c.args.x.at c.requires.opened (λ e. c.if-byte_at-eq47.false (c.byte_at.ensures ∙ e))
