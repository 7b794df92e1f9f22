-- To the first mark, then one mark after another.
use Rattle.token.proofs.cursor.Words.{arith, length, ap, ◌∙◌, close, closedOf}
use Rattle.token.proofs.gap.Laws.{pair-past, block-opens}
use Rattle.token.proofs.cursor.Cursor.consume_block_comment.Goals as goal

pub first_mark-nest-requires : goal.first_mark-nest-requires
first_mark-nest-requires c = (block-opens c.args.s.now c.args.self.at c.requires.opens).within

pub close_block-requires : goal.close_block-requires
close_block-requires c =
    let w = (block-opens c.args.s.now c.args.self.at c.requires.opens).within in
    record { some = omega arith; within = c.first_mark-nest.ensures.within; inner_in = c.first_mark-nest.ensures.depth_in }

pub returns : goal.returns
returns c =
    let p = block-opens c.args.s.now c.args.self.at c.requires.opens in
    c.close_block.ensures ∙ ap (closedOf (length c.args.s.now)) (c.first_mark-nest.ensures.same ∙ ap (close 0 0) (pair-past p))
