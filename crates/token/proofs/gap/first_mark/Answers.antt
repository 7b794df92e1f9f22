-- Openings, four at a time, or bytes that are no mark.
use Rattle.token.proofs.cursor.Words.{arith}
use Rattle.token.proofs.gap.Laws.{block-past}
use Rattle.token.proofs.gap.first_mark.Goals as goal

pub returns : goal.returns
returns c =
    let b = block-past c.args.s.now 0 c.args.at _ c.requires c.run_end.ensures in
    record { within = b.1; depth_in = omega arith; same = b.2 }
