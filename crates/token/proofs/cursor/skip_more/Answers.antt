use Rattle.token.proofs.cursor.Blanks.{blanks-to}
use Rattle.token.proofs.cursor.skip_more.Goals as goal

pub returns : goal.returns
returns c = let b = blanks-to c.args.s.now c.args.at _ c.requires c.run_end.ensures in record { within = b.1; onward = b.0; rest = b.2 }
