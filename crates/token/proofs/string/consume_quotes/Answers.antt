use Rattle.token.proofs.string.Laws.{quotes-to}
use Rattle.token.proofs.string.consume_quotes.Goals as goal

pub returns : goal.returns
returns c = let q = quotes-to c.args.s.now _ _ c.requires c.run_end.ensures in record { within = q.1; rest = q.2 }
