use Rattle.token.proofs.digits.Runs.{zeros-to}
use Rattle.token.proofs.digits.skip_zeros.Goals as goal

pub returns : goal.returns
returns c = let z = zeros-to c.args.s.now _ _ c.requires c.run_end.ensures in record { within = z.0; past = z.1; value = z.2 }
