use Rattle.std.proofs.Common.{arith, eqb, not, bit_and}
use Rattle.std.proofs.lemmas.Simd.{zip2_splat, zip2_of_maps}
use Rattle.chars.proofs.runs.Laws.{lane, masked, other}
use Rattle.chars.proofs.runs.OneOfByteSet.outside.Goals as goal

pub returns : goal.returns
returns g c =
    let v = c.args.block in
    let long = c.fits-block.0 in
    let not-a = zip2_splat (λ a b. lane (not (eqb a b))) v 16 g.row.A long in
    let not-b = zip2_splat (λ a b. lane (not (eqb a b))) v 16 g.row.B long in
    masked _ _ (other g.row.A g.row.B) v _ (omega (arith, long)) (zip2_of_maps bit_and _ _ v not-a not-b)
