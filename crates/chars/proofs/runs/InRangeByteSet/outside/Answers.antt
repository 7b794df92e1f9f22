use Rattle.std.proofs.Common.{arith, ltb, bit_or}
use Rattle.std.proofs.lemmas.Simd.{zip2_splat, zip2_splat_left, zip2_of_maps}
use Rattle.chars.proofs.runs.Laws.{lane, masked, out-of}
use Rattle.chars.proofs.runs.InRangeByteSet.outside.Goals as goal

pub returns : goal.returns
returns g c =
    let v = c.args.block in
    let long = c.fits-block.0 in
    let below = zip2_splat (λ a b. lane (ltb a b)) v 16 g.row.LOW long in
    let above = zip2_splat_left (λ a b. lane (ltb a b)) g.row.HIGH 16 v long in
    masked _ _ (out-of g.row.LOW g.row.HIGH) v _ (omega (arith, long)) (zip2_of_maps bit_or _ _ v below above)
