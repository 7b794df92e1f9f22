use Rattle.std.proofs.Common.{arith, ℕ, eqb, bit_or}
use Rattle.std.proofs.lemmas.Simd.{zip2_splat, zip2_of_maps}
use Rattle.chars.proofs.runs.Laws.{lane, masked, none}
use Rattle.chars.proofs.runs.NoneOfByteSet.outside.Goals as goal

pub returns : goal.returns
returns g c =
    let v = c.args.block in
    let long = c.fits-block.0 in
    let is = λ (y : ℕ). zip2_splat (λ a b. lane (eqb a b)) v 16 y long in
    let two = zip2_of_maps bit_or _ _ v (is g.row.A) (is g.row.B) in
    let three = zip2_of_maps bit_or _ _ v two (is g.row.C) in
    masked _ _ (λ x. none (eqb x g.row.A) (eqb x g.row.B) (eqb x g.row.C) (eqb x g.row.D)) v _ (omega (arith, long)) (zip2_of_maps bit_or _ _ v three (is g.row.D))
