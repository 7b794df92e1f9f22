use Rattle.std.proofs.Common.{arith, ltb, take, drop}
use Rattle.std.proofs.lemmas.Simd.{length-chunk, zip2_splat_left}
use Rattle.chars.proofs.runs.Laws.{above, lane, masked}
use Rattle.chars.proofs.utf8.wide_at.Goals as goal

pub returns-then-at-s-clause-mask : goal.returns-then-at-s-clause-mask
returns-then-at-s-clause-mask c =
    let v = take 64 (drop c.args.at c.args.s.now) in
    let long = length-chunk c.args.at 64 c.args.s.now (omega arith) in
    masked _ _ (above 0x7F) v _ (omega (arith, long)) (zip2_splat_left (λ a b. lane (ltb a b)) 0x7F 64 v long)
