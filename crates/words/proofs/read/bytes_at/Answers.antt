-- All at once where they are there; else one by one.
use Rattle.std.proofs.Common.{◌∙◌, arith}
use Rattle.std.proofs.lemmas.List.{take_rest}
use Rattle.words.proofs.Readings.{bytes-there, bytes-each}
use Rattle.words.proofs.read.bytes_at.Goals as goal

pub returns : goal.returns
returns g c =
    let rest = c.in-Some.ensures.lookup.0.2 in
    let chunk = c.in-Some-first_chunk.ensures.cases in
    bytes-there c.args.bytes.now c.in-Some.rest.now _ c.args.at _ (rest ∙ take_rest c.args.bytes.now c.args.at) chunk.enough chunk.same

pub returns-2 : goal.returns-2
returns-2 g c =
    let i = c.loop-i.invariant in
    bytes-each c.args.bytes.now c.loop-i.x-items c.args.at _ i.long (λ k h. i.read k (omega arith))
