-- Where no four stand, the steps have come to their end; so many of the openings leave the same comment to close.
use Rattle.token.proofs.cursor.Words.{sym, arith}
use Rattle.token.proofs.gap.Laws.{openings-stop, opened}
use Rattle.token.proofs.gap.pass_openings.Goals as goal

pub returns : goal.returns
returns c =
    let v = openings-stop _ _ _ _ (sym c.loop-i-test.ensures) c.loop-i.invariant.going in
    let o = opened c.args.s.now (λ k. omega (arith, c.type_inv.s k)) _ _ v c.requires in
    record { value = v; within = o.0; depth_in = o.1; same = o.2 }
