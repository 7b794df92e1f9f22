-- Thirty-two bytes are left where a turn is made, and the turns from here on end where those from the start on do.
use Rattle.token.proofs.cursor.Words.{◌-◌, sym, refl, arith, spanAt, blocksTaken}
use Rattle.token.proofs.Loops.{going-on, going-stop}
use Rattle.token.proofs.string.Strips.{blocks_apart}
use Rattle.token.proofs.string.strip_blocks.Goals as goal

pub loop-a-init : goal.loop-a-init
unfolding blocksTaken
loop-a-init c =
    let a = c.args in
    (c.requires.order, c.requires.within, record { turns = a.end - a.start; enough = omega arith; same = refl })

pub loop-a-preserved : goal.loop-a-preserved
loop-a-preserved c =
    let l = c.loop-a in
    let e = sym c.loop-a-test.ensures in
    let h = blocks_apart _ _ _ e in
    let k = l.invariant.1 in
    (omega arith, omega arith, going-on _ _ _ (spanAt l.a l.b) _ _ e (omega arith) l.invariant.2)

pub returns : goal.returns
returns c = let l = c.loop-a in going-stop _ _ _ (spanAt l.a l.b) _ (sym c.loop-a-test.ensures) l.invariant.2
