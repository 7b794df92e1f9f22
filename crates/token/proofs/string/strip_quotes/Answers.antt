-- The content of what is left is the content of all.
use Rattle.token.proofs.string.Strips.{left-all, left-taken, left-stop, left-end}
use Rattle.token.proofs.string.strip_quotes.Goals as goal

pub loop-a-init : goal.loop-a-init
loop-a-init c =
    let a = c.args in
    let p = c.requires in
    left-taken a.s.now a.start a.end _ c.strip_blocks-left.ensures (left-all _ _ _ p.order p.within p.suffix)

pub returns-then-s-a-ne34 : goal.returns-then-s-a-ne34
returns-then-s-a-ne34 c = left-stop _ _ _ _ _ c.loop-a.invariant c.loop-a-test.true c.if-s-a-ne34.true

pub returns : goal.returns
returns c = left-end _ _ _ _ _ c.loop-a.invariant c.loop-a-test.false
