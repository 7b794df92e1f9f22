-- Where no line end came before, the comment alone; else the blanks behind it too, and those that follow. One that is open at the end of script is
-- refused.
use Rattle.token.proofs.lexer.Words.{arith, sym, ◌∙◌, ne_eqb, eq-eqb, rules}
use Rattle.token.proofs.gap.Scans.{block-found}
use Rattle.token.proofs.walk.Pieces.{Past, step-block, past-block, past-steps, past-trans, past-waits, past-refuses, opens-by-class, refuses-open}
use Rattle.token.proofs.walk.block_step.Goals as goal

pub returns-in_default-clause-refused : goal.returns-in_default-clause-refused
returns-in_default-clause-refused c = rw c.at.ensures (refuses-open c.requires.good c.requires.opened c.in_default.ensures)

pub returns-then-x : goal.returns-then-x
returns-then-x c =
    let x = c.args.x in
    let b = block-found c.args.s.now x.at _ c.requires.opened c.in-Some.ensures in
    let n = ne_eqb x.line x.bytes c.if-x.true in
    rw c.behind_comment.ensures (record { on = λ d out u. step-block c.requires.good u _ b n out; further = let o = b.on in omega arith; refused = search rules })

pub skip_blanks-c-requires : goal.skip_blanks-c-requires
skip_blanks-c-requires c = (block-found c.args.s.now c.args.x.at _ c.requires.opened c.in-Some.ensures).within

-- ---- those that follow

pub more-init : goal.more-init
more-init c =
    let x = c.args.x in
    let b = block-found c.args.s.now x.at _ c.requires.opened c.in-Some.ensures in
    let k = c.skip_blanks-c.ensures in
    rw c.behind_block-y.ensures (past-block c.requires.good _ _ b (eq-eqb x.line x.bytes c.if-x.false) k.onward k.within k.rest)

pub consume_block_comment-closed-requires-in-more-clause-opens : goal.consume_block_comment-closed-requires-in-more-clause-opens
consume_block_comment-closed-requires-in-more-clause-opens c =
    opens-by-class c.more.invariant.good (sym c.more-test.ensures) (sym c.byte_at.ensures ∙ c.if-byte_at-eq42.true)

pub returns-in_default-closed-clause-refused : goal.returns-in_default-closed-clause-refused
returns-in_default-closed-clause-refused c =
    let p = c.more.invariant in
    let o = opens-by-class p.good (sym c.more-test.ensures) (sym c.byte_at.ensures ∙ c.if-byte_at-eq42.true) in
    rw c.at-in_default-closed.ensures (λ d out. past-refuses p (refuses-open p.good o c.in_default-closed.ensures d out))

pub skip_blanks-c-requires-in-more : goal.skip_blanks-c-requires-in-more
skip_blanks-c-requires-in-more c =
    let o = opens-by-class c.more.invariant.good (sym c.more-test.ensures) (sym c.byte_at.ensures ∙ c.if-byte_at-eq42.true) in
    (block-found c.args.s.now c.more.y.at _ o c.in-Some-closed.ensures).within

-- one more
next : (c : goal.After-behind_block-y-in-more) → Past c.args.s.now c.more.y c.behind_block-y-in-more.result
next c =
    let p = c.more.invariant in
    let o = opens-by-class p.good (sym c.more-test.ensures) (sym c.byte_at.ensures ∙ c.if-byte_at-eq42.true) in
    let b = block-found c.args.s.now c.more.y.at _ o c.in-Some-closed.ensures in
    let k = c.skip_blanks-c-in-more.ensures in
    rw c.behind_block-y-in-more.ensures (past-block p.good _ _ b (past-waits p (eq-eqb c.args.x.line c.args.x.bytes c.if-x.false)) k.onward k.within k.rest)

pub more-preserved : goal.more-preserved
more-preserved c = past-trans c.more.invariant (next c)

pub more-smaller : goal.more-smaller
more-smaller c =
    let p = next c in
    let o = p.on in
    let w = p.good.within in
    omega (arith, o, w)

pub returns-after-more : goal.returns-after-more
returns-after-more c =
    let p = c.more.invariant in
    record { on = λ d out u. past-steps c.requires.good p d out u; further = p.on; refused = search rules }
