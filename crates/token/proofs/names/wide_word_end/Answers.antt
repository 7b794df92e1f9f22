-- A step passes a character past ASCII, those of two bytes behind it and the ASCII behind these, or nothing of the run stands there.
use Rattle.token.proofs.lexer.Words.{arith, not-true, not-false}
use Rattle.token.proofs.names.Wide.{word-kind, first, class-is, kept-inside, kept-ascii, kept-wide, kept-next, kept-far}
use Rattle.token.proofs.names.wide_word_end.Goals as goal

pub loop-here-init : goal.loop-here-init
loop-here-init c = first word-kind c.args.s.now c.args.at c.requires c.word_on-end.result c.word_on-end.ensures

pub look-here-requires : goal.look-here-requires
look-here-requires c =
    let g = c.loop-here.invariant in
    kept-inside word-kind c.args.s.now g (class-is word-kind c.args.s.now g c.eq.ensures c.loop-here-test.true)

pub returns-then-not-here : goal.returns-then-not-here
returns-then-not-here c =
    let g = c.loop-here.invariant in
    kept-wide word-kind c.args.s.now g (class-is word-kind c.args.s.now g c.eq.ensures c.loop-here-test.true) c.look-here.result c.look-here.ensures (not-true _ c.if-not-here.true)

pub overflow_add-end : goal.overflow_add-end
overflow_add-end c =
    let g = c.loop-here.invariant in
    let n = kept-next word-kind c.args.s.now g (class-is word-kind c.args.s.now g c.eq.ensures c.loop-here-test.true) c.look-here.result c.look-here.ensures (not-false _ c.if-not-here.false) in
    omega (arith, n.1)

pub letters_end-next-requires : goal.letters_end-next-requires
letters_end-next-requires c =
    let g = c.loop-here.invariant in
    (kept-next word-kind c.args.s.now g (class-is word-kind c.args.s.now g c.eq.ensures c.loop-here-test.true) c.look-here.result c.look-here.ensures (not-false _ c.if-not-here.false)).1

pub loop-here-smaller : goal.loop-here-smaller
loop-here-smaller c =
    let g = c.loop-here.invariant in
    let l = c.letters_end-next.ensures in
    let n = kept-far word-kind c.args.s.now g (class-is word-kind c.args.s.now g c.eq.ensures c.loop-here-test.true) c.look-here.result c.look-here.ensures (not-false _ c.if-not-here.false)
    c.letters_end-next.result l.on l.within l.words c.word_on-end-in-loop-here.result c.word_on-end-in-loop-here.ensures in
    omega (arith, n.1, n.2)

pub loop-here-preserved : goal.loop-here-preserved
loop-here-preserved c =
    let g = c.loop-here.invariant in
    let l = c.letters_end-next.ensures in
    (kept-far word-kind c.args.s.now g (class-is word-kind c.args.s.now g c.eq.ensures c.loop-here-test.true) c.look-here.result c.look-here.ensures (not-false _ c.if-not-here.false)
    c.letters_end-next.result l.on l.within l.words c.word_on-end-in-loop-here.result c.word_on-end-in-loop-here.ensures).0

pub returns : goal.returns
returns c =
    let g = c.loop-here.invariant in
    kept-ascii word-kind c.args.s.now g (class-is word-kind c.args.s.now g c.eq.ensures c.loop-here-test.false)
