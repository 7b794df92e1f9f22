-- Each word and each operator that nothing behind it makes more of is a step more.
use Rattle.token.proofs.lexer.Words.{◌+◌, ◌∙◌, sym, arith, eqb, lfClass, wideClass, upToBlank, ap, eqb-true, refl}
use Rattle.token.proofs.ident.Signs.{wide-sign, wide-start}
use Rattle.token.proofs.walk.Laws.{steps-trans, at-is}
use Rattle.token.proofs.walk.Starts.{ascii-starts, wide-clear, wide-in, wide-past}
use Rattle.token.proofs.walk.Left.{unlike}
use Rattle.token.proofs.walk.Leaves.{leaves-name, leaves-signs, leaves-wide, leaves-other}
use Rattle.token.proofs.walk.Whole.{name-bound, name-named, name-within-on, name-ends-on, name-bound-on, name-named-on, signs-bound, signs-signed, signs-within-on, signs-ends-on, signs-bound-on, signs-signed-on, run-starts}
use Rattle.token.proofs.walk.wide_words.Goals as goal

-- ---- a word that begins with ASCII

pub wide_word_end-end-requires-then-starts_word : goal.wide_word_end-end-requires-then-starts_word
wide_word_end-end-requires-then-starts_word c =
    let i = steps-trans c.loop-ascii_end.invariant c.ascii_words.ensures.on in
    let l = c.ascii_words.ensures in
    let b = sym c.if-starts_word.ensures in
    name-within-on i.good l.left.no-sign b _ (l.word b)

pub whole_goes_on-requires-then-starts_word-clause-some : goal.whole_goes_on-requires-then-starts_word-clause-some
whole_goes_on-requires-then-starts_word-clause-some c =
    let i = steps-trans c.loop-ascii_end.invariant c.ascii_words.ensures.on in
    let l = c.ascii_words.ensures in
    let b = sym c.if-starts_word.ensures in
    (name-bound-on i.good l.left.no-sign b _ (l.word b) _ c.wide_word_end-end-then-starts_word.ensures).0

pub whole_goes_on-requires-then-starts_word-clause-within : goal.whole_goes_on-requires-then-starts_word-clause-within
whole_goes_on-requires-then-starts_word-clause-within c =
    let i = steps-trans c.loop-ascii_end.invariant c.ascii_words.ensures.on in
    let l = c.ascii_words.ensures in
    let b = sym c.if-starts_word.ensures in
    (name-bound-on i.good l.left.no-sign b _ (l.word b) _ c.wide_word_end-end-then-starts_word.ensures).1

pub put_word_if-requires-then-starts_word-clause-left : goal.put_word_if-requires-then-starts_word-clause-left
put_word_if-requires-then-starts_word-clause-left c =
    let i = steps-trans c.loop-ascii_end.invariant c.ascii_words.ensures.on in
    let l = c.ascii_words.ensures in
    let b = sym c.if-starts_word.ensures in
    let n = name-named-on i.good l.left.no-sign b _ (l.word b) _ c.wide_word_end-end-then-starts_word.ensures (sym c.if-whole_goes_on-2.ensures) in
    λ y. n.left

pub put_word_if-requires-then-starts_word-clause-room : goal.put_word_if-requires-then-starts_word-clause-room
put_word_if-requires-then-starts_word-clause-room c =
    let i = steps-trans c.loop-ascii_end.invariant c.ascii_words.ensures.on in
    omega (arith, i.good.size, i.good.within)

pub loop-ascii_end-smaller-then-starts_word : goal.loop-ascii_end-smaller-then-starts_word
loop-ascii_end-smaller-then-starts_word c =
    let i = steps-trans c.loop-ascii_end.invariant c.ascii_words.ensures.on in
    let l = c.ascii_words.ensures in
    let b = sym c.if-starts_word.ensures in
    let n = name-named-on i.good l.left.no-sign b _ (l.word b) _ c.wide_word_end-end-then-starts_word.ensures (sym c.if-whole_goes_on-2.ensures) in
    omega (arith, at-is c.behind-x-then-starts_word.ensures, l.further, n.on, n.within)

pub loop-ascii_end-preserved-then-starts_word : goal.loop-ascii_end-preserved-then-starts_word
loop-ascii_end-preserved-then-starts_word c =
    let i = steps-trans c.loop-ascii_end.invariant c.ascii_words.ensures.on in
    let l = c.ascii_words.ensures in
    let b = sym c.if-starts_word.ensures in
    let n = name-named-on i.good l.left.no-sign b _ (l.word b) _ c.wide_word_end-end-then-starts_word.ensures (sym c.if-whole_goes_on-2.ensures) in
    rw c.behind-x-then-starts_word.ensures (steps-trans i (n.steps i.counted _ _ c.put_word_if-then-starts_word.ensures))

-- ---- what begins with a character past ASCII

pub look-here-requires : goal.look-here-requires
look-here-requires c = wide-in (steps-trans c.loop-ascii_end.invariant c.ascii_words.ensures.on).good (sym c.if-eq.ensures)

pub overflow_add-next : goal.overflow_add-next
overflow_add-next c = let p = wide-past (steps-trans c.loop-ascii_end.invariant c.ascii_words.ensures.on).good (sym c.if-eq.ensures) c.look-here.result c.look-here.ensures in omega (arith, p.0)

pub wide_word_end-end-requires : goal.wide_word_end-end-requires
wide_word_end-end-requires c = (wide-past (steps-trans c.loop-ascii_end.invariant c.ascii_words.ensures.on).good (sym c.if-eq.ensures) c.look-here.result c.look-here.ensures).0

pub whole_goes_on-requires-clause-some : goal.whole_goes_on-requires-clause-some
whole_goes_on-requires-clause-some c =
    let g = (steps-trans c.loop-ascii_end.invariant c.ascii_words.ensures.on).good in
    let p = wide-past g (sym c.if-eq.ensures) c.look-here.result c.look-here.ensures in
    (name-bound g (wide-start c.args.s.now c.ascii_words.result.0.at c.look-here.result c.look-here.ensures ∙ c.if-here.true) _ p.0 p.1 _ c.wide_word_end-end.ensures).0

pub whole_goes_on-requires-clause-within : goal.whole_goes_on-requires-clause-within
whole_goes_on-requires-clause-within c =
    let g = (steps-trans c.loop-ascii_end.invariant c.ascii_words.ensures.on).good in
    let p = wide-past g (sym c.if-eq.ensures) c.look-here.result c.look-here.ensures in
    (name-bound g (wide-start c.args.s.now c.ascii_words.result.0.at c.look-here.result c.look-here.ensures ∙ c.if-here.true) _ p.0 p.1 _ c.wide_word_end-end.ensures).1

pub loop-ascii_end-smaller-then-here : goal.loop-ascii_end-smaller-then-here
loop-ascii_end-smaller-then-here c =
    let g = (steps-trans c.loop-ascii_end.invariant c.ascii_words.ensures.on).good in
    let p = wide-past g (sym c.if-eq.ensures) c.look-here.result c.look-here.ensures in
    let n = name-named g (wide-start c.args.s.now c.ascii_words.result.0.at c.look-here.result c.look-here.ensures ∙ c.if-here.true) _ p.0 p.1 _ c.wide_word_end-end.ensures (sym c.if-whole_goes_on.ensures) in
    omega (arith, at-is c.behind-x.ensures, n.on, n.within)

pub loop-ascii_end-preserved-then-here : goal.loop-ascii_end-preserved-then-here
loop-ascii_end-preserved-then-here c =
    let i = steps-trans c.loop-ascii_end.invariant c.ascii_words.ensures.on in
    let p = wide-past i.good (sym c.if-eq.ensures) c.look-here.result c.look-here.ensures in
    let n = name-named i.good (wide-start c.args.s.now c.ascii_words.result.0.at c.look-here.result c.look-here.ensures ∙ c.if-here.true) _ p.0 p.1 _ c.wide_word_end-end.ensures (sym c.if-whole_goes_on.ensures) in
    rw c.behind-x.ensures (steps-trans i (n.steps i.counted _ _ c.put_word_if.ensures))

pub wide_run_end-end-requires : goal.wide_run_end-end-requires
wide_run_end-end-requires c = (wide-past (steps-trans c.loop-ascii_end.invariant c.ascii_words.ensures.on).good (sym c.if-eq.ensures) c.look-here.result c.look-here.ensures).0

pub whole_run_goes_on-requires : goal.whole_run_goes_on-requires
whole_run_goes_on-requires c =
    let g = (steps-trans c.loop-ascii_end.invariant c.ascii_words.ensures.on).good in
    let k = sym c.if-eq.ensures in
    let p = wide-past g k c.look-here.result c.look-here.ensures in
    (signs-bound g (wide-sign c.args.s.now c.ascii_words.result.0.at c.look-here.result c.look-here.ensures ∙ c.if-here-2.true) (wide-clear g k) _ p.0 p.1 _ c.wide_run_end-end.ensures).1

pub loop-ascii_end-smaller-then-here-2 : goal.loop-ascii_end-smaller-then-here-2
loop-ascii_end-smaller-then-here-2 c =
    let g = (steps-trans c.loop-ascii_end.invariant c.ascii_words.ensures.on).good in
    let k = sym c.if-eq.ensures in
    let p = wide-past g k c.look-here.result c.look-here.ensures in
    let n = signs-signed g (wide-sign c.args.s.now c.ascii_words.result.0.at c.look-here.result c.look-here.ensures ∙ c.if-here-2.true) (wide-clear g k) _ p.0 p.1 _ c.wide_run_end-end.ensures (sym c.if-whole_run_goes_on.ensures) in
    omega (arith, at-is c.behind-x-then-here-2.ensures, n.on, n.within)

pub loop-ascii_end-preserved-then-here-2 : goal.loop-ascii_end-preserved-then-here-2
loop-ascii_end-preserved-then-here-2 c =
    let i = steps-trans c.loop-ascii_end.invariant c.ascii_words.ensures.on in
    let k = sym c.if-eq.ensures in
    let p = wide-past i.good k c.look-here.result c.look-here.ensures in
    let n = signs-signed i.good (wide-sign c.args.s.now c.ascii_words.result.0.at c.look-here.result c.look-here.ensures ∙ c.if-here-2.true) (wide-clear i.good k) _ p.0 p.1 _ c.wide_run_end-end.ensures (sym c.if-whole_run_goes_on.ensures) in
    rw c.behind-x-then-here-2.ensures (steps-trans i (n.steps i.counted _ _ c.put_run_if.ensures))

-- ---- an operator that begins with ASCII

pub wide_run_end-end-requires-then-in_run : goal.wide_run_end-end-requires-then-in_run
wide_run_end-end-requires-then-in_run c =
    let i = steps-trans c.loop-ascii_end.invariant c.ascii_words.ensures.on in
    let l = c.ascii_words.ensures in
    let k = sym c.if-in_run.ensures in
    signs-within-on i.good k _ (l.run k)

pub whole_run_goes_on-requires-then-in_run : goal.whole_run_goes_on-requires-then-in_run
whole_run_goes_on-requires-then-in_run c =
    let i = steps-trans c.loop-ascii_end.invariant c.ascii_words.ensures.on in
    let l = c.ascii_words.ensures in
    let k = sym c.if-in_run.ensures in
    (signs-bound-on i.good k _ (l.run k) _ c.wide_run_end-end-then-in_run.ensures).1

pub put_run_if-requires-then-in_run-clause-left : goal.put_run_if-requires-then-in_run-clause-left
put_run_if-requires-then-in_run-clause-left c =
    let i = steps-trans c.loop-ascii_end.invariant c.ascii_words.ensures.on in
    let l = c.ascii_words.ensures in
    let k = sym c.if-in_run.ensures in
    let n = signs-signed-on i.good k _ (l.run k) _ c.wide_run_end-end-then-in_run.ensures (sym c.if-whole_run_goes_on-2.ensures) in
    λ y. n.left

pub loop-ascii_end-smaller : goal.loop-ascii_end-smaller
loop-ascii_end-smaller c =
    let i = steps-trans c.loop-ascii_end.invariant c.ascii_words.ensures.on in
    let l = c.ascii_words.ensures in
    let k = sym c.if-in_run.ensures in
    let n = signs-signed-on i.good k _ (l.run k) _ c.wide_run_end-end-then-in_run.ensures (sym c.if-whole_run_goes_on-2.ensures) in
    omega (arith, at-is c.behind-x-then-in_run.ensures, l.further, n.on, n.within)

pub loop-ascii_end-preserved : goal.loop-ascii_end-preserved
loop-ascii_end-preserved c =
    let i = steps-trans c.loop-ascii_end.invariant c.ascii_words.ensures.on in
    let l = c.ascii_words.ensures in
    let k = sym c.if-in_run.ensures in
    let n = signs-signed-on i.good k _ (l.run k) _ c.wide_run_end-end-then-in_run.ensures (sym c.if-whole_run_goes_on-2.ensures) in
    rw c.behind-x-then-in_run.ensures (steps-trans i (n.steps i.counted _ _ c.put_run_if-then-in_run.ensures))

-- ---- what is left

pub returns-then-whole_goes_on-2-clause-left : goal.returns-then-whole_goes_on-2-clause-left
returns-then-whole_goes_on-2-clause-left c =
    let g = (steps-trans c.loop-ascii_end.invariant c.ascii_words.ensures.on).good in
    let l = c.ascii_words.ensures in
    let b = sym c.if-starts_word.ensures in
    let t = ascii-starts g l.left.no-sign b in
    let e = name-ends-on g l.left.no-sign b _ (l.word b) _ c.wide_word_end-end-then-starts_word.ensures in
    leaves-name g l.left.no-sign l.left.no-line (c.ascii_words.result.0.at + 1) t.1 _ t.0 e (sym c.if-whole_goes_on-2.ensures)

pub returns-then-whole_goes_on-clause-left : goal.returns-then-whole_goes_on-clause-left
returns-then-whole_goes_on-clause-left c =
    let g = (steps-trans c.loop-ascii_end.invariant c.ascii_words.ensures.on).good in
    let k = sym c.if-eq.ensures in
    let p = wide-past g k c.look-here.result c.look-here.ensures in
    leaves-name g (ap upToBlank (eqb-true _ wideClass k)) (unlike (λ z. eqb z wideClass) _ lfClass refl k) _ p.1 _
    (wide-start c.args.s.now c.ascii_words.result.0.at c.look-here.result c.look-here.ensures ∙ c.if-here.true) c.wide_word_end-end.ensures (sym c.if-whole_goes_on.ensures)

pub returns-then-whole_run_goes_on-clause-left : goal.returns-then-whole_run_goes_on-clause-left
returns-then-whole_run_goes_on-clause-left c =
    let g = (steps-trans c.loop-ascii_end.invariant c.ascii_words.ensures.on).good in
    let k = sym c.if-eq.ensures in
    let p = wide-past g k c.look-here.result c.look-here.ensures in
    leaves-signs g (ap upToBlank (eqb-true _ wideClass k)) (unlike (λ z. eqb z wideClass) _ lfClass refl k) _ p.1 _
    (wide-sign c.args.s.now c.ascii_words.result.0.at c.look-here.result c.look-here.ensures ∙ c.if-here-2.true) c.wide_run_end-end.ensures (sym c.if-whole_run_goes_on.ensures)

pub returns-else-here-2-clause-left : goal.returns-else-here-2-clause-left
returns-else-here-2-clause-left c =
    let g = (steps-trans c.loop-ascii_end.invariant c.ascii_words.ensures.on).good in
    let k = sym c.if-eq.ensures in
    leaves-wide g (ap upToBlank (eqb-true _ wideClass k)) (unlike (λ z. eqb z wideClass) _ lfClass refl k)
    (wide-start c.args.s.now c.ascii_words.result.0.at c.look-here.result c.look-here.ensures ∙ c.if-here.false)
    (wide-sign c.args.s.now c.ascii_words.result.0.at c.look-here.result c.look-here.ensures ∙ c.if-here-2.false)

pub returns-then-whole_run_goes_on-2-clause-left : goal.returns-then-whole_run_goes_on-2-clause-left
returns-then-whole_run_goes_on-2-clause-left c =
    let g = (steps-trans c.loop-ascii_end.invariant c.ascii_words.ensures.on).good in
    let k = sym c.if-in_run.ensures in
    let l = c.ascii_words.ensures in
    let t = run-starts g k in
    let e = signs-ends-on g k _ (l.run k) _ c.wide_run_end-end-then-in_run.ensures in
    leaves-signs g l.left.no-sign l.left.no-line (c.ascii_words.result.0.at + 1) t.3 _ t.0 e (sym c.if-whole_run_goes_on-2.ensures)

pub returns-else-in_run-clause-left : goal.returns-else-in_run-clause-left
returns-else-in_run-clause-left c =
    let l = c.ascii_words.ensures in
    leaves-other (steps-trans c.loop-ascii_end.invariant l.on).good l.left.no-sign l.left.no-line (sym c.if-starts_word.ensures) (sym c.if-eq.ensures) (sym c.if-in_run.ensures)
