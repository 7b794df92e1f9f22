-- A run of ASCII that a `/` goes on with is a step more; what is left of a word.
use Rattle.token.proofs.lexer.Words.{sym, arith}
use Rattle.token.proofs.walk.Whole.{slash-within, slash-signed}
use Rattle.token.proofs.walk.Left.{word-ascii}
use Rattle.token.proofs.walk.Laws.{steps-trans, at-is}
use Rattle.token.proofs.walk.walk_words.Goals as goal

pub overflow_add-ascii_end : goal.overflow_add-ascii_end
overflow_add-ascii_end c =
    let i = steps-trans c.loop-ascii_end.invariant c.ascii_words.ensures.on in
    let l = c.ascii_words.ensures in
    let k = sym c.if-in_run.ensures in
    omega (arith, slash-within i.good k _ (l.run k) (l.left.run k) (sym c.if-eq-2.ensures))

pub consume_op_run-c-requires : goal.consume_op_run-c-requires
consume_op_run-c-requires c =
    let i = steps-trans c.loop-ascii_end.invariant c.ascii_words.ensures.on in
    let l = c.ascii_words.ensures in
    let k = sym c.if-in_run.ensures in
    slash-within i.good k _ (l.run k) (l.left.run k) (sym c.if-eq-2.ensures)

pub put_run_if-requires-clause-left : goal.put_run_if-requires-clause-left
put_run_if-requires-clause-left c =
    let i = steps-trans c.loop-ascii_end.invariant c.ascii_words.ensures.on in
    let l = c.ascii_words.ensures in
    let k = sym c.if-in_run.ensures in
    let e = c.consume_op_run-c.ensures in
    let n = slash-signed i.good k _ (l.run k) (l.left.run k) (sym c.if-eq-2.ensures) _ e.within e.rest _ c.here_at-past.ensures in
    λ y. n.left

pub loop-ascii_end-smaller-then-in_run : goal.loop-ascii_end-smaller-then-in_run
loop-ascii_end-smaller-then-in_run c =
    let i = steps-trans c.loop-ascii_end.invariant c.ascii_words.ensures.on in
    let l = c.ascii_words.ensures in
    let k = sym c.if-in_run.ensures in
    let e = c.consume_op_run-c.ensures in
    let n = slash-signed i.good k _ (l.run k) (l.left.run k) (sym c.if-eq-2.ensures) _ e.within e.rest _ c.here_at-past.ensures in
    omega (arith, at-is c.behind-x.ensures, l.further, n.on, n.within)

pub loop-ascii_end-preserved-then-in_run : goal.loop-ascii_end-preserved-then-in_run
loop-ascii_end-preserved-then-in_run c =
    let i = steps-trans c.loop-ascii_end.invariant c.ascii_words.ensures.on in
    let l = c.ascii_words.ensures in
    let k = sym c.if-in_run.ensures in
    let e = c.consume_op_run-c.ensures in
    let n = slash-signed i.good k _ (l.run k) (l.left.run k) (sym c.if-eq-2.ensures) _ e.within e.rest _ c.here_at-past.ensures in
    rw c.behind-x.ensures (steps-trans i (n.steps i.counted _ _ c.put_run_if.ensures))

-- ---- a word is left that no character past ASCII follows

pub returns-then-starts_word-clause-ascii : goal.returns-then-starts_word-clause-ascii
returns-then-starts_word-clause-ascii c =
    let i = steps-trans c.loop-ascii_end.invariant c.ascii_words.ensures.on in
    let l = c.ascii_words.ensures in
    let b = sym c.if-starts_word.ensures in
    word-ascii i.good l.left.no-sign b _ (l.word b) (sym c.if-eq.ensures)
