-- Each word and each operator that nothing behind it makes more of is a step more.
use Rattle.token.proofs.lexer.Words.{sym, arith}
use Rattle.token.proofs.walk.Laws.{steps-trans, at-is}
use Rattle.token.proofs.walk.Words.{word-inside, word-bound, plain-leaves, step-word, run-within}
use Rattle.token.proofs.walk.Runs.{run-bound, run-on, run-left-to, step-run}
use Rattle.token.proofs.walk.Left.{left-word, apart-run}
use Rattle.token.proofs.walk.ascii_words.Goals as goal

pub word_end-end-requires : goal.word_end-end-requires
word_end-end-requires o c = omega (arith, word-inside c.loop-x.invariant.0.good (sym c.if-is_sign.ensures) (sym c.if-starts_word.ensures))

pub goes_on-requires-clause-some : goal.goes_on-requires-clause-some
goes_on-requires-clause-some o c =
    let b = word-bound c.loop-x.invariant.0.good (sym c.if-is_sign.ensures) (sym c.if-starts_word.ensures) _ c.word_end-end.ensures in
    omega (arith, b.0)

pub goes_on-requires-clause-within : goal.goes_on-requires-clause-within
goes_on-requires-clause-within o c = (word-bound c.loop-x.invariant.0.good (sym c.if-is_sign.ensures) (sym c.if-starts_word.ensures) _ c.word_end-end.ensures).1

pub put_word_if-requires-clause-left : goal.put_word_if-requires-clause-left
put_word_if-requires-clause-left o c =
    λ y. plain-leaves c.loop-x.invariant.0.good (sym c.if-is_sign.ensures) (sym c.if-starts_word.ensures) _ c.word_end-end.ensures (sym c.if-goes_on.ensures)

pub loop-x-smaller-then-starts_word : goal.loop-x-smaller-then-starts_word
loop-x-smaller-then-starts_word o c =
    let b = word-bound c.loop-x.invariant.0.good (sym c.if-is_sign.ensures) (sym c.if-starts_word.ensures) _ c.word_end-end.ensures in
    omega (arith, at-is c.behind-x.ensures, b.0, b.1)

pub loop-x-preserved-then-starts_word : goal.loop-x-preserved-then-starts_word
loop-x-preserved-then-starts_word o c =
    let i = c.loop-x.invariant.0 in
    let b = word-bound i.good (sym c.if-is_sign.ensures) (sym c.if-starts_word.ensures) _ c.word_end-end.ensures in (
      rw c.behind-x.ensures
          (steps-trans i (step-word i.good (sym c.if-is_sign.ensures) (sym c.if-starts_word.ensures) _ c.word_end-end.ensures (sym c.if-goes_on.ensures) i.counted _ _ c.put_word_if.ensures)),
      omega (arith, at-is c.behind-x.ensures, b.0, c.loop-x.invariant.1),
    )

pub run_end-end-requires : goal.run_end-end-requires
run_end-end-requires o c = omega (arith, run-within c.loop-x.invariant.0.good (sym c.if-in_run.ensures))

pub run_goes_on-requires-clause-within : goal.run_goes_on-requires-clause-within
run_goes_on-requires-clause-within o c = run-bound c.loop-x.invariant.0.good (sym c.if-in_run.ensures) _ c.run_end-end.ensures

pub put_run_if-requires-clause-left : goal.put_run_if-requires-clause-left
put_run_if-requires-clause-left o c =
    λ y. run-left-to c.loop-x.invariant.0.good (sym c.if-in_run.ensures) _ c.run_end-end.ensures (sym c.if-run_goes_on.ensures)

pub loop-x-smaller : goal.loop-x-smaller
loop-x-smaller o c =
    let g = c.loop-x.invariant.0.good in
    let k = sym c.if-in_run.ensures in
    let q = c.run_end-end.ensures in
    let n = sym c.if-run_goes_on.ensures in
    omega (arith, at-is c.behind-x-then-in_run.ensures, run-on g k _ q n, (run-left-to g k _ q n).1)

pub loop-x-preserved : goal.loop-x-preserved
loop-x-preserved o c =
    let i = c.loop-x.invariant.0 in
    let k = sym c.if-in_run.ensures in
    let q = c.run_end-end.ensures in
    let n = sym c.if-run_goes_on.ensures in (
      rw c.behind-x-then-in_run.ensures (steps-trans i (step-run i.good k _ q n i.counted _ _ c.put_run_if.ensures)),
      omega (arith, at-is c.behind-x-then-in_run.ensures, run-on i.good k _ q n, c.loop-x.invariant.1),
    )

-- ---- what is left

pub returns-then-goes_on-clause-left : goal.returns-then-goes_on-clause-left
returns-then-goes_on-clause-left o c =
    let l = left-word c.loop-x.invariant.0.good (sym c.if-is_sign.ensures) (sym c.if-starts_word.ensures) _ c.word_end-end.ensures (sym c.if-goes_on.ensures) in
    record { no-sign = l.no-sign; no-line = l.no-line; word = l.word; run = l.run }

pub returns-then-goes_on-clause-run : goal.returns-then-goes_on-clause-run
returns-then-goes_on-clause-run o c = λ r. absurd (apart-run c.loop-x.invariant.0.good (sym c.if-starts_word.ensures) r)

-- ---- a blank

pub loop-x-preserved-then-eq : goal.loop-x-preserved-then-eq
loop-x-preserved-then-eq o c =
    (steps-trans c.loop-x.invariant.0 (c.blank_step-x.ensures.on _ _ c.loop-x.invariant.0.counted), omega (arith, c.blank_step-x.ensures.further, c.loop-x.invariant.1))
