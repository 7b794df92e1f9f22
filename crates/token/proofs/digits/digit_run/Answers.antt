-- The run ends where its last turn stood, and its value is that of the digits passed.
use Rattle.token.proofs.cursor.Words.{◌+◌, ◌*◌, ◌%◌, ◌^◌, ◌≡◌, arith, refl, sym, ◌∙◌, ap, inl, inr, get_or, digitIn, cases_lt}
use Rattle.token.proofs.digits.Laws.{some-digit, no-value, digits-ascii, class-at}
use Rattle.token.proofs.digits.Runs.{valueTo, none-to, more-to, wrapped, stops-here, one-end, digits-fit}
use Rattle.token.proofs.digits.digit_run.Goals as goal

pub loop-init : goal.loop-init
loop-init g c = record {
  place = omega arith;
  within = omega arith;
  digits = λ k x y. absurd (omega (arith, x, y));
  value = rw (none-to g.row.BASE c.args.s.now c.args.at c.args.at refl) refl;
}

pub returns-in_default-clause-run : goal.returns-in_default-clause-run
returns-in_default-clause-run g c =
    let l = c.loop.invariant in
    stops-here g.row.BASE c.args.most c.args.s.now c.args.at c.loop.counter c.loop.i l.place (omega (arith, c.loop.auto)) l.within l.digits (inl (grind (arith, no-value)))

pub returns-in_default-clause-alone : goal.returns-in_default-clause-alone
returns-in_default-clause-alone g c = λ e x. one-end x (returns-in_default-clause-run g c)

pub returns-in_default-clause-own : goal.returns-in_default-clause-own
returns-in_default-clause-own g c =
    λ n. c.loop.invariant.value ∙ digits-fit g.row.BASE c.requires.base c.args.s.now c.args.at (returns-in_default-clause-run g c) n

pub loop-preserved : goal.loop-preserved
loop-preserved g c =
    let l = c.loop.invariant in
    let s = c.args.s.now in
    let b = g.row.BASE in
    let i = c.loop.i in
    let w = valueTo b s c.args.at i in
    let d = some-digit b (get_or s i 0) (grind arith) in
    let k = (class-at (digitIn b) (digits-ascii b) s i d.0).0 in
    record {
      place = omega (arith, l.place);
      within = omega (arith, k);
      digits = λ k x y. elim (cases_lt k i) [ inl w ↦ l.digits k x w | inr w ↦ (let z : k ≡ i = omega (arith, y, w) in rw z d.0) ];
      value =
          wrapped c.loop.value w b c.in-Some.d l.value ∙ ap (λ x. (w * b + x) % 2 ^ 64) d.1
          ∙ ap (λ x. x % 2 ^ 64) (sym (more-to b s c.args.at i (omega (arith, l.place)) k));
    }

pub returns-clause-own : goal.returns-clause-own
returns-clause-own g c =
    let l = c.loop.invariant in
    let r = stops-here g.row.BASE c.args.most c.args.s.now c.args.at c.loop.counter c.loop.i l.place (omega (arith, c.loop.auto)) l.within l.digits (inr (omega (arith, c.loop.auto, c.loop-test.false))) in
    λ n. l.value ∙ digits-fit g.row.BASE c.requires.base c.args.s.now c.args.at r n
