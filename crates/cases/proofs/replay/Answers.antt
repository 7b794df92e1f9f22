use Rattle.std.proofs.Common.{◌≡◌, length, arith, ap, ◌∙◌, sym}
use Rattle.std.proofs.lemmas.Bool.{false≢true}
use Rattle.cases.specs.Cases.{nextIn, Replays}
use Rattle.cases.proofs.Laws.{replays-agree, replays-differ}
use Rattle.cases.proofs.replay.Goals as goal
use Rattle.cases.proofs.replay.Goals.{then-end-list, then-end-list-via-then-end-list, then-end-list-via-else-end-list+then-not-case_agrees, else-end-list+else-not-case_agrees}

pub loop-at-init : goal.loop-at-init
loop-at-init g c = record { counted = Replays.begun; fewer = omega arith; fewest = omega arith; within = omega arith }

pub loop-at-preserved : goal.loop-at-preserved
loop-at-preserved g c =
    let list = c.args.list.now in
    let x = c.loop-at in
    let end = c.case_end-end.ensures in
    let goes : c.min-at.result ≡ nextIn list (g.C.Case.end list x.at) = c.min-at.ensures ∙ ap (nextIn list) end.value in
    elim c.if-end-list.branch [
      | then-end-list w ↦
          elim w.then-end-list.branch [
            | then-end-list-via-then-end-list w' ↦
                record {
                  counted =
                      rw w.differ-is
                      (replays-differ x.invariant.counted c.loop-at-test.true goes
                      (λ a. let all = g.C.Case.whole list x.at a in absurd (omega (arith, all, end.value, w'.if-end-list.true))));
                  fewer = omega arith;
                  fewest = omega (arith, w.differ-is);
                  within = omega arith;
                }
            | then-end-list-via-else-end-list+then-not-case_agrees w' ↦
                record {
                  counted =
                      rw w.differ-is
                      (replays-differ x.invariant.counted c.loop-at-test.true goes (λ a. false≢true (sym w'.if-not-case_agrees.true ∙ w'.case_agrees.ensures.1 a)));
                  fewer = omega arith;
                  fewest = omega (arith, w.differ-is);
                  within = omega arith;
                }
          ]
      | else-end-list+else-not-case_agrees w ↦
          record {
            counted = rw w.differ-is (replays-agree x.invariant.counted c.loop-at-test.true goes (w.case_agrees.ensures.0 w.if-not-case_agrees.false));
            fewer = omega arith;
            fewest = omega (arith, w.differ-is);
            within = omega arith;
          }
    ]

pub returns : goal.returns
returns g c =
    let e : c.loop-at.at ≡ length c.args.list.now = omega arith in
    rw e at c.loop-at.invariant.counted
