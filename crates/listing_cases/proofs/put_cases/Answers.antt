use Rattle.std.proofs.Common.{◌+◌, ◌<◌, ◌≤◌, length, arith, sym, ◌∙◌}
use Rattle.puts.proofs.Laws.{going-begun, going-turn, going-fails, going-end}
use Rattle.listing_cases.proofs.CaseLaws.{place-start, place-on, count-start, texts-turn, texts-end}
use Rattle.listing_cases.proofs.put_cases.Goals as goal

pub loop-at-init : goal.loop-at-init
loop-at-init c =
    let list = c.args.list.now in
    record {
      within = omega arith;
      fewer = omega arith;
      place = sym (place-start list);
      going = rw (← count-start list) going-begun;
    }

pub returns-in_err-put_case : goal.returns-in_err-put_case
returns-in_err-put_case c =
    let at = c.loop-at.at in
    let list = c.args.list.now in
    let more : at + 5 ≤ length list = omega arith in
    going-fails _ _ (rw (texts-turn list c.loop-at.earlier at more) at c.loop-at.invariant.going) _ c.from_residual.ensures.0 c.in_err-put_case.ensures

pub loop-at-preserved : goal.loop-at-preserved
loop-at-preserved c =
    let at = c.loop-at.at in
    let list = c.args.list.now in
    let next = c.case_end-at.ensures in
    let more : at + 5 ≤ length list = omega arith in
    let before = rw (texts-turn list c.loop-at.earlier at more) at c.loop-at.invariant.going in
    record {
      within = omega arith;
      fewer = omega arith;
      place = next.value ∙ rw (c.loop-at.invariant.place) (sym (place-on list c.loop-at.earlier));
      going = rw next.value (going-turn _ _ before c.in_ok-put_case.ensures);
    }

pub returns : goal.returns
returns c =
    let at = c.loop-at.at in
    let list = c.args.list.now in
    let none : length list < at + 5 = omega arith in
    going-end (rw (texts-end list c.loop-at.earlier at none) at c.loop-at.invariant.going)
