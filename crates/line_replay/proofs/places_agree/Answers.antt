-- All places asked for agree where each of them does.
use Rattle.std.proofs.Common.{ℕ, ◌+◌, ◌*◌, arith, rules, tests}
use Rattle.std.proofs.lemmas.Iterator.{cases_from_all, YieldsList-from_range}
use Rattle.cases.proofs.Alls.{all-below}
use Rattle.line_replay.specs.Cases.{PlaceAgrees}
use Rattle.line_replay.proofs.places_agree.Goals as goal

pub returns : goal.returns
returns c =
    let n = c.args.count in
    let P : ℕ → Type 0 = λ k. PlaceAgrees c.args.list.now c.args.script.now c.args.index.now (c.args.from + 20 * k) in
    all-below P n _
    (cases_from_all _ _ _ P (λ k. P k → ⊥) c.all.ensures.ran (YieldsList-from_range 0 n n (cc) (omega arith)) (λ x q k. search (rules, tests))
    (λ x q k. search (rules, tests)))
