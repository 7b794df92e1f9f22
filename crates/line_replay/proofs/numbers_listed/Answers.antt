-- All numbers are listed where each of them is.
use Rattle.std.proofs.Common.{◌≡◌, ℕ, ◌+◌, ◌*◌, length, get_or, arith, rules, tests}
use Rattle.std.proofs.lemmas.Iterator.{cases_from_all, YieldsList-from_range}
use Rattle.words.specs.Words.{fourAt}
use Rattle.cases.proofs.Alls.{all-below}
use Rattle.line_replay.proofs.numbers_listed.Goals as goal

pub returns : goal.returns
returns c =
    let n = length c.args.numbers.now in
    let P : ℕ → Type 0 = λ k. get_or c.args.numbers.now k 0 ≡ fourAt c.args.list.now (c.args.at + 4 * k) in
    all-below P n _
    (cases_from_all _ _ _ P (λ k. P k → ⊥) c.all.ensures.ran (YieldsList-from_range 0 n n (cc) (omega arith)) (λ x q k. search (rules, tests))
    (λ x q k. search (rules, tests)))
