-- Records stand in the lent bytes where these are the records first, and untouched behind them.
use Rattle.std.proofs.Common.{◌≡◌, refl, true, false, length, sym, ap, ◌∙◌, arith, rules}
use Rattle.std.proofs.lemmas.Bool.Decides.{nat_tests}
use Rattle.std.proofs.lemmas.Grind.{common_steps}
use Rattle.replay.proofs.Laws.{holds-off, holds-is}
use Rattle.replay.specs.declared.TheConstants.{FRESH}
use Rattle.cases.specs.Cases.{untouched}
use Rattle.replay.specs.Cases.{mostRoom}
use Rattle.replay.proofs.holds_records.Goals as goal
use Rattle.replay.proofs.holds_records.Goals.{then-bytes-lent, else-bytes-lent}

fresh-is : FRESH ≡ untouched mostRoom
unfolding untouched
fresh-is = refl

pub returns-then-eq : goal.returns-then-eq
returns-then-eq c =
    elim c.if-bytes-lent.branch [
      | then-bytes-lent w ↦
          let yes : w.eq.result ≡ true = sym w.value-is ∙ c.if-eq.true in
          holds-is c.args.lent.now c.args.records.now {fresh = FRESH} (search rules) fresh-is (omega arith) (search rules)
      | else-bytes-lent w ↦ let within = sym w.value-is ∙ c.if-eq.true in grind (arith, nat_tests)
    ]

pub returns-else-eq : goal.returns-else-eq
returns-else-eq c =
    rw c.if-eq.false
    (holds-off c.args.lent.now c.args.records.now
    (elim c.if-bytes-lent.branch [
      | then-bytes-lent w ↦ let no : w.eq.result ≡ false = sym w.value-is ∙ c.if-eq.false in search rules
      | else-bytes-lent w ↦ λ e. let n = ap length e in grind (arith, common_steps)
    ]))
