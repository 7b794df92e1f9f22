-- Three bytes stand there, or fewer are left.
use Rattle.std.proofs.Common.{◌+◌, ◌≤◌, ◌<◌, length, sym, ◌∙◌, arith}
use Rattle.std.proofs.lemmas.Bool.Decides.{nat_tests}
use Rattle.chars.proofs.utf8.Marks.{plain-at, plain-short}
use Rattle.chars.proofs.utf8.plain_in.Goals as goal
use Rattle.chars.proofs.utf8.plain_in.Goals.{then-s-ge3, else-s-ge3}

pub returns-then-at-s : goal.returns-then-at-s
returns-then-at-s c =
    let room : c.args.at + 3 ≤ length c.args.s.now =
    elim c.if-s-ge3.branch [
      | then-s-ge3 w ↦ let late = sym w.value-is ∙ c.if-at-s.true in grind (arith, nat_tests)
      | else-s-ge3 w ↦ let none = sym w.value-is ∙ c.if-at-s.true in grind (arith, nat_tests)
    ] in
    c.is_plain_three.ensures ∙ plain-at c.args.s.now c.args.at room

pub returns-else-at-s : goal.returns-else-at-s
returns-else-at-s c =
    let few : length c.args.s.now < c.args.at + 3 =
    elim c.if-s-ge3.branch [
      | then-s-ge3 w ↦ let late = sym w.value-is ∙ c.if-at-s.false in grind (arith, nat_tests)
      | else-s-ge3 w ↦ omega arith
    ] in
    c.if-at-s.false ∙ plain-short c.args.s.now c.args.at few
