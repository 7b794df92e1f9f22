-- By the three bytes, or fewer are left.
use Rattle.std.proofs.Common.{sym, ◌∙◌, ◌+◌, arith, length, ltb-true, ltb-false}
use Rattle.chars.proofs.Bools.{clash}
use Rattle.chars.proofs.text.Looks.{short, lacks, first-of-three, three-is}
use Rattle.chars.proofs.text.is_three.Goals.{then-is_in, else-is_in}
use Rattle.chars.proofs.text.is_three.Goals as goal

pub returns-then-at-s : goal.returns-then-at-s
returns-then-at-s c = elim c.if-is_in.branch [
  | then-is_in w ↦
      let h = ltb-true (c.args.at + 2) (length c.args.s.now) (sym w.value-is ∙ c.if-at-s.true) in
      c.are_three.ensures ∙ three-is c.args.s.now c.args.at h
  | else-is_in w ↦ clash (sym w.if-is_in.false ∙ sym w.value-is ∙ c.if-at-s.true)
]

pub returns-else-at-s : goal.returns-else-at-s
returns-else-at-s c = elim c.if-is_in.branch [
  | then-is_in w ↦ let h = ltb-false (c.args.at + 2) (length c.args.s.now) (sym w.value-is ∙ c.if-at-s.false) in c.if-at-s.false ∙ short c.args.s.now c.args.at 3 c.requires (omega (arith, h))
  | else-is_in w ↦ c.if-at-s.false ∙ lacks _ _ (first-of-three c.args.s.now c.args.at c.requires) (sym c.is_in.ensures ∙ w.if-is_in.false)
]
