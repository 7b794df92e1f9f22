-- By the two bytes, or fewer are left.
use Rattle.std.proofs.Common.{sym, ◌∙◌, ap, ◌&&◌, ◌+◌, arith, get_or, length, ltb-true, ltb-false}
use Rattle.chars.specs.paper.Quoted.{between}
use Rattle.chars.proofs.Bools.{clash}
use Rattle.chars.proofs.text.Looks.{short, lacks, first-of-two, two-is}
use Rattle.chars.proofs.text.is_two.Goals.{then-is_in, else-is_in}
use Rattle.chars.proofs.text.is_two.Goals as goal

pub returns-then-at-s : goal.returns-then-at-s
returns-then-at-s c = elim c.if-is_in.branch [
  | then-is_in w ↦
      let s = c.args.s.now in
      let h = ltb-true (c.args.at + 1) (length s) (sym w.value-is ∙ c.if-at-s.true) in
      let b = between 0x80 0xBF (get_or s (c.args.at + 1) 0) in
      c.continues.ensures ∙ sym (ap (λ z. z && b) (sym c.is_in.ensures ∙ w.if-is_in.true)) ∙ two-is s c.args.at h
  | else-is_in w ↦ clash (sym w.if-is_in.false ∙ sym w.value-is ∙ c.if-at-s.true)
]

pub returns-else-at-s : goal.returns-else-at-s
returns-else-at-s c = elim c.if-is_in.branch [
  | then-is_in w ↦ let h = ltb-false (c.args.at + 1) (length c.args.s.now) (sym w.value-is ∙ c.if-at-s.false) in c.if-at-s.false ∙ short c.args.s.now c.args.at 2 c.requires (omega (arith, h))
  | else-is_in w ↦ c.if-at-s.false ∙ lacks _ _ (first-of-two c.args.s.now c.args.at c.requires) (sym c.is_in.ensures ∙ w.if-is_in.false)
]
