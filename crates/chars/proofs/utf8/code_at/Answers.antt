-- The bits of each width are those of the definition.
use Rattle.std.proofs.Common.{rules, arith}
use Rattle.chars.proofs.utf8.Codes.{code-one, code-two, code-three, code-four}
use Rattle.chars.proofs.utf8.code_at.Goals as goal

pub returns-in-1 : goal.returns-in-1
returns-in-1 c = search (rules, code-one)

pub returns-in-2 : goal.returns-in-2
returns-in-2 c = search (rules, code-two)

pub returns-in-3 : goal.returns-in-3
returns-in-3 c = search (rules, code-three)

pub returns-in_default : goal.returns-in_default
returns-in_default c =
    code-four c.args.s.now c.args.at c.args.w _ _ _ (omega arith) (λ e. absurd (omega arith)) (λ e. absurd (omega arith)) c.six_bits-in_default.ensures.value c.six_bits-in_default-2.ensures.value
    c.six_bits-in_default-3.ensures.value
