-- The theorems hold of every roll.
use Rattle.std.proofs.Common.{arith}
use Rattle.rolls.proofs.theorems.Rolls.{roll-theorems}
use Rattle.rolls.proofs.host.answer_record.Goals as goal

pub returns-then-answer-ne40-clause-roll_theorems : goal.returns-then-answer-ne40-clause-roll_theorems
returns-then-answer-ne40-clause-roll_theorems c = roll-theorems _ (λ i. omega (arith, c.type_inv.roll i))

pub returns-in-Ok-clause-roll_theorems : goal.returns-in-Ok-clause-roll_theorems
returns-in-Ok-clause-roll_theorems c = roll-theorems _ (λ i. omega (arith, c.type_inv.roll i))

pub returns-in-Err-clause-roll_theorems : goal.returns-in-Err-clause-roll_theorems
returns-in-Err-clause-roll_theorems c = roll-theorems _ (λ i. omega (arith, c.type_inv.roll i))
