-- The theorems hold for every script.
use Rattle.lines.proofs.theorems.Lines.{line_theorems}
use Rattle.lines.proofs.host.index_lines.Goals as goal

pub returns-then-answer-ne16-clause-line_theorems : goal.returns-then-answer-ne16-clause-line_theorems
returns-then-answer-ne16-clause-line_theorems c = line_theorems _

pub returns-in-Err-clause-line_theorems : goal.returns-in-Err-clause-line_theorems
returns-in-Err-clause-line_theorems c = line_theorems _

pub returns-in-Ok-clause-line_theorems : goal.returns-in-Ok-clause-line_theorems
returns-in-Ok-clause-line_theorems c = line_theorems _

pub returns-in-Ok-2-clause-line_theorems : goal.returns-in-Ok-2-clause-line_theorems
returns-in-Ok-2-clause-line_theorems c = line_theorems _
