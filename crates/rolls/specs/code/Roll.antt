-- The whole roll as the code answers it: how many tokens, or the refusal's number and place.
use Rattle.std.specs.Prelude.{ℕ, ◌+◌, length, Result, Ok, Err}
use Rattle.rolls.specs.paper.Refusals.{refusalNumber}
use Rattle.rolls.specs.paper.Roll.{Outcome, tokens, refused}
use Rattle.rolls.specs.declared.refusal.Refused.{Refused}

pub data Counted : Type 0 where
  total : ℕ → Counted
  stopped : ℕ → ℕ → Counted

-- after n tokens
unfoldable pub counted : ℕ → Outcome → Counted
counted n (tokens ts) = total (n + length ts)
counted n (refused j a) = stopped j a

-- what an answer of the code stands for
abbrev pub countOf : Result ℕ Refused → Counted
countOf (Ok n) = total n
countOf (Err e) = stopped (refusalNumber e.what) e.place
