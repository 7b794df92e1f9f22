-- Laws of the definitions of specs/Cases.antt.
use Prim.Native.Nat.{ℕ, ◌≤◌}
use mathlib.Core.Path.{◌≡◌, ◌∙◌, ap}
use mathlib.Core.List.{List}
use lib.ListN.{length, take}
use lib.Seq.{length-take-le}
use native.Mathlib.Omega.{arith}
use Rattle.std.proofs.lemmas.List.{take-replicate}
use Rattle.line_replay.specs.Cases.{mostRoom, holding}

-- ---- numbers that hold the same

-- the first of them
module _ (held room : ℕ) {space : List ℕ} (clean : space ≡ holding held mostRoom) (size : mostRoom ≡ length space) (most : room ≤ mostRoom) where
  pub part-length : length (take room space) ≡ room
  part-length = length-take-le room space (omega arith)

  pub part_holding : take room space ≡ holding held room
  unfolding holding
  part_holding = ap (take room) clean ∙ take-replicate room mostRoom held most

pub ruleset part = (part-length, part_holding)
