-- What a host is told, computed.
use Rattle.std.specs.Prelude.{ℕ, if◌then◌else◌, List, length, ◌==◌}
use Rattle.words.specs.Words.{Told, told}
use Rattle.rolls.specs.paper.Host.{outcomeTold, steppedTold}
use Rattle.rolls.specs.computed.Roll.{readAt, readRoll}

unfoldable pub rollTold : List ℕ → List ℕ → Told
rollTold roll block = if length block == 16 then outcomeTold (length roll) (readRoll roll) else told 20 block

unfoldable pub recordTold : List ℕ → ℕ → ℕ → List ℕ → Told
recordTold roll at previous block = if length block == 40 then steppedTold (readAt roll at previous) else told 20 block
