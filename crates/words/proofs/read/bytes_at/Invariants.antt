-- Each byte so far is the one at its place.
use Rattle.std.proofs.Common.{◌≡◌, ℕ, ◌+◌, ◌<◌, length, get_or}
use Rattle.words.specs.Words.{oneAt}
use Rattle.words.proofs.read.bytes_at.Given as goal

abbrev pub invariant-loop-i : goal.invariant-loop-i
invariant-loop-i g l =
    record { long : length l.x-items ≡ g.row.N; read : (k : ℕ) → k < l.i → get_or l.x-items k 0 ≡ oneAt l.bytes (l.at + k) }
