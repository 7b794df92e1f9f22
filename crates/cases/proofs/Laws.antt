-- One more case replayed.
use Prim.Native.Nat.{ℕ, ◌+◌, ◌<◌}
use mathlib.Core.Path.{◌≡◌}
use mathlib.Core.List.{List}
use lib.ListN.{length}
use Rattle.cases.specs.Cases.{Replays}

module _ {list : List ℕ} {next : ℕ → ℕ} {Agrees : ℕ → Type 0} {at cases differ : ℕ} (before : Replays list next Agrees at cases differ) where
  module _ (in_List : at < length list) {to : ℕ} (goes : to ≡ next at) where
    pub replays-agree : Agrees at → Replays list next Agrees to (cases + 1) differ
    replays-agree is = rw goes (Replays.agreed before in_List is)

    pub replays-differ : (Agrees at → ⊥) → Replays list next Agrees to (cases + 1) (differ + 1)
    replays-differ not = rw goes (Replays.differed before in_List not)
