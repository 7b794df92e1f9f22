-- Loops that go on while a test holds.
use Rattle.std.specs.Prelude.{ℕ, zero, suc, Bool, if◌then◌else◌}

-- one step after another as long as the test holds, at most m of them
unfoldable pub stepsWhile : {A : Type 0} → (A → Bool) → (A → A) → ℕ → A → A
stepsWhile test step zero x = x
stepsWhile test step (suc m) x = if test x then stepsWhile test step m (step x) else x
