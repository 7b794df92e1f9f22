-- Runs of bytes, as `run_end` of `chars` answers where they end: what a function of the text finds there.
use Rattle.token.proofs.cursor.Words.{ℕ, ◌+◌, ◌≤◌, ◌<◌, ◌≡◌, Bool, true, false, not, ◌||◌, List, length, get_or, arith, Text, from, afterRun, end, within, passed, stopped, text-laws}
use Rattle.token.proofs.cursor.Laws.{all-past}
open text-laws use {at-end}

-- past a byte of the set f finds what it finds before it
module _ {A : Type 0} (f : Text → A) (s : List ℕ) (q : ℕ → Bool) (on : (k : ℕ) → k < length s → q (get_or s k 0) ≡ true → f (from s (k + 1)) ≡ f (from s k)) where
  -- so it does where the run ends
  pub passed-to : (i r : ℕ) → i ≤ length s → r ≡ end q s i → (i ≤ r) × (r ≤ length s) × (f (from s r) ≡ f (from s i))
  passed-to i r h e = rw e (omega arith, within q s i h, all-past f s (λ b. q b ≡ true) on i (end q s i) (omega arith) (within q s i h) (passed q s i))

-- where nothing is left, no run goes on
pub run-out : (p : Text → Bool) (s : List ℕ) (i : ℕ) → length s ≤ i → from s i ≡ afterRun p (from s i)
unfolding afterRun
run-out p s i h = rw (at-end s i h)

-- the run of the text whose characters stand where bytes of the set do
module _ (p : Text → Bool) (s : List ℕ) (q : ℕ → Bool) (on : (k : ℕ) → k < length s → q (get_or s k 0) ≡ true → afterRun p (from s (k + 1)) ≡ afterRun p (from s k))
    (off : (k : ℕ) → k < length s → q (get_or s k 0) ≡ false → from s k ≡ afterRun p (from s k)) where
  pub run-to : (i r : ℕ) → i ≤ length s → r ≡ end q s i → (i ≤ r) × (r ≤ length s) × (from s r ≡ afterRun p (from s i))
  run-to i r h e =
      let t = passed-to (afterRun p) s q on i r h e in
      let o = off r in
      let z = stopped q s i in
      grind (arith, run-out p s)

-- ---- the sets, as `run_end` names them

-- one byte, named twice
pub twice : (x : Bool) → x || x ≡ x
twice x = grind arith

-- all but one byte, named four times
pub all-but : (x : Bool) → not (((x || x) || x) || x) ≡ not x
all-but x = grind arith
