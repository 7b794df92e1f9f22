-- The declared starts of lines are where counting from the first byte begins a line.
use Prim.Native.Nat.{ℕ, zero, suc, ◌+◌, ◌<◌}
use mathlib.Core.Path.{◌≡◌, refl}
use mathlib.Core.Bool.{Bool, true, false}
use mathlib.Core.Logic.{inl}
use mathlib.Core.List.{List, [], ◌∷◌}
use lib.ListN.{length, get_or}
use native.Mathlib.Omega.{arith}
use Rattle.chars.specs.paper.Text.{Char, Text, from}
use Rattle.chars.proofs.theorems.Promises.{text-laws}
use Rattle.token.specs.paper.Tests.{isAny}
use Rattle.token.specs.paper.Shapes.{One}
use Rattle.lines.specs.paper.Lines.{NoLineEnd, Ends, empty, ended, passed, Starts, Counts, Position}
open text-laws use {place-from}

-- where no line end stands, no LF does
no-lf : (c : Char) (s : Text) → NoLineEnd (c ∷ s) → isAny "\n" (c ∷ s) ≡ false
no-lf c s n = go (isAny "\n" (c ∷ s)) refl
  where
    go : (b : Bool) → isAny "\n" (c ∷ s) ≡ b → isAny "\n" (c ∷ s) ≡ false
    go true e = absurd (n s (inl (One.one e)))
    go false e = e

module _ (script : List ℕ) where
  -- from a text in line m on
  begins : {s : Text} {l : List ℕ} (m : ℕ) {c : ℕ} → Ends (length script) s l → Counts script s m c → (k : ℕ) → k < length l
      → Position script (get_or l k 0) (m + suc k) 1
  begins m empty count k h = absurd (omega arith)
  begins m (ended {r} e more) count zero h = record { left = r; counts = Counts.line count e; stands = refl }
  begins m (ended e more) count (suc k) h =
      let q : m + 1 + suc k ≡ m + suc (suc k) = omega arith in
      rw q at (begins (m + 1) more (Counts.line count e) k (omega arith))
  begins m (passed {c = x} {s} n more) count k h = begins m more (Counts.column count (no-lf x s n)) k h

  -- and at the script's end
  lasts : {s : Text} {l : List ℕ} (m : ℕ) {c : ℕ} → Ends (length script) s l → Counts script s m c → (d : ℕ) × Counts script [] (m + length l) d
  lasts m {c} empty count = let q : m ≡ m + 0 = omega arith in (c, rw q at count)
  lasts m (ended {l} e more) count = let q : m + 1 + length l ≡ m + suc (length l) = omega arith in rw q at (lasts (m + 1) more (Counts.line count e))
  lasts m (passed {c = x} {s} n more) count = lasts m more (Counts.column count (no-lf x s n))

  pub line-starts : (l : List ℕ) → Starts script l → (k : ℕ) → k < length l → Position script (get_or l k 0) (k + 1) 1
  line-starts l (Starts.starts e) zero h = record { left = from script 0; counts = Counts.first; stands = place-from script 0 (omega arith) }
  line-starts l (Starts.starts e) (suc k) h = let q : 1 + suc k ≡ suc k + 1 = omega arith in rw q at (begins 1 e Counts.first k (omega arith))

  pub last-line : (l : List ℕ) → Starts script l → (c : ℕ) × Position script (length script) (length l) c
  last-line l (Starts.starts {l = ends} e) =
      let q : 1 + length ends ≡ suc (length ends) = omega arith in
      let r = lasts 1 e Counts.first in
      (r.0, record { left = []; counts = rw q at r.1; stands = refl })
