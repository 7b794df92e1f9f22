-- The next case's place, and counting the cases turn by turn.
use Prim.Native.Nat.{ℕ, zero, suc, ◌+◌, ◌-◌, ◌≤◌, ◌<◌}
use mathlib.Core.Path.{◌≡◌, refl, ◌∙◌}
use mathlib.Core.List.{List, [], ◌++◌}
use lib.ListN.{length}
use native.Mathlib.Numerals.{add-one}
use native.Mathlib.Omega.{arith}
use Rattle.std.specs.List.{range_with_len, flat_map}
use Rattle.listing_cases.specs.Cases.{caseEnd, casePlace, caseOf, countFor, caseCount}

pub place-start : (list : List ℕ) → casePlace list 0 ≡ 0
unfolding casePlace
place-start list = refl

pub place-on : (list : List ℕ) (k : ℕ) → casePlace list (k + 1) ≡ caseEnd list (casePlace list k)
unfolding casePlace
place-on list k = rw add-one

-- ---- counting

-- how many cases stand from a place on
abbrev from : List ℕ → ℕ → ℕ
from list at = countFor (length list - at) list at

-- no more of them are asked for than there can be
enough : (f g : ℕ) (list : List ℕ) (at : ℕ) → length list ≤ at + f → length list ≤ at + g → countFor f list at ≡ countFor g list at
unfolding countFor caseEnd
enough zero zero list at h k = refl
enough zero (suc g) list at h k = grind arith
enough (suc f) zero list at h k = grind arith
enough (suc f) (suc g) list at h k = grind (arith, enough f g list (caseEnd list at))

pub count-start : (list : List ℕ) → caseCount list ≡ from list 0
unfolding caseCount
count-start list = grind arith

pub count-turn : (list : List ℕ) (at : ℕ) → at + 5 ≤ length list → from list at ≡ 1 + from list (caseEnd list at)
unfolding countFor caseEnd
count-turn list at h =
    let next = caseEnd list at in
    let more : length list - at ≡ suc (length list - at - 1) = omega arith in
    rw more (grind (arith, enough (length list - at - 1) (length list - next) list next))

pub count-end : (n : ℕ) (list : List ℕ) (at : ℕ) → length list < at + 5 → countFor n list at ≡ 0
unfolding countFor
count-end zero list at h = refl
count-end (suc n) list at h = grind arith

-- ---- texts

-- those from a place on, of which the first is that after k others
abbrev texts : List ℕ → ℕ → ℕ → List ℕ
texts list k at = flat_map (caseOf list) (range_with_len k (from list at))

pub texts-turn : (list : List ℕ) (k at : ℕ) → at + 5 ≤ length list → texts list k at ≡ caseOf list k ++ texts list (k + 1) (caseEnd list at)
texts-turn list k at h =
    let e : from list at ≡ suc (from list (caseEnd list at)) = count-turn list at h ∙ omega arith in
    rw e

pub texts-end : (list : List ℕ) (k at : ℕ) → length list < at + 5 → texts list k at ≡ []
texts-end list k at h = rw (count-end (length list - at) list at h)
