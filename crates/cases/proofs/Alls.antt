-- A test of each number below another, by `all`.
use Rattle.std.proofs.Common.{◌≡◌, ◌↔◌, ℕ, ◌<◌, Bool, true, false, IsTrue, length, refl, sym, subst, ◌∙◌, zero-add, get_or, arith}
use Rattle.std.specs.Bool.{MatchBool}
use Rattle.std.specs.List.{AllWithin, HoldsAt, range_with_len}
use Rattle.std.proofs.lemmas.Bool.{false≢true}
use Rattle.std.proofs.lemmas.List.FromFn.{length-range_with_len, get_or-range_with_len}

at-place : (n k : ℕ) → k < n → get_or (range_with_len 0 n) k 0 ≡ k
at-place n k l = get_or-range_with_len 0 n k 0 l ∙ zero-add k

-- it is passed by all exactly where each has P
pub all-below : (P : ℕ → Type 0) (n : ℕ) (r : Bool) → MatchBool r (AllWithin P (range_with_len 0 n) 0 (length (range_with_len 0 n))) ((k : ℕ) × (k < length (range_with_len 0 n)) × HoldsAt (λ x. P x → ⊥) (range_with_len 0 n) k)
    → IsTrue r ↔ ((k : ℕ) → k < n → P k)
all-below P n true h = (λ _ k l. subst P (at-place n k l) (h k 0 (omega arith) (omega (arith, length-range_with_len 0 n))), λ _. refl)
all-below P n false h = (
  λ e. absurd (false≢true e),
  λ all.
      let l : h.0 < n = omega (arith, h.1, length-range_with_len 0 n) in
      absurd (h.2 0 (subst P (sym (at-place n h.0 l)) (all h.0 l))),
)
