-- Where a run ends that begins inside a list: facts on `prefix_len` of the list from a place on, of no definition of this crate.
use Rattle.std.proofs.Common.{◌≡◌, ℕ, ◌+◌, ◌-◌, ◌<◌, ◌≤◌, Bool, true, false, List, length, drop, get_or, sym, ap, ◌∙◌, subst, arith, length-drop, get_or-drop}
use Rattle.std.proofs.lemmas.List.Sums.{prefix_len-le-length, prefix_len_passes, prefix_len_stops, prefix_len_is}
use Rattle.std.specs.List.{prefix_len}

module _ (q : ℕ → Bool) (s : List ℕ) (i : ℕ) where
  abbrev pub end : ℕ
  end = i + prefix_len q (drop i s)

  pub within : i ≤ length s → end ≤ length s
  within h = omega (arith, prefix_len-le-length q (drop i s), length-drop i s)

  -- each element of it passes
  pub passed : (k : ℕ) → i ≤ k → k < end → q (get_or s k 0) ≡ true
  passed k l h =
      let z : i + (k - i) ≡ k = omega arith in
      subst (λ j. q (get_or s j 0) ≡ true) z (ap q (sym (get_or-drop i s (k - i) 0)) ∙ prefix_len_passes q (drop i s) (k - i) 0 (omega arith))

  -- the next one does not
  pub stopped : end < length s → q (get_or s end 0) ≡ false
  stopped h = ap q (sym (get_or-drop i s (prefix_len q (drop i s)) 0)) ∙ prefix_len_stops q (drop i s) 0 (omega (arith, length-drop i s))

  -- and it ends at no other place
  pub only : (e : ℕ) → i ≤ e → e ≤ length s → ((k : ℕ) → i ≤ k → k < e → q (get_or s k 0) ≡ true) → (e < length s → q (get_or s e 0) ≡ false) → e ≡ end
  only e l h each fails =
      let z : i + (e - i) ≡ e = omega arith in
      let n = prefix_len_is q (drop i s) (e - i) 0 (omega (arith, length-drop i s))
      (λ k m. ap q (get_or-drop i s k 0) ∙ each (i + k) (omega arith) (omega arith))
      (λ m. ap q (get_or-drop i s (e - i) 0) ∙ ap (λ j. q (get_or s j 0)) z ∙ fails (omega (arith, length-drop i s))) in
      omega (arith, n)
