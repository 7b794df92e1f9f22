-- Runs of characters: where they end, and what stands there.
use Rattle.std.proofs.Common.{ℕ, zero, suc, ◌-◌, ◌≤◌, ◌<◌, ◌≡◌, refl, ◌∙◌, ap, Bool, true, false, List, [], ◌∷◌, length, ⊎_elim, arith}
use Rattle.std.proofs.lemmas.Bool.{cases_Bool, cases_lt}
use Rattle.chars.specs.paper.Text.{Text, from, place}
use Rattle.chars.specs.code.Text.{charEnd}
use Rattle.chars.specs.computed.Runs.{afterRun}
use Rattle.chars.specs.promises.Texts.{Suffix}
use Rattle.chars.proofs.text.Texts.{suffix-refl, suffix-cons, text-suffix, text-place}
use Rattle.chars.proofs.text.Places.{next-on, run-next, run-stop, run-end}

-- where the test fails at once nothing is passed
pub run-stays : (p : Text → Bool) (t : Text) → p t ≡ false → afterRun p t ≡ t
unfolding afterRun
run-stays p [] e = refl
run-stays p (c ∷ t) e = rw (e, afterRun)

run-left : (p : Text → Bool) (t : Text) → Suffix (afterRun p t) t
unfolding afterRun
run-left p [] = suffix-refl []
run-left p (c ∷ t) = ⊎_elim (λ (e : p (c ∷ t) ≡ true). rw (e, afterRun) (suffix-cons c (run-left p t))) (λ (e : p (c ∷ t) ≡ false). rw (e, afterRun) (suffix-refl (c ∷ t))) (cases_Bool (p (c ∷ t)))

module _ (p : Text → Bool) (s : List ℕ) where
  -- the text where a run ends is what it left
  run-text : (i : ℕ) → from s (place (length s) (afterRun p (from s i))) ≡ afterRun p (from s i)
  run-text i = text-place s (afterRun p (from s i)) (text-suffix s (afterRun p (from s i)) (from s i) (run-left p (from s i)) (i, refl))

  -- and it ends within the script, not before its start
  abbrev Ends : ℕ → Type 0
  Ends i = (i ≤ place (length s) (afterRun p (from s i))) × (place (length s) (afterRun p (from s i)) ≤ length s)

  run-within : (n i : ℕ) → length s - i ≤ n → i ≤ length s → Ends i
  run-within zero i m h = let e = run-end p s i (omega arith) in (omega arith, omega arith)
  run-within (suc n) i m h = ⊎_elim (λ l. ⊎_elim (on l (run-within n (charEnd s i))) (stop l) (cases_Bool (p (from s i)))) end (cases_lt i (length s))
    where
      end : length s ≤ i → Ends i
      end k = let q = run-end p s i k in (omega arith, omega arith)

      stop : i < length s → p (from s i) ≡ false → Ends i
      stop l f = let q = run-stop p s i l f in (omega arith, omega arith)

      on : i < length s → (length s - charEnd s i ≤ n → charEnd s i ≤ length s → Ends (charEnd s i)) → p (from s i) ≡ true → Ends i
      on l r f =
          let a = next-on s i l in
          let b = r (omega arith) a.1 in
          let q = ap (place (length s)) (run-next p s i l f) in
          (omega arith, omega arith)

  -- the place r where a run ends
  pub run-place : (i r : ℕ) → i ≤ length s → r ≡ place (length s) (afterRun p (from s i))
      → (i ≤ r) × (r ≤ length s) × (from s r ≡ afterRun p (from s i))
  run-place i r h e = let a = run-within (length s - i) i (omega arith) h in (omega arith, omega arith, ap (from s) e ∙ run-text i)

-- what stands there fails the test
pub run-done : (p : Text → Bool) → p [] ≡ false → (t : Text) → p (afterRun p t) ≡ false
unfolding afterRun
run-done p z [] = z
run-done p z (c ∷ t) = ⊎_elim (λ (e : p (c ∷ t) ≡ true). rw (e, afterRun) (run-done p z t)) (λ (e : p (c ∷ t) ≡ false). rw (e, afterRun) e) (cases_Bool (p (c ∷ t)))
