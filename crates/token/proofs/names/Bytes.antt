-- Bytes that are passed one after another while a test of their places holds.
use Rattle.token.proofs.lexer.Words.{ℕ, zero, suc, ◌+◌, ◌-◌, ◌≤◌, ◌<◌, ◌≡◌, refl, sym, ◌∙◌, ap, Bool, true, false, List, arith, length, get_or-eq_default, ltb, ltb-true, ltb-false, clash, signOf, signNumber, stepsWhile, classOf, classAt, otherClass, bytesTo, by-test}
use Rattle.token.proofs.Loops.{Going, going-on, going-stop, steps-keep}

-- a loop from the start on stands at i: within the script, and from there the end is the same
pub record Passing (test : ℕ → Bool) (s : List ℕ) (start i : ℕ) : Type 0 where
  pub within : i ≤ length s
  pub going : Going test (λ j. j + 1) (bytesTo test s start) i (length s - i)

module _ (test : ℕ → Bool) (s : List ℕ) (start : ℕ) where
  pub pass-first : start ≤ length s → Passing test s start start
  unfolding bytesTo
  pass-first h = record { within = h; going = record { turns = length s - start; enough = omega arith; same = refl } }

  -- one more byte
  pub pass-more : (i : ℕ) → i < length s → test i ≡ true → Passing test s start i → Passing test s start (i + 1)
  pass-more i h e p = record { within = omega arith; going = going-on test (λ j. j + 1) _ i _ _ e (omega arith) p.going }

  -- no more
  pub pass-stop : (i : ℕ) → test i ≡ false → Passing test s start i → i ≡ bytesTo test s start
  pass-stop i e p = going-stop test (λ j. j + 1) _ i _ e p.going

-- a test that holds within the script only
module _ (test : ℕ → Bool) (s : List ℕ) (within : (j : ℕ) → test j ≡ true → j < length s) (start : ℕ) where
  -- what every byte keeps, the end has
  pub pass-keep : (P : ℕ → Type 0) → ((j : ℕ) → j < length s → test j ≡ true → P j → P (j + 1)) → P start → P (bytesTo test s start)
  unfolding bytesTo
  pass-keep P keeps p = steps-keep test (λ j. j + 1) P (λ x e q. keeps x (within x e) e q) (length s - start) start p

  -- the end lies within the script, and there the test fails
  pub pass-within : start ≤ length s → (start ≤ bytesTo test s start) × (bytesTo test s start ≤ length s)
  pass-within h = pass-keep (λ j. (start ≤ j) × (j ≤ length s)) (λ j l e p. (omega arith, omega arith)) (omega arith, h)

  done : (m x : ℕ) → length s ≤ x + m → test (stepsWhile test (λ j. j + 1) m x) ≡ false
  unfolding stepsWhile
  done zero x h = by-test (test x) (λ e. let k = within x e in absurd (omega arith)) (λ e. e)
  done (suc m) x h = by-test (test x) (λ e. rw e (done m (x + 1) (omega arith))) (λ e. rw e e)

  pub pass-done : test (bytesTo test s start) ≡ false
  unfolding bytesTo
  pass-done = done (length s - start) start (omega arith)

-- ---- past the end stands no byte of a class

module _ (s : List ℕ) (i : ℕ) where
  pub class-off : (p : ℕ → Bool) → p otherClass ≡ false → length s ≤ i → p (classAt s i) ≡ false
  unfolding classOf signNumber signOf
  class-off p z h = ap (λ b. p (classOf b)) (get_or-eq_default s 0 h) ∙ z

  pub class-inside : (p : ℕ → Bool) → p otherClass ≡ false → p (classAt s i) ≡ true → i < length s
  class-inside p z e = by-test (ltb i (length s)) (ltb-true i (length s)) (λ q. clash (sym (class-off p z (ltb-false i (length s) q)) ∙ e))
