-- Loops that go on while a test holds.
use Rattle.std.proofs.Common.{ℕ, zero, suc, ◌≤◌, ◌<◌, ◌≡◌, refl, sym, ◌∙◌, Bool, true, false, arith}
use Rattle.token.proofs.Base.{by-test}
use Rattle.token.specs.code.Loops.{stepsWhile}

-- x has been reached: from it the steps that are left give the same end, and there are enough of them for what is left to pass
pub record Going {A : Type 0} (test : A → Bool) (step : A → A) (end x : A) (left : ℕ) : Type 0 where
  pub turns : ℕ
  pub enough : left ≤ turns
  pub same : stepsWhile test step turns x ≡ end

module _ {A : Type 0} (test : A → Bool) (step : A → A) where
  steps-on : (m : ℕ) (x : A) → test x ≡ true → stepsWhile test step (suc m) x ≡ stepsWhile test step m (step x)
  unfolding stepsWhile
  steps-on m x e = rw e

  steps-stop : (m : ℕ) (x : A) → test x ≡ false → stepsWhile test step m x ≡ x
  unfolding stepsWhile
  steps-stop zero x e = refl
  steps-stop (suc m) x e = rw e

  -- one turn more, and the end
  pub going-on : (end x : A) (left less : ℕ) → test x ≡ true → less < left → Going test step end x left → Going test step end (step x) less
  going-on end x left less e l g = go g.turns g.enough g.same
    where
      go : (m : ℕ) → left ≤ m → stepsWhile test step m x ≡ end → Going test step end (step x) less
      go zero h q = absurd (omega arith)
      go (suc m) h q = record { turns = m; enough = omega arith; same = sym (steps-on m x e) ∙ q }

  pub going-stop : (end x : A) (left : ℕ) → test x ≡ false → Going test step end x left → x ≡ end
  going-stop end x left e g = sym (steps-stop g.turns x e) ∙ g.same

  -- what every step keeps, the end has
  pub steps-keep : (P : A → Type 0) → ((x : A) → test x ≡ true → P x → P (step x)) → (m : ℕ) (x : A) → P x → P (stepsWhile test step m x)
  unfolding stepsWhile
  steps-keep P keeps zero x p = p
  steps-keep P keeps (suc m) x p =
      by-test (test x) (λ e. rw e (steps-keep P keeps m (step x) (keeps x e p))) (λ e. rw e p)
