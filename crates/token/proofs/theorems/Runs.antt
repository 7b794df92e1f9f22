-- Longest runs, the codes between two texts, and tests of a first character.
use Rattle.std.proofs.Common.{suc, ◌≤◌, ◌-◌, ◌≡◌, refl, sym, ◌∙◌, Bool, true, false, [], ◌∷◌, length, arith, ℕ, not, eqb, drop}
use Prim.Native.String.{String}
use Rattle.token.proofs.theorems.Words.{Char, Text, afterRun, clash, Suffix, text-laws, Run, Run1, Longest, codesOf, by-test, codes, oneOf, member, headIs, every, code_laws, isAny, startsWith, One}
open text-laws use {suffix-refl, suffix-cons, suffix-same}
open code_laws use {carry-not, no-member}

pub codes-none : (s : Text) → codesOf s s ≡ []
codes-none s = let e : length s - length s ≡ 0 = omega arith in rw e

pub codes-more : (c : Char) (s r : Text) → length r ≤ length s → codesOf (c ∷ s) r ≡ c.code ∷ codesOf s r
codes-more c s r h = let e : suc (length s) - length r ≡ suc (length s - length r) = omega arith in rw e

module _ (p : Text → Bool) where
  pub after-next : (c : Char) (s : Text) → p (c ∷ s) ≡ true → afterRun p (c ∷ s) ≡ afterRun p s
  unfolding afterRun
  after-next c s e = rw (e, afterRun)

  pub after-stop : (c : Char) (s : Text) → p (c ∷ s) ≡ false → afterRun p (c ∷ s) ≡ c ∷ s
  unfolding afterRun
  after-stop c s e = rw (e, afterRun)

  pub run-after : (s : Text) → Run p s (afterRun p s)
  unfolding afterRun
  run-after [] = Run.stop
  run-after (c ∷ s) =
      by-test (p (c ∷ s)) (λ e. rw (after-next c s e) (Run.next e (run-after s))) (λ e. rw (after-stop c s e) Run.stop)

  pub run-suffix : {s r : Text} → Run p s r → Suffix r s
  run-suffix Run.stop = suffix-refl _
  run-suffix (Run.next {c} e h) = suffix-cons c (run-suffix h)

  pub after-least : {s q : Text} → Run p s q → length (afterRun p s) ≤ length q
  after-least {s} Run.stop = (run-suffix (run-after s)).within
  after-least (Run.next {c} {s} e h) = rw (after-next c s e) (after-least h)

  pub run1-run : {s r : Text} → Run1 p s r → Run p s r
  run1-run (Run1.run e w) = Run.next e w

  -- where the first character passes, the function finds the longest run of one or more
  pub run1-finds : (s : Text) → p s ≡ true → p [] ≡ false → Longest (Run1 p) s (afterRun p s)
  run1-finds [] e z = clash (sym z ∙ e)
  run1-finds (c ∷ s) e z = (rw (after-next c s e) (Run1.run e (run-after s)), λ q w. after-least (run1-run w))

  -- and what is the longest run is what it finds
  pub run1-found : {s r : Text} → Longest (Run1 p) s r → (p s ≡ true) × (r ≡ afterRun p s)
  run1-found (Run1.run {c} {s} e w, l) =
      let a = after-least (Run.next e w) in
      let b = l (afterRun p (c ∷ s)) (rw (after-next c s e) (Run1.run e (run-after s))) in
      (e, suffix-same (run-suffix (Run.next e w)) (run-suffix (run-after (c ∷ s))) (omega arith))

  pub run-found : {s r : Text} → Longest (Run p) s r → r ≡ afterRun p s
  run-found {s} (w, l) =
      let a = after-least w in
      let b = l (afterRun p s) (run-after s) in
      suffix-same (run-suffix w) (run-suffix (run-after s)) (omega arith)

  pub pass-run : {s m : Text} → Run p s m → afterRun p s ≡ afterRun p m
  pass-run Run.stop = refl
  pass-run (Run.next {c} {s} e w) = after-next c s e ∙ pass-run w

-- ---- tests of a first character

pub head-other : (p q : ℕ → Bool) → ((c : ℕ) → p c ≡ true → q c ≡ false) → (s : Text) → headIs p s ≡ true → headIs q s ≡ false
head-other p q f [] e = clash e
head-other p q f (c ∷ s) e = f c.code e

-- a quoted character against a class
pub apart : (a : String) (p : ℕ → Bool) → every (λ x. not (p x)) (codes a) ≡ true → (s : Text) → headIs p s ≡ true → isAny a s ≡ false
apart a p h = head-other p (oneOf a) (λ c e. no-member p (codes a) c h e)

pub apart' : (a : String) (p : ℕ → Bool) → every (λ x. not (p x)) (codes a) ≡ true → (s : Text) → isAny a s ≡ true → headIs p s ≡ false
apart' a p h = head-other (oneOf a) p (λ c e. carry-not p (codes a) c h e)

-- one code at the front, by either test
pub begins-any : (x : ℕ) (s : Text) → startsWith (x ∷ []) s ≡ headIs (member (x ∷ [])) s
begins-any x [] = refl
begins-any x (c ∷ s) = by-test (eqb c.code x) (λ q. rw q) (λ q. rw q)

pub one-drop : (p : Text → Bool) (s : Text) → p s ≡ true → p [] ≡ false → One p s (drop 1 s)
one-drop p [] e z = clash (sym z ∙ e)
one-drop p (c ∷ s) e z = One.one e

pub one-found : (p : Text → Bool) (s r : Text) → One p s r → (p s ≡ true) × (r ≡ drop 1 s)
one-found p s r (One.one e) = (e, refl)
