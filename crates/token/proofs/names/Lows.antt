-- Underscores passed together, as one by one.
use Rattle.token.proofs.lexer.Words.{ℕ, zero, suc, ◌+◌, ◌≤◌, ◌<◌, ◌≡◌, ◌-◌, refl, sym, ◌∙◌, ap, Bool, true, ◌||◌, List, arith, length, get_or, eqb, eqb-true, classOf, classAt, inWord, runTo, signOf, signNumber, bytesTo}
use Rattle.token.proofs.cursor.Words.{end, within, passed}
use Rattle.token.proofs.cursor.Runs.{twice}
use Rattle.token.proofs.names.Bytes.{Passing, pass-first, pass-more, pass-stop, pass-keep, pass-done, class-inside}

module _ (test : ℕ → Bool) (s : List ℕ) (start : ℕ) where
  -- past bytes of which the test holds
  pass-all : (i : ℕ) → Passing test s start i → (n j : ℕ) → j ≡ i + n → j ≤ length s → ((k : ℕ) → i ≤ k → k < j → test k ≡ true) → Passing test s start j
  pass-all i p zero j e h a = let z : j ≡ i = omega arith in rw z p
  pass-all i p (suc n) j e h a =
      let z : j ≡ (i + n) + 1 = omega arith in
      rw z (pass-more test s start (i + n) (omega arith) (a (i + n) (omega arith) (omega arith)) (pass-all i p n (i + n) refl (omega arith) (λ k l m. a k l (omega arith))))

  -- they end where those end that stand from there on
  pass-same : ((j : ℕ) → test j ≡ true → j < length s) → (j : ℕ) → Passing test s start j → bytesTo test s j ≡ bytesTo test s start
  pass-same w j p = pass-stop test s start _ (pass-done test s w j) (pass-keep test s w j (λ k. Passing test s start k) (λ k l e q. pass-more test s start k l e q) p)

low-word : (b : ℕ) → b ≡ 0x5F → inWord (classOf b) ≡ true
unfolding classOf signNumber signOf
low-word b e = ap (λ x. inWord (classOf x)) e

-- two, and those behind them
pub lows-end : (s : List ℕ) (i r : ℕ) → i < length s → get_or s i 0 ≡ 0x5F → get_or s (i + 1) 0 ≡ 0x5F → r ≡ end (λ b. eqb b 0x5F || eqb b 0x5F) s (i + 2)
    → (r ≤ length s) × (runTo inWord s r ≡ runTo inWord s i)
lows-end s i r h e f q =
    let g = class-inside s (i + 1) inWord refl (low-word _ f) in
    let w = within (λ b. eqb b 0x5F || eqb b 0x5F) s (i + 2) (omega (arith, g)) in
    let p = passed (λ b. eqb b 0x5F || eqb b 0x5F) s (i + 2) in
    let l : r ≤ length s = omega (arith, w, q) in
    let z : i + 2 ≡ (i + 1) + 1 = omega arith in
    let u : Passing (λ j. inWord (classAt s j)) s i (i + 2) =
    rw z (pass-more (λ j. inWord (classAt s j)) s i (i + 1) g (low-word _ f)
    (pass-more (λ j. inWord (classAt s j)) s i i h (low-word _ e) (pass-first (λ j. inWord (classAt s j)) s i (omega arith)))) in
    let v = pass-all (λ j. inWord (classAt s j)) s i (i + 2) u (r - (i + 2)) r (omega (arith, q)) l
    (λ k m n. low-word _ (eqb-true (get_or s k 0) 0x5F (sym (twice (eqb (get_or s k 0) 0x5F)) ∙ p k (omega arith) (omega (arith, q))))) in
    (l, pass-same (λ j. inWord (classAt s j)) s i (λ j e. class-inside s j inWord refl e) r v)
