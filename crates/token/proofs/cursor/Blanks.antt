-- The run of blanks.
use Rattle.token.proofs.cursor.Words.{ℕ, ◌+◌, ◌≤◌, ◌<◌, ◌≡◌, true, false, cond, ◌||◌, ◌⊎◌, List, length, get_or, eqb, arith, oneOf, from, afterRun, end, text-laws, isAny}
use Rattle.token.proofs.cursor.Bytes.{inside}
use Rattle.token.proofs.cursor.Runs.{run-to}
open text-laws use {at-ascii, at-char, at-end, wide-code}

pub blank-or : (s : List ℕ) (i : ℕ) → (oneOf " \t" (get_or s i 0) ≡ false) ⊎ (i < length s)
blank-or s i = grind (arith, inside)

-- the run from a place on, by its byte
pub blanks-at : (s : List ℕ) (i : ℕ) → afterRun (isAny " \t") (from s i) ≡ cond (oneOf " \t" (get_or s i 0)) (afterRun (isAny " \t") (from s (i + 1))) (from s i)
unfolding afterRun
blanks-at s i = grind (arith, inside, at-ascii, at-char, at-end, wide-code)

-- one blank, and two
pub one-blank : (s : List ℕ) (i : ℕ) → oneOf " \t" (get_or s i 0) ≡ true → oneOf " \t" (get_or s (i + 1) 0) ≡ false
    → (i + 1 ≤ length s) × (from s (i + 1) ≡ afterRun (isAny " \t") (from s i))
one-blank s i e n = grind (arith, inside, blanks-at)

pub two-blanks : (s : List ℕ) (i : ℕ) → oneOf " \t" (get_or s i 0) ≡ true → oneOf " \t" (get_or s (i + 1) 0) ≡ true
    → (i + 2 ≤ length s) × (afterRun (isAny " \t") (from s (i + 2)) ≡ afterRun (isAny " \t") (from s i))
two-blanks s i e f = grind (arith, inside, blanks-at)

-- where the bytes end that are blanks, the run does
pub blanks-to : (s : List ℕ) (i r : ℕ) → i ≤ length s → r ≡ end (λ b. eqb b 0x20 || eqb b 0x09) s i
    → (i ≤ r) × (r ≤ length s) × (from s r ≡ afterRun (isAny " \t") (from s i))
blanks-to s = run-to (isAny " \t") s (λ b. eqb b 0x20 || eqb b 0x09) (λ k h e. grind (arith, blanks-at)) (λ k h e. grind (arith, blanks-at))

pub ruleset blanks = (blank-or, blanks-at)
