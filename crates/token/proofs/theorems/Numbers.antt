-- Numbers: what the scanner finds stands, what stands is what it finds, and refusal 6.
use Rattle.std.proofs.Common.{ℕ, suc, ◌<◌, ◌+◌, ◌*◌, ◌^◌, ◌≡◌, refl, sym, ◌∙◌, ap, Bool, true, false, cond, inl, inr, List, [], ◌∷◌, length, drop, leb, add_assoc, add-mul, mul_assoc, arith, leb-true, leb-false, le-leb}
use native.Mathlib.Nat.{pow-zero, pow-succ'}
use Rattle.token.proofs.theorems.Words.{lt-leb, Text, headIs, afterRun, clash, and-both, isDigit, isHexDigit, begins, digit, hexDigit, digitValue, hexAhead, letterL, TokenType, both, codesOf, valueOfDigits, Digits, limit, NumberText, Number, TokenShape, Valued, Met, Found, numeral, readDigits, numberOf, scanNumber, TokenKind, by-test, begun-is}
use Rattle.token.specs.declared.kinds.TokenKind.TheVariants as tk
use Rattle.token.proofs.theorems.Runs.{codes-none, codes-more, run-after, run-suffix, run1-finds, run1-found, one-drop, one-found}
use Rattle.token.proofs.theorems.Operators.{stood, fell-at, Outcome}

-- ---- values

-- the value of digits after the value v
abbrev pub valueAfter : ℕ → ℕ → List ℕ → ℕ
valueAfter b v ds = v * b ^ length ds + valueOfDigits b ds

after-none : (b v : ℕ) → v ≡ valueAfter b v []
unfolding valueOfDigits
after-none b v = rw (pow-zero b) (omega arith)

after-digit : (b v d : ℕ) (ds : List ℕ) → valueAfter b (v * b + digitValue d) ds ≡ valueAfter b v (d ∷ ds)
unfolding valueOfDigits
after-digit b v d ds =
    let w = add_assoc (v * b ^ suc (length ds)) (digitValue d * b ^ length ds) (valueOfDigits b ds) in
    rw (add-mul (v * b) (digitValue d) (b ^ length ds), mul_assoc v b (b ^ length ds), ← pow-succ' b (length ds), w)

-- the digits with which the text begins
abbrev pub digitsOf : (ℕ → Bool) → Text → List ℕ
digitsOf p s = codesOf s (afterRun (headIs p) s)

-- reading digits gives their value and what follows their run
pub read-is : (p : ℕ → Bool) (b v : ℕ) (s : Text) → readDigits p b v s ≡ numeral (valueAfter b v (digitsOf p s)) (afterRun (headIs p) s)
unfolding readDigits afterRun
read-is p b v [] = ap (λ x. numeral x []) (after-none b v)
read-is p b v (c ∷ s) =
    let r = afterRun (headIs p) s in
    let w = (run-suffix (headIs p) (run-after (headIs p) s)).within in
    by-test (p c.code) (λ e. rw e (read-is p b (v * b + digitValue c.code) s
    ∙ ap (λ x. numeral x r) (after-digit b v c.code (codesOf s r) ∙ ap (valueAfter b v) (sym (codes-more c s r w)))))
    (λ e. rw e (ap (λ x. numeral x (c ∷ s)) (after-none b v ∙ ap (valueAfter b v) (sym (codes-none (c ∷ s))))))

read-all : (p : ℕ → Bool) (b : ℕ) (s : Text) → readDigits p b 0 s ≡ numeral (valueOfDigits b (digitsOf p s)) (afterRun (headIs p) s)
read-all p b s = read-is p b 0 s ∙ ap (λ x. numeral x (afterRun (headIs p) s)) (omega arith)

-- ---- what the scanner finds

abbrev pub digitsEnd : Text → Text
digitsEnd s = cond (hexAhead s) (afterRun hexDigit (drop 2 s)) (afterRun digit s)

unfoldable pub digitsValue : Text → ℕ
digitsValue s = cond (hexAhead s) (valueOfDigits 16 (digitsOf isHexDigit (drop 2 s))) (valueOfDigits 10 (digitsOf isDigit s))

scan-number : (s : Text) → scanNumber s ≡ numberOf s (numeral (digitsValue s) (digitsEnd s))
unfolding scanNumber digitsValue
scan-number s = rw (read-all isHexDigit 16 (drop 2 s), read-all isDigit 10 s) (by-test (hexAhead s) (λ e. rw e) (λ e. rw e))

pub digits-stand : (s : Text) → digit s ≡ true → Digits (digitsValue s) s (digitsEnd s)
unfolding digitsValue
digits-stand s d =
    by-test (hexAhead s) (λ e. rw e (Digits.hex e (run1-finds hexDigit (drop 2 s) (and-both (begins "0x" s) (hexDigit (drop 2 s)) e).1 refl)))
    (λ e. rw e (Digits.dec e (run1-finds digit s d refl)))

zero-digit : (s : Text) → begins "0x" s ≡ true → digit s ≡ true
unfolding begins isDigit
zero-digit [] e = clash e
zero-digit (c ∷ s) e = rw (begun-is 48 c.code _ e)

pub digits-found : {v : ℕ} {s m : Text} → Digits v s m → (digit s ≡ true) × (m ≡ digitsEnd s) × (v ≡ digitsValue s)
unfolding digitsValue
digits-found (Digits.hex {s} e h) =
    let q = (run1-found hexDigit h).1 in
    (zero-digit s (and-both (begins "0x" s) (hexDigit (drop 2 s)) e).0, q ∙ rw e, ap (λ t. valueOfDigits 16 (codesOf (drop 2 s) t)) q ∙ rw e)
digits-found (Digits.dec {s} e h) =
    let q = (run1-found digit h).1 in
    ((run1-found digit h).0, q ∙ rw e, ap (λ t. valueOfDigits 10 (codesOf s t)) q ∙ rw e)

-- the two outcomes, by whether an `L` follows
abbrev pub numberToken : Bool → ℕ → TokenKind
numberToken true v = tk.LongLit v
numberToken false v = tk.IntLit v

abbrev pub numberEnd : Bool → Text → Text
numberEnd true s = drop 1 (digitsEnd s)
numberEnd false s = digitsEnd s

number-is : (long : Bool) (s : Text) → letterL (digitsEnd s) ≡ long
    → scanNumber s ≡ cond (leb (digitsValue s) (limit long)) (Found.token (numberToken long (digitsValue s)) (numberEnd long s)) (Found.stuck 6 s)
number-is true s e = scan-number s ∙ rw e
number-is false s e = scan-number s ∙ rw e

-- what it finds stands, or refusal 6 is met
pub number-stands : (n : ℕ) (s : Text) → digit s ≡ true → Outcome n s (scanNumber s)
unfolding TokenShape
number-stands n s d =
    let v = digitsValue s in
    by-test (letterL (digitsEnd s)) (λ e.
    let x : NumberText true v s (drop 1 (digitsEnd s)) = both (digits-stand s d) (one-drop letterL (digitsEnd s) e refl) in
    by-test (leb v 9223372036854775807)
    (λ f. inl (stood TokenType.longLit (tk.LongLit v) _ (number-is true s e ∙ rw f) (v, x, leb-true _ _ f) (Valued.longLit x)))
    (λ f. inr (fell-at 6 s (number-is true s e ∙ rw f) (Met.m6 true x (leb-false _ _ f))))) (λ e.
    let x : NumberText false v s (digitsEnd s) = both (digits-stand s d) (refl, e) in
    by-test (leb v 2147483647)
    (λ f. inl (stood TokenType.intLit (tk.IntLit v) _ (number-is false s e ∙ rw f) (v, x, leb-true _ _ f) (Valued.intLit x)))
    (λ f. inr (fell-at 6 s (number-is false s e ∙ rw f) (Met.m6 false x (leb-false _ _ f)))))

pub text-found : (long : Bool) {v : ℕ} (s r : Text) → NumberText long v s r
    → (digit s ≡ true) × (letterL (digitsEnd s) ≡ long) × (r ≡ numberEnd long s) × (v ≡ digitsValue s)
text-found true s r (both {m} h k) =
    let q = digits-found h in
    let o = one-found letterL m r k in
    (q.0, rw (← q.1) o.0, rw (← q.1) o.1, q.2)
text-found false s r (both {m} h k) = let q = digits-found h in (q.0, rw (← q.1) k.1, sym k.0 ∙ q.1, q.2)

-- a number has one value
pub one-value : (long : Bool) {v w : ℕ} {s r : Text} → NumberText long v s r → NumberText long w s r → v ≡ w
one-value long {s} {r} h k = (text-found long s r h).3 ∙ sym (text-found long s r k).3

-- what stands is what it finds
pub number-found : (long : Bool) (s r : Text) (h : Number long s r) → (digit s ≡ true) × (scanNumber s ≡ Found.token (numberToken long h.0) r)
number-found long s r (v, h, l) =
    let q = text-found long s r h in (q.0, number-is long s q.1 ∙ rw (← q.3, le-leb v (limit long) l, q.2))

-- and refusal 6 is what it gives where it is met
pub six-found : (long : Bool) {v : ℕ} (s r : Text) → NumberText long v s r → limit long < v → scanNumber s ≡ Found.stuck 6 s
six-found long {v} s r h k = let q = text-found long s r h in number-is long s q.1 ∙ rw (← q.3, lt-leb v (limit long) k)
