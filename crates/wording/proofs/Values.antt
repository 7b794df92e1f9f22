-- The values of a token follow from its own text, whatever stands behind it.
use Rattle.std.proofs.Common.{ℕ, ◌+◌, ◌-◌, ◌≤◌, ◌<◌, ◌≡◌, refl, sym, ◌∙◌, ap, Bool, true, false, cond, List, [], ◌∷◌, ◌++◌, map, length, take, drop, length-append, length-drop, arith}
use Rattle.std.proofs.lemmas.List.{take-append-drop, take-append-le, drop-append-le}
use Rattle.token.proofs.theorems.Words.{Char, Text, Suffix, clash, by-test, begins, quote, hexAhead, Kind, TokenType, TokenShape, HasShape, Stands, Run1, One, both, textOf, codesOf, valueOfDigits, Digits, NumberText, Valued, place}
use Rattle.token.specs.declared.kinds.TokenKind.{TokenKind}
use Rattle.token.specs.paper.Shapes.{LongSuffix}
use Rattle.token.proofs.theorems.Runs.{run-suffix}
use Rattle.token.proofs.theorems.Shorter.{Strict}

-- a text is the part before what is left of it, and that
in-two : {r s : Text} → Suffix r s → s ≡ textOf s r ++ r
in-two {r} {s} h = sym (take-append-drop (length s - length r) s) ∙ ap (λ z. textOf s r ++ z) (sym h.rest-is)

-- ---- numbers

-- how many characters its letter has: true for a LongLit
abbrev letter : Bool → ℕ
letter true = 1
letter false = 0

abbrev digits : Bool → Text → List ℕ
digits long x = map (λ (c : Char). c.code) (take (length x - letter long) x)

-- the value, by the number's own text
abbrev valueIn : Bool → Bool → Text → ℕ
valueIn true long x = valueOfDigits 16 (digits long (drop 2 x))
valueIn false long x = valueOfDigits 10 (digits long x)

-- the codes of x before its letter; m: the text from that on
codes-by : (long : Bool) (x r m : Text) → length m ≡ length r + letter long → letter long ≤ length x → codesOf (x ++ r) m ≡ digits long x
codes-by long x r m e l =
    let n : length (x ++ r) - length m ≡ length x - letter long = omega (arith, length-append x r) in
    ap (map (λ (c : Char). c.code)) (rw n (take-append-le (length x - letter long) x r (omega arith)))

-- What the number's own text tells of it: its value v, and that `0x` and a digit, where they are ahead, are in that text.
record ByText (hex long : Bool) (x : Text) (v : ℕ) : Type 0 where
  value : v ≡ valueIn hex long x
  wide : hex ≡ true → 3 ≤ length x

run1-shorter : {p : Text → Bool} {s r : Text} → Run1 p s r → length r < length s
run1-shorter {p} (Run1.run i w) = let h = run-suffix p w in omega (arith, h.within)

number-by : (long : Bool) {v : ℕ} (x r s m : Text) → s ≡ x ++ r → length m ≡ length r + letter long → Digits v s m → ByText (hexAhead s) long x v
number-by long x r s m q e (Digits.hex t (w, least)) =
    let z = run1-shorter w in
    let l : 3 + letter long ≤ length x = omega (arith, length-drop 2 s, ap length q, length-append x r) in
    let f : drop 2 s ≡ drop 2 x ++ r = ap (drop 2) q ∙ drop-append-le 2 x r (omega arith) in
    let k = codes-by long (drop 2 x) r m e (omega (arith, length-drop 2 x)) in
    record { value = rw t (ap (valueOfDigits 16) (ap (λ y. codesOf y m) f ∙ k)); wide = λ h. omega (arith, l) }
number-by long x r s m q e (Digits.dec t (w, least)) =
    let z = run1-shorter w in
    let k = codes-by long x r m e (omega (arith, ap length q, length-append x r)) in
    record { value = rw t (ap (valueOfDigits 10) (ap (λ y. codesOf y m) q ∙ k)); wide = λ h. clash (sym t ∙ h) }

-- whether `0x` and a digit are ahead is seen in three characters
ahead-by : (x r o : Text) → 3 ≤ length x → hexAhead (x ++ r) ≡ hexAhead (x ++ o)
unfolding begins
ahead-by [] r o l = absurd (omega arith)
ahead-by (a ∷ []) r o l = absurd (omega arith)
ahead-by (a ∷ b ∷ []) r o l = absurd (omega arith)
ahead-by (a ∷ b ∷ c ∷ x) r o l = refl

same-ahead : {p q long : Bool} {v w : ℕ} (x r o : Text) → p ≡ hexAhead (x ++ r) → q ≡ hexAhead (x ++ o)
    → ByText p long x v → ByText q long x w → p ≡ q
same-ahead {p} {q} x r o e f h k =
    by-test p (λ t. e ∙ ahead-by x r o (h.wide t) ∙ sym f)
    (λ t. by-test q (λ u. e ∙ ahead-by x r o (k.wide u) ∙ sym f) (λ u. t ∙ sym u))

-- numbers of one text have one value
same-value : (long : Bool) {v w : ℕ} (x r o s t : Text) → s ≡ x ++ r → t ≡ x ++ o → NumberText long v s r → NumberText long w t o → v ≡ w
same-value long x r o s t e f (both {m} d k) (both {m = n} g l) =
    let a = number-by long x r s m e (ends long m r k) d in
    let b = number-by long x o t n f (ends long n o l) g in
    let p = same-ahead x r o (ap hexAhead e) (ap hexAhead f) a b in
    a.value ∙ ap (λ h. valueIn h long x) p ∙ sym b.value
  where
    ends : (long : Bool) (m r : Text) → LongSuffix long m r → length m ≡ length r + letter long
    ends true m r (One.one i) = omega arith
    ends false m r h = omega (arith, ap length h.0)

-- ---- all values

quote-by : (x r o : Text) → 0 < length x → quote (x ++ r) ≡ quote (x ++ o)
unfolding begins
quote-by [] r o l = absurd (omega arith)
quote-by (c ∷ x) r o l = refl

same-quote : {s r t o : Text} → Strict r s → Suffix o t → textOf s r ≡ textOf t o → quote s ≡ quote t
same-quote {s} {r} {t} {o} h j e =
    let a = in-two h.0 in
    ap quote a ∙ quote-by (textOf s r) r o (omega (arith, h.1, ap length a, length-append (textOf s r) r)) ∙ ap (λ x. quote (x ++ o)) e
    ∙ ap quote (sym (in-two j))

-- a number that stands, with its value
number-text : (long : Bool) (s r : Text) → Stands (Kind.token (cond long TokenType.longLit TokenType.intLit)) s r → (v : ℕ) × NumberText long v s r
unfolding Stands HasShape TokenShape
number-text true s r ((v, w, l), z) = (v, w)
number-text false s r ((v, w, l), z) = (v, w)

pub same-values : {n m : ℕ} {s r t o : Text} {y : TokenType} {k : TokenKind} → Strict r s → Suffix o t → textOf s r ≡ textOf t o
    → place n s ≡ place m t → place n r ≡ place m o → Stands (Kind.token y) t o → Valued n s r y k → Valued m t o y k
same-values h j e p q w (Valued.bare u) = Valued.bare u
same-values {s} {r} {t} {o} h j e p q w (Valued.intLit u) =
    let v = number-text false t o w in
    rw (same-value false (textOf s r) r o s t (in-two h.0) (in-two j ∙ ap (λ x. x ++ o) (sym e)) u v.1) (Valued.intLit v.1)
same-values {s} {r} {t} {o} h j e p q w (Valued.longLit u) =
    let v = number-text true t o w in
    rw (same-value true (textOf s r) r o s t (in-two h.0) (in-two j ∙ ap (λ x. x ++ o) (sym e)) u v.1) (Valued.longLit v.1)
same-values h j e p q w (Valued.prefixed u) = rw (p, q) (Valued.prefixed (sym (same-quote h j e) ∙ u))
same-values h j e p q w (Valued.plain u c) = Valued.plain (sym (same-quote h j e) ∙ u) (rw (← e, ← q) c)
