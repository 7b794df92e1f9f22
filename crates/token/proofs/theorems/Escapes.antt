-- Escapes: the function on what follows the backslash, and the declared shape with refusals 12 to 14.
use Rattle.std.proofs.Common.{ℕ, zero, suc, ◌<◌, ◌+◌, ◌≡◌, refl, ◌∙◌, ap, Bool, true, false, ◌⊎◌, inl, inr, [], ◌∷◌, drop, arith, one-add}
use Rattle.token.proofs.theorems.Words.{codes, oneOf, Text, clash, code_laws, isDigit, isHexDigit, begins, backslash, digit, hexDigit, One, Times, UpTo, both, Escape, BadEscape, unbroken, broken, exactHexes, digitsUpTo, afterSlash, by-test}
open code_laws use {carry-not, no-member}

-- n hex digits
hexes-found : (n k : ℕ) {s r : Text} → Times hexDigit n s r → (exactHexes n k s ≡ unbroken (k + n)) × (r ≡ drop n s)
unfolding exactHexes
hexes-found zero k Times.done = (ap unbroken (omega arith), refl)
hexes-found (suc n) k (Times.more {c} {s} e w) =
    let h = hexes-found n (suc k) w in
    (rw e (h.0 ∙ ap unbroken (omega arith)), h.1)

pub record Lacks (n k : ℕ) (s : Text) : Type 0 where
  pub count : ℕ
  pub rest : Text
  pub fewer : count < n
  pub found : exactHexes n k s ≡ broken 13 rest
  pub times : Times hexDigit count s rest
  pub lacks : hexDigit rest ≡ false

hexes-finds : (n k : ℕ) (s : Text) → ((exactHexes n k s ≡ unbroken (k + n)) × Times hexDigit n s (drop n s)) ⊎ Lacks n k s
unfolding exactHexes
hexes-finds zero k s = inl (ap unbroken (omega arith), Times.done)
hexes-finds (suc n) k [] = inr (record { count = 0; rest = []; fewer = omega arith; found = refl; times = Times.done; lacks = refl })
hexes-finds (suc n) k (c ∷ s) =
    by-test (isHexDigit c.code) (λ e. elim (hexes-finds n (suc k) s) [
      | inl h ↦ inl (rw e (h.0 ∙ ap unbroken (omega arith)), Times.more e h.1)
      | inr l ↦
          let f = l.fewer in
          inr (record { count = suc l.count; rest = l.rest; fewer = omega arith; found = rw e l.found; times = Times.more e l.times; lacks = l.lacks })
    ]) (λ e. inr (record { count = 0; rest = c ∷ s; fewer = omega arith; found = rw e; times = Times.done; lacks = e }))

-- at most n digits
upto-found : (n k : ℕ) {s r : Text} → UpTo digit n s r → (m : ℕ) × (digitsUpTo n k s ≡ k + m) × (r ≡ drop m s)
unfolding digitsUpTo
upto-found zero k UpTo.full = (0, omega arith, refl)
upto-found (suc n) k (UpTo.fewer {s = []} e) = (0, omega arith, refl)
upto-found (suc n) k (UpTo.fewer {s = c ∷ s} e) = (0, rw e (omega arith), refl)
upto-found (suc n) k (UpTo.more {c} {s} e w) = let h = upto-found n (suc k) w in (suc h.0, rw e (h.1 ∙ omega arith), h.2)

upto-finds : (n k : ℕ) (s : Text) → (m : ℕ) × (digitsUpTo n k s ≡ k + m) × UpTo digit n s (drop m s)
unfolding digitsUpTo
upto-finds zero k s = (0, omega arith, UpTo.full)
upto-finds (suc n) k [] = (0, omega arith, UpTo.fewer refl)
upto-finds (suc n) k (c ∷ s) =
    by-test (isDigit c.code) (λ e. let h = upto-finds n (suc k) s in (suc h.0, rw e (h.1 ∙ omega arith), UpTo.more e h.2))
    (λ e. (0, rw e (omega arith), UpTo.fewer e))

-- the tests of the character after a backslash exclude one another
abbrev pub simple : ℕ → Bool
simple c = oneOf "btnfr'\"]" c

pub digit-no-simple : (c : ℕ) → isDigit c ≡ true → simple c ≡ false
unfolding isDigit
digit-no-simple c d = no-member isDigit (codes "btnfr'\"]") c refl d

pub u-other : (c : ℕ) → oneOf "u" c ≡ true → (simple c ≡ false) × (isDigit c ≡ false)
unfolding isDigit
u-other c e = (carry-not simple (codes "u") c refl e, carry-not isDigit (codes "u") c refl e)

-- ---- the whole escape

pub slash-found : (s r : Text) → Escape s r → (backslash s ≡ true) × (k : ℕ) × (afterSlash (drop 1 s) ≡ unbroken k) × (r ≡ drop k (drop 1 s))
unfolding afterSlash
slash-found s r (Escape.simple (both (One.one e) (One.one f))) = (e, 1, rw f, refl)
slash-found s r (Escape.digits (both (One.one e) (both (One.one {c} {s = t} f) w))) =
    let h = upto-found 2 1 w in
    (e, 1 + h.0, rw (digit-no-simple c.code f, f) (ap unbroken h.1), rw one-add h.2)
slash-found s r (Escape.hexes (both (One.one e) (both (One.one {c} {s = t} f) w))) =
    let h = hexes-found 4 1 w in
    let o = u-other c.code f in
    (e, 5, rw (o.0, o.1, f) h.0, h.1)

pub record Good (s : Text) : Type 0 where
  pub count : ℕ
  pub found : afterSlash (drop 1 s) ≡ unbroken count
  pub escape : Escape s (drop count (drop 1 s))

pub record Bad (s : Text) : Type 0 where
  pub number : ℕ
  pub rest : Text
  pub found : afterSlash (drop 1 s) ≡ broken number rest
  pub wrong : BadEscape s number rest

pub slash-finds : (s : Text) → backslash s ≡ true → Good s ⊎ Bad s
unfolding afterSlash begins
slash-finds [] e = clash e
slash-finds (b ∷ []) e = inr (record { number = 12; rest = []; found = refl; wrong = BadEscape.e12 (One.one e) })
slash-finds (b ∷ c ∷ t) e =
    by-test (simple c.code) (λ x. inl (record { count = 1; found = rw x; escape = Escape.simple (both (One.one e) (One.one x)) })) (λ x.
    by-test (isDigit c.code) (λ y.
    let h = upto-finds 2 1 t in
    let f : afterSlash (c ∷ t) ≡ unbroken (suc h.0) = rw (x, y) (ap unbroken (h.1 ∙ one-add h.0)) in
    inl (record { count = suc h.0; found = f; escape = Escape.digits (both (One.one e) (both (One.one y) h.2)) })) (λ y.
    by-test (oneOf "u" c.code) (λ z. elim (hexes-finds 4 1 t) [
      | inl h ↦ inl (record { count = 5; found = rw (x, y, z) h.0; escape = Escape.hexes (both (One.one e) (both (One.one z) h.1)) })
      | inr l ↦
          let w = BadEscape.e13 l.count l.fewer (both (One.one e) (both (One.one z) l.times)) l.lacks in
          inr (record { number = 13; rest = l.rest; found = rw (x, y, z) l.found; wrong = w })
    ]) (λ z. inr (record { number = 14; rest = c ∷ t; found = rw (x, y, z); wrong = BadEscape.e14 (One.one e) (rw (x, y, z)) }))))
