-- Identifiers: the automaton finds the longest one.
use Rattle.std.proofs.Common.{ℕ, ◌≤◌, ◌≡◌, refl, sym, ◌∙◌, ap, Bool, true, false, cond, ◌⊎◌, inl, inr, [], ◌∷◌, length, drop, arith}
use Rattle.token.proofs.theorems.Words.{Option, none, some, oneOf, Char, Text, idStart, idChar, afterRun, isIdChar, clash, Suffix, text-laws, class-laws, under-no-id, sign-no-under, isAny, opSign, quote, TokenType, wordOf, One, Run, Run1, ◌then◌, both, Chunks, Tail, Ident, codesOf, TokenShape, Valued, Found, afterIdent, codesTo, orPrefixed, wordOr, scanIdent, Kw, no-some, by-test}
use Rattle.token.specs.declared.kinds.TokenKind.TheVariants as tk
use Rattle.token.proofs.theorems.Runs.{run-after, run-suffix, after-least, run1-run}
use Rattle.token.proofs.theorems.Operators.{Stood, stood}
open text-laws use {suffix-refl, suffix-trans, suffix-same}
open class-laws use {sign-no-id}

abbrev isUnder : ℕ → Bool
isUnder c = oneOf "_" c

abbrev under : Text → Bool
under s = isAny "_" s

-- one turn, by the tests
abbrev turn : Bool → Bool → Bool → Char → Text → Text
turn a b u c s = cond a (afterIdent false s) (cond b (afterIdent true s) (cond u (afterRun opSign (c ∷ s)) (c ∷ s)))

after-turn : (u : Bool) (c : Char) (s : Text) → afterIdent u (c ∷ s) ≡ turn (isIdChar c.code) (isUnder c.code) u c s
unfolding afterIdent
after-turn u c s = refl

-- chunks, then the tail
abbrev Rest : Text → Text → Type 0
Rest s r = (Chunks then Tail) s r

-- from inside of a run of `_` that begins at t
abbrev Under : Text → Type 0
Under s = (t : Text) → Run1 under t s → Rest t (afterIdent true s)

run1-more : (p : Text → Bool) {t s : Text} {c : Char} → Run1 p t (c ∷ s) → p (c ∷ s) ≡ true → Run1 p t s
run1-more p (Run1.run f w) e = Run1.run f (on w (Run.next e Run.stop))
  where
    on : {t m s : Text} → Run p t m → Run p m s → Run p t s
    on Run.stop w = w
    on (Run.next f v) w = Run.next f (on v w)

-- one more id character in front, after zero or more `_`
grow : {t s r : Text} {c : Char} → Run under t (c ∷ s) → isIdChar c.code ≡ true → Rest s r → Rest t r
grow a e (both k w) = both (Chunks.chunk (both a (Run1.run e Run.stop)) k) w

-- what the automaton finds has the shape, from its start, and from within a run of `_`
finds : (s : Text) → Rest s (afterIdent false s) × Under s
finds [] = unfold afterIdent in (both Chunks.done (inl refl), λ t w. both Chunks.done (inr (both w Run.stop)))
finds (c ∷ s) =
    let f = finds s in (
      rw after-turn (by-test (isIdChar c.code) (λ a. rw a (grow Run.stop a f.0)) (λ a.
          by-test (isUnder c.code) (λ b. rw (a, b) (f.1 (c ∷ s) (Run1.run b Run.stop))) (λ b. rw (a, b) (both Chunks.done (inl refl))))),
      λ t w. rw after-turn (by-test (isIdChar c.code) (λ a. rw a (grow (run1-run under w) a f.0)) (λ a.
          by-test (isUnder c.code) (λ b. rw (a, b) (f.1 t (run1-more under w b)))
          (λ b. rw (a, b) (both Chunks.done (inr (both w (run-after opSign (c ∷ s)))))))),
    )

-- how the automaton passes each part
pass-ids : {s r : Text} → Run idChar s r → afterIdent false s ≡ afterIdent false r
pass-ids Run.stop = refl
pass-ids (Run.next {c} {s} e w) = after-turn false c s ∙ rw e (pass-ids w)

pass-chunk : (u : Bool) {s m : Text} → (Run under then Run1 idChar) s m → afterIdent u s ≡ afterIdent false m
pass-chunk u (both Run.stop (Run1.run {c} {s} e w)) = after-turn u c s ∙ rw e (pass-ids w)
pass-chunk u (both (Run.next {c} {s} f v) w) = after-turn u c s ∙ rw (under-no-id c.code f, f) (pass-chunk true (both v w))

pass-chunks : {s r : Text} → Chunks s r → afterIdent false s ≡ afterIdent false r
pass-chunks Chunks.done = refl
pass-chunks (Chunks.chunk a k) = pass-chunk false a ∙ pass-chunks k

under-keeps : {s r : Text} → Run under s r → afterIdent true s ≡ afterIdent true r
under-keeps Run.stop = refl
under-keeps (Run.next {c} {s} e w) = after-turn true c s ∙ rw (under-no-id c.code e, e) (under-keeps w)

under-word : {s r : Text} → Run1 under s r → afterIdent false s ≡ afterIdent true r
under-word (Run1.run {c} {s} e w) = after-turn false c s ∙ rw (under-no-id c.code e, e) (under-keeps w)

after-shorter : (u : Bool) (s : Text) → length (afterIdent u s) ≤ length s
unfolding afterIdent
after-shorter u [] = omega arith
after-shorter u (c ∷ s) =
    let h = after-shorter true s in
    let k = after-shorter false s in
    let r = (run-suffix opSign (run-after opSign (c ∷ s))).within in
    rw after-turn (by-test (isIdChar c.code) (λ a. rw a (omega arith)) (λ a.
    by-test (isUnder c.code) (λ b. rw (a, b) (omega arith)) (λ b. by-test u (λ d. rw (a, b, d) r) (λ d. rw (a, b, d) (omega arith)))))

signs-least : {s r : Text} → Run opSign s r → length (afterIdent true s) ≤ length r
signs-least {s} Run.stop = after-shorter true s
signs-least (Run.next {c} {s} e w) = rw (after-turn, sign-no-id c.code e, sign-no-under c.code e) (after-least opSign (Run.next e w))

tail-least : (s r : Text) → Tail s r → length (afterIdent false s) ≤ length r
tail-least s r (inl e) = rw (← e) (after-shorter false s)
tail-least s r (inr (both w k)) = rw (under-word w) (signs-least k)

rest-least : (s r : Text) → Rest s r → length (afterIdent false s) ≤ length r
rest-least s r (both {m} k t) = rw (pass-chunks k) (tail-least m r t)

chunks-suffix : {s r : Text} → Chunks s r → Suffix r s
chunks-suffix Chunks.done = suffix-refl _
chunks-suffix (Chunks.chunk (both a w) k) =
    suffix-trans (chunks-suffix k) (suffix-trans (run-suffix idChar (run1-run idChar w)) (run-suffix under a))

pub rest-suffix : (s r : Text) → Rest s r → Suffix r s
rest-suffix s r (both k (inl e)) = rw e at (chunks-suffix k)
rest-suffix s r (both k (inr (both w z))) =
    suffix-trans (suffix-trans (run-suffix opSign z) (run-suffix under (run1-run under w))) (chunks-suffix k)

-- the shape of an identifier, taken apart
pub start-rest : (s r : Text) → (One idStart then Chunks then Tail) s r → (idStart s ≡ true) × Rest (drop 1 s) r
start-rest s r (both (One.one e) w) = (e, w)

pub ident-finds : (s : Text) → idStart s ≡ true → Ident s (afterIdent false (drop 1 s))
ident-finds [] e = clash e
ident-finds (c ∷ s) e = (both (One.one e) (finds s).0, λ q h. rest-least s q (start-rest (c ∷ s) q h).1)

pub ident-found : (s r : Text) → Ident s r → (idStart s ≡ true) × (r ≡ afterIdent false (drop 1 s))
ident-found s r (both (One.one {s = t} e) w, l) =
    let f = (finds t).0 in
    let x = l (afterIdent false t) (both (One.one e) f) in
    let y = rest-least t r w in
    (e, suffix-same (rest-suffix t r w) (rest-suffix t (afterIdent false t) f) (omega arith))

-- ---- the token

pub scan-ident : (n : ℕ) (s : Text) → scanIdent n s ≡ wordOr n s (afterIdent false (drop 1 s)) (wordOf (codesOf s (afterIdent false (drop 1 s))))
unfolding scanIdent codesTo
scan-ident n s = refl

-- what stands is what it finds
pub plain-ident-found : (n : ℕ) (s r : Text) → TokenShape TokenType.ident s r → (idStart s ≡ true) × (scanIdent n s ≡ Found.token tk.Ident r)
unfolding TokenShape orPrefixed
plain-ident-found n s r h =
    let q = ident-found s r h.0.0 in
    (q.0, scan-ident n s ∙ rw (← q.1) (rw (h.0.1, h.1)))

pub word-key-found : (n : ℕ) (s r : Text) (k : Kw) → Ident s r → wordOf (codesOf s r) ≡ some k
    → (idStart s ≡ true) × (scanIdent n s ≡ Found.token (tk.Kw k) r)
word-key-found n s r k h e =
    let q = ident-found s r h in
    (q.0, scan-ident n s ∙ rw (← q.1) (rw e))

-- where no quote follows, what it finds stands
pub ident-stands : (n : ℕ) (s : Text) → idStart s ≡ true
    → (quote (afterIdent false (drop 1 s)) ≡ false) ⊎ ((k : Kw) × (wordOf (codesOf s (afterIdent false (drop 1 s))) ≡ some k))
    → Stood n s (scanIdent n s)
unfolding TokenShape orPrefixed
ident-stands n s e o = go (wordOf (codesOf s r)) refl o
  where
    r : Text
    r = afterIdent false (drop 1 s)

    id : Ident s r
    id = ident-finds s e

    go : (w : Option Kw) → wordOf (codesOf s r) ≡ w → (quote r ≡ false) ⊎ ((k : Kw) × (wordOf (codesOf s r) ≡ some k)) → Stood n s (scanIdent n s)
    go none f (inl q) = stood TokenType.ident tk.Ident r (scan-ident n s ∙ ap (wordOr n s r) f ∙ rw q) ((id, f), q) (Valued.bare refl)
    go none f (inr k) = no-some (sym f ∙ k.1)
    go (some k) f o = stood (TokenType.key k) (tk.Kw k) r (scan-ident n s ∙ ap (wordOr n s r) f) (inl (id, f)) (Valued.bare refl)
