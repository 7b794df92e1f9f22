-- A test that is computed at a few codes, carried to each code that is one of them.
use Rattle.std.proofs.Common.{◌≡◌, ℕ, zero, suc, ◌+◌, ◌≤◌, ◌<◌, Bool, true, false, not, List, [], ◌∷◌, eqb, refl, sym, ◌∙◌, inl, inr, ⊎_elim, arith, eqb-true, eq-eqb, ne_eqb, le-ltb}
use Rattle.std.proofs.lemmas.Bool.{cases_lt, cases_eq, or_cases, false_from_ne_true, not-true}
use Rattle.std.proofs.Math.Bool.{or-true}
use types.Run.{OneOf}
use Rattle.chars.specs.paper.Quoted.{member}
use Rattle.chars.specs.code.Classes.{bitIn}
use Rattle.chars.specs.promises.Codes.{every, span, alike}
use Rattle.chars.proofs.Bools.{clash, and-both}

pub carry : (f : ℕ → Bool) (l : List ℕ) (c : ℕ) → every f l ≡ true → member l c ≡ true → f c ≡ true
carry f [] c h e = clash e
carry f (x ∷ l) c h e =
    let k = and-both (f x) (every f l) h in
    ⊎_elim (λ q. rw (eqb-true c x q) k.0) (λ r. carry f l c k.1 r) (or_cases (eqb c x) (member l c) e)

-- a test that holds at every code of a list, and implies another
pub every-sub : (f g : ℕ → Bool) (l : List ℕ) → every f l ≡ true → ((c : ℕ) → f c ≡ true → g c ≡ true) → every g l ≡ true
every-sub f g [] h k = refl
every-sub f g (x ∷ l) h k = let e = and-both (f x) (every f l) h in rw (k x e.0) (every-sub f g l e.1 k)

-- what holds at none of the codes does not hold at one of them
pub carry-not : (f : ℕ → Bool) (l : List ℕ) (c : ℕ) → every (λ x. not (f x)) l ≡ true → member l c ≡ true → f c ≡ false
carry-not f l c h e = not-true (f c) (carry (λ x. not (f x)) l c h e)

-- a code at which a test holds that none of the list passes is not in the list
pub no-member : (f : ℕ → Bool) (l : List ℕ) (c : ℕ) → every (λ x. not (f x)) l ≡ true → f c ≡ true → member l c ≡ false
no-member f l c h e = false_from_ne_true (member l c) (λ q. clash (sym (carry-not f l c h q) ∙ e))

in-span : (a n c : ℕ) → a ≤ c → c < a + n → member (span a n) c ≡ true
in-span a zero c h k = absurd (omega arith)
in-span a (suc n) c h k = ⊎_elim (λ q. rw (eq-eqb c a q)) (λ q. rw (in-span (suc a) n c (omega arith) (omega arith)) (or-true (eqb c a))) (cases_eq c a)

pub carry-span : (f : ℕ → Bool) (a n c : ℕ) → every f (span a n) ≡ true → a ≤ c → c < a + n → f c ≡ true
carry-span f a n c h p q = carry f (span a n) c h (in-span a n c p q)

pub agree : (x y : Bool) → alike x y ≡ true → x ≡ y
agree true y e = sym e
agree false y e = sym (not-true y e)

-- two tests that agree at n codes from a on
pub each-same : (f g : ℕ → Bool) (a n c : ℕ) → every (λ x. alike (f x) (g x)) (span a n) ≡ true → a ≤ c → c < a + n → f c ≡ g c
each-same f g a n c h p q = agree (f c) (g c) (carry-span (λ x. alike (f x) (g x)) a n c h p q)

-- ---- a set of ASCII characters as two masks: computed at each code of ASCII, and empty past it

mask-none : (low high c : ℕ) → 0x80 ≤ c → bitIn low high c ≡ false
unfolding bitIn
mask-none low high c l = rw (le-ltb c 0x40 (omega arith), le-ltb c 0x80 l)

pub mask-set : (low high : ℕ) (p : ℕ → Bool) → every (λ x. alike (bitIn low high x) (p x)) (span 0 128) ≡ true → ((c : ℕ) → 0x80 ≤ c → p c ≡ false)
    → (c : ℕ) → bitIn low high c ≡ p c
mask-set low high p h w c =
    ⊎_elim (λ l. each-same (bitIn low high) p 0 128 c h (omega arith) (omega arith)) (λ l. mask-none low high c l ∙ sym (w c l)) (cases_lt c 0x80)

-- ---- the keys of a match's arm

pub hits : (ks : List ℕ) (x : ℕ) → OneOf ks x → member ks x ≡ true
hits [] x h = absurd h
hits (k ∷ []) x h = rw (eq-eqb x k h)
hits (k ∷ j ∷ ks) x h = ⊎_elim (λ e. rw (eq-eqb x k e)) (λ r. rw (hits (j ∷ ks) x r) (or-true (eqb x k))) h

pub misses : (ks : List ℕ) (x : ℕ) → (OneOf ks x → ⊥) → member ks x ≡ false
misses [] x h = refl
misses (k ∷ []) x h = rw (ne_eqb x k h)
misses (k ∷ j ∷ ks) x h = rw (ne_eqb x k (λ e. h (inl e))) (misses (j ∷ ks) x (λ r. h (inr r)))
