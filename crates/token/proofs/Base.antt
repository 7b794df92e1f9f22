-- Two constructors are apart; cases of a test; answers that are the same have the same parts; a list's last element.
use Rattle.std.proofs.Common.{ℕ, ◌≡◌, refl, sym, ◌∙◌, ap, List, [], ◌∷◌, ◌++◌, reverse, Bool, true, false, not, ◌&&◌, ◌||◌, eqb, eqb-true, arith, Result, Ok}
use mathlib.Core.Option.{none, some}
use mathlib.Core.List.{reverse-append, reverse-reverse}
use Rattle.chars.proofs.Bools.{clash, and-both}

-- What `cc` makes of two constructors that would be equal: cheaper than `omega`, which reads all in scope.
pub zero-one : {B : Type 0} → ◌≡◌ {A = ℕ} 0 1 → B
zero-one e = absurd (omega arith)

pub no-some : {A B : Type 0} {x : A} → none ≡ some x → B
no-some e = zero-one (cc)

-- by a test's two answers, each with its equation
pub by-test : {P : Type 0} (b : Bool) → (b ≡ true → P) → (b ≡ false → P) → P
by-test true f g = f refl
by-test false f g = g refl

-- none of two, and a third
pub neither : (a b d : Bool) → not a && not b && d ≡ true → (a ≡ false) × (b ≡ false) × (d ≡ true)
neither false false true e = (refl, refl, refl)
neither _ _ _ e = clash e

-- the test for one quoted character gives its code
pub code-is : (x c : ℕ) → eqb c x || false ≡ true → c ≡ x
code-is x c e = by-test (eqb c x) (λ q. eqb-true c x q) (λ q. clash (rw q at e))

-- so does the test for it and what follows
pub begun-is : (x c : ℕ) (b : Bool) → eqb c x && b ≡ true → c ≡ x
begun-is x c b e = eqb-true c x (and-both (eqb c x) b e).0

pub ok-parts : {A B E : Type 0} {x y : A} {u v : B} → ◌≡◌ {A = Result (A × B) E} (Ok (x, u)) (Ok (y, v)) → (x ≡ y) × (u ≡ v)
ok-parts {A} {B} {E} {x} {y} {u} {v} e =
    let p : ◌≡◌ {A = A × B} (x, u) (y, v) = cc in
    (ap (λ w. w.0) p, ap (λ w. w.1) p)

-- a last element
pub record Snoc {A : Type 0} (v : List A) : Type 0 where
  pub front : List A
  pub last : A
  pub split : v ≡ front ++ (last ∷ [])

pub snoc : {A : Type 0} (c : A) (v : List A) → Snoc (c ∷ v)
snoc c [] = record { front = []; last = c; split = refl }
snoc {A} c (d ∷ v) = let h = snoc d v in record { front = c ∷ h.front; last = h.last; split = ap {B = List A} (λ z. c ∷ z) h.split }

pub snoc-same : {A : Type 0} (m o : List A) (d x : A) → m ++ (d ∷ []) ≡ o ++ (x ∷ []) → (m ≡ o) × (d ≡ x)
snoc-same m o d x e =
    let h : d ∷ reverse m ≡ x ∷ reverse o = simp reverse-append at (ap reverse e) in
    let k : reverse m ≡ reverse o = cc in
    (sym (reverse-reverse m) ∙ ap reverse k ∙ reverse-reverse o, cc)
