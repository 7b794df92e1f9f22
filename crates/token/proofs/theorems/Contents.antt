-- String content: stripping from the front and from the back is what is declared.
use Rattle.std.proofs.Common.{ℕ, zero, suc, ◌≤◌, ◌+◌, ◌-◌, ◌≡◌, refl, sym, ◌∙◌, ap, true, false, cond, ◌&&◌, [], ◌∷◌, ◌++◌, reverse, append-nil, length, drop, length-append, leb, arith, ne_eqb, le-leb}
use mathlib.Core.List.{reverse_aux, reverse_aux-append}
use Rattle.std.proofs.Math.Seq.{append_snoc}
use Rattle.token.proofs.theorems.Words.{Char, Text, place, begins, quote, textOf, endsQuote, LastDropped, Content, strip, plainContent, snoc, by-test}
use Rattle.token.specs.declared.kinds.TokenKind.TheVariants as tk

-- the first character alone decides
quote-first : (c : Char) (s t : Text) → quote (c ∷ s) ≡ quote (c ∷ t)
unfolding begins
quote-first c s t = refl

pub ends-snoc : (w : Text) (d : Char) → endsQuote (w ++ (d ∷ [])) ≡ quote (d ∷ [])
ends-snoc [] d = refl
ends-snoc (a ∷ []) d = refl
ends-snoc (a ∷ b ∷ w) d = ends-snoc (b ∷ w) d

no-quote : quote [] ≡ false
unfolding begins
no-quote = refl

abbrev Stripped : Text → Text → Text → ℕ → Type 0
Stripped u z y e = (a : ℕ) × (b : ℕ) × (strip (length u) (u ++ z) (reverse_aux u y) e ≡ tk.Str a b) × Content u e a b

strip-turn : (k : ℕ) (c : Char) (t back : Text) (e : ℕ) → strip (suc k) (c ∷ t) back e
    ≡ cond (quote (c ∷ t)) (cond (leb 2 (suc k) && quote back) (strip (suc k - 2) t (drop 1 back) (place e back)) (strip (suc k - 1) t back e))
    (tk.Str c.at e)
unfolding strip
strip-turn k c t back e = rw (ne_eqb (suc k) 0 (λ z. omega arith))

strip-none : (t back : Text) (e : ℕ) → strip 0 t back e ≡ tk.Str e e
unfolding strip
strip-none [] back e = refl
strip-none (c ∷ t) back e = refl

strip-plain : (c : Char) (v z y : Text) (e : ℕ) → quote (c ∷ v) ≡ false → Stripped (c ∷ v) z y e
strip-plain c v z y e q =
    (c.at, e, strip-turn (length v) c (v ++ z) (reverse_aux v (c ∷ y)) e ∙ rw (quote-first c (v ++ z) v, q), Content.unquoted q refl)

strip-is : (f : ℕ) (u z y : Text) (e : ℕ) → length u ≤ f → Stripped u z y e
strip-is zero (c ∷ v) z y e l = absurd (omega arith)
strip-is (suc f) (c ∷ []) z y e l =
    by-test (quote (c ∷ [])) (λ q. let h = strip-is f [] z (c ∷ y) e (omega arith) in
    (h.0, h.1, strip-turn 0 c z (c ∷ y) e ∙ rw (quote-first c z [], q) h.2, Content.quoted q (LastDropped.kept refl) h.3))
    (λ q. strip-plain c [] z y e q)
strip-is (suc f) (c ∷ a ∷ u) z y e l =
    let v : Text = a ∷ u in
    let s = snoc a u in
    let w = s.front in
    let d = s.last in
    let size : length v ≡ length w + 1 = ap length s.split ∙ length-append w (d ∷ []) in
    let back : reverse_aux v (c ∷ y) ≡ d ∷ reverse_aux w (c ∷ y) = ap (λ t. reverse_aux t (c ∷ y)) s.split ∙ reverse_aux-append w (d ∷ []) (c ∷ y) in
    let two : leb 2 (suc (length v)) ≡ true = le-leb 2 (suc (length v)) (omega arith) in
    let test : quote (reverse_aux v (c ∷ y)) ≡ quote (d ∷ []) = ap quote back ∙ quote-first d (reverse_aux w (c ∷ y)) [] in
    by-test (quote (c ∷ v)) (λ q. by-test (quote (d ∷ [])) (λ x.
    let h = strip-is f w (d ∷ z) (c ∷ y) d.at (omega (arith, size, l)) in
    let k : suc (length v) - 2 ≡ length w = omega (arith, size) in
    let m : v ++ z ≡ w ++ (d ∷ z) = ap (λ t. t ++ z) s.split ∙ append_snoc w d z in (
      h.0,
      h.1,
      strip-turn (length v) c (v ++ z) (reverse_aux v (c ∷ y)) e ∙ rw (quote-first c (v ++ z) v, q, two, test, x) (rw (back, m, k) h.2),
      Content.quoted q (LastDropped.dropped w d s.split x) h.3,
    )) (λ x.
    let h = strip-is f v z (c ∷ y) e (omega arith) in
    let k : suc (length v) - 1 ≡ length v = omega arith in (
      h.0,
      h.1,
      strip-turn (length v) c (v ++ z) (reverse_aux v (c ∷ y)) e ∙ rw (quote-first c (v ++ z) v, q, two, test, x, k) h.2,
      Content.quoted q (LastDropped.kept (ap endsQuote s.split ∙ ends-snoc w d ∙ x)) h.3,
    ))) (λ q. strip-plain c v z y e q)
strip-is _ [] z y e l = (e, e, strip-none z y e, Content.unquoted no-quote refl)

pub content-is : (n : ℕ) (s r : Text) → (a : ℕ) × (b : ℕ) × (plainContent n s r ≡ tk.Str a b) × Content (textOf s r) (place n r) a b
unfolding plainContent
content-is n s r =
    let t = textOf s r in
    let h = strip-is (length t) t [] [] (place n r) (omega arith) in
    (h.0, h.1, ap (λ x. strip (length t) x (reverse t) (place n r)) (sym (append-nil t)) ∙ h.2, h.3)
