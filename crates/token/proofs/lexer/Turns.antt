-- One turn of a walk: what stands at a place is a step of the computed answer.
use Rattle.token.proofs.lexer.Words.{ℕ, ◌≤◌, ◌<◌, ◌≡◌, refl, sym, ◌∙◌, ap, Bool, true, false, not, ◌&&◌, ◌||◌, ◌⊎◌, inl, inr, List, [], ◌∷◌, length, drop, arith, oneOf, codes, Text, from, place, clash, code_laws, text-laws, Token, isAny, begins, Gap, GapKind, fresh, push, cutOf, Found, Start, scan, scanReturn, pieceOf, tokenTo, Trail, trail, eofAt, gapOf, Cursor, TokenKind, zero-one, by-test, or-true, or-false}
use Rattle.token.proofs.lexer.Found.{token-strict, left-at}
use Rattle.token.proofs.lexer.Laws.{gap-kind, later-place, piece-token}
use Rattle.token.proofs.lexer.Trails.{trail-token, trail-stuck, trail-end, trail-alike}
use Rattle.token.proofs.theorems.Dispatch.{clear-head, scan-by, starts-lf, starts-cr}
pub use mathlib.Core.Bool.{or-false}
open code_laws use {no-member}
open text-laws use {at-char}

pub record Turn (s : List ℕ) (i : ℕ) (g : Gap) (t : Token) (e : ℕ) (h : Gap) : Type 0 where
  pub walked : trail (length s) 0 g (from s i) ≡ Trail.goes t (trail (length s) 0 h (from s e))
  pub on : i < e
  pub within : e ≤ length s

module _ (s : List ℕ) (i : ℕ) (g : Gap) (h : i < length s) where
  abbrev n : ℕ
  n = length s

  -- a token
  pub turn-token : (k : TokenKind) (e : Cursor) → tokenTo k e ≡ pieceOf n (scan n (from s i)) → Turn s i g (record { kind = k; start = i; end = e.at; cut = cutOf g }) e.at fresh
  turn-token k e q =
      let o = piece-token s i h k e q in
      let r = o.0 in
      let t = at-char s i h in
      let f = ap (scan n) (sym t) ∙ o.1 in
      let y = token-strict n _ _ k r f in
      let b : place n r ≡ e.at = ap (λ (c : Cursor). c.at) o.2 in
      let w = later-place s i r h (rw t y) in
      record {
        walked =
            ap (trail n 0 g) t ∙ trail-token n g _ _ r k f y
            ∙ ap (λ z. Trail.goes (record { kind = k; start = i; end = z; cut = cutOf g }) (trail n 0 fresh r)) b
            ∙ ap (λ z. Trail.goes (record { kind = k; start = i; end = e.at; cut = cutOf g }) (trail n 0 fresh z)) (sym (left-at s i r (rw t y.0)) ∙ ap (from s) b);
        on = omega arith;
        within = omega arith;
      }

  -- what is refused
  pub turn-stop : (j : ℕ) (q : Text) → scan n (from s i) ≡ Found.stuck j q → trail n 0 g (from s i) ≡ Trail.stops j (place n q)
  turn-stop j q p = let t = at-char s i h in ap (trail n 0 g) t ∙ trail-stuck n g _ _ q j (ap (scan n) (sym t) ∙ p)

-- ---- a block comment that waits for a line end

-- a line end, or a CR that is refused
line-or-stuck : (n : ℕ) (t : Text) → isAny "\n\r" t ≡ true → ((r : Text) × (scan n t ≡ Found.gap GapKind.lineEnd r)) ⊎ (scan n t ≡ Found.stuck 1 t)
unfolding scanReturn
line-or-stuck n t e =
    by-test (isAny "\n" t) (λ p. inl (drop 1 t, scan-by n t Start.lf (starts-lf t (clear-head (oneOf "\n") refl t p) p))) (λ p.
    by-test (isAny "\r" t) (λ q.
    let f = scan-by n t Start.cr (starts-cr t (clear-head (oneOf "\r") refl t q) q) in
    by-test (begins "\r\n" t) (λ r. inl (drop 2 t, f ∙ rw r)) (λ r. inr (f ∙ rw r)))
    (λ q. clash (sym (none t p q) ∙ e)))
  where
    none : (u : Text) → isAny "\n" u ≡ false → isAny "\r" u ≡ false → isAny "\n\r" u ≡ false
    none [] a b = refl
    none (c ∷ u) a b = no-member (λ x. not (oneOf "\n" x) && not (oneOf "\r" x)) (codes "\n\r") c.code refl (rw (a, b))

abbrev waits : Bool → Bool → Bool → Gap
waits newline comment cut = record { newline = newline; comment = comment; pending = true; cut = cut }

-- a comment behind it makes it the cut, and a line end lets it go
comment-push : (a b c : Bool) (p : GapKind) → (p ≡ GapKind.lineComment) ⊎ (p ≡ GapKind.blockComment) → push p (waits a b c) ≡ push p (gapOf a b (c || true))
comment-push a b c p (inl q) = rw (q, or-true c)
comment-push a b c p (inr q) = rw (q, or-true c)

-- Where no blank stands, what follows decides: a line end lets it go, and anything else, the end of script too, makes it the cut.
pub settled : (n : ℕ) (a b c : Bool) (t : Text) → isAny " \t" t ≡ false → trail n 0 (waits a b c) t ≡ trail n 0 (gapOf a b (c || not (isAny "\n\r" t))) t
settled n a b c [] e = trail-end n (waits a b c) ∙ ap (λ z. Trail.ends (eofAt n z)) (sym (or-false (c || true))) ∙ sym (trail-end n (gapOf a b (c || true)))
settled n a b c (d ∷ s) e =
    by-test (isAny "\n\r" (d ∷ s)) (λ q. rw q (elim (line-or-stuck n (d ∷ s) q) [
      | inl (r, f) ↦ trail-alike n (waits a b c) (gapOf a b (c || false)) d s refl (λ p q g. let z : p ≡ GapKind.lineEnd = cc in rw (z, or-false c)) (λ t q g. zero-one (cc))
      | inr f ↦ trail-alike n (waits a b c) (gapOf a b (c || false)) d s refl (λ p q g. zero-one (cc)) (λ t q g. zero-one (cc))
    ])) (λ q. rw q
    (trail-alike n (waits a b c) (gapOf a b (c || true)) d s refl (λ p r g. comment-push a b c p (gap-kind n d s p r (no-member (λ x. not (oneOf " \t" x) && not (oneOf "\n\r" x)) (codes " \t\n\r") d.code refl (rw (e, q))) g).0)
    (λ t r g. sym (or-false (c || true)))))
