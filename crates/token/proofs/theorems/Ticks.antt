-- Characters and symbols: what the scanner finds stands, what stands is what it finds, and refusals 12 to 16.
use Rattle.std.proofs.Common.{ℕ, ◌≡◌, refl, sym, ◌∙◌, Bool, true, false, cond, not, ◌&&◌, inl, inr, [], ◌∷◌, drop}
use Rattle.chars.specs.paper.Classes.{classesOf}
use Rattle.token.proofs.theorems.Words.{not-true, oneOf, Char, Text, headIs, idStart, afterRun, isIdStart, isOpSign, clash, and-both, class-laws, no-start, no-sign, isAny, backslash, opSign, freeSign, apostrophe, plainChar, TokenType, One, ◌then◌, both, Character, Name, Symbol, TokenShape, Valued, Met, Found, afterIdent, afterSlash, escapedOf, scanCharSym, by-test, false_from_ne_true}
use Rattle.token.specs.declared.kinds.TokenKind.TheVariants as tk
use Rattle.token.proofs.theorems.Runs.{run1-finds, run1-found, one-drop, one-found, head-other}
use Rattle.token.proofs.theorems.Idents.{ident-finds, ident-found}
use Rattle.token.proofs.theorems.Escapes.{slash-found, slash-finds, Good}
use Rattle.token.proofs.theorems.Operators.{stood, fell-at, Outcome, free-sign}
open class-laws use {sign-no-start}

-- the test for a printable character between ticks
abbrev pub charAhead : Text → Bool
charAhead m = plainChar m && apostrophe (drop 1 m)

abbrev pub semiAhead : Text → Bool
semiAhead m = isAny ";" m && not (opSign (drop 1 m))

pub scan-tick : (t : Char) (m : Text) → scanCharSym (t ∷ m)
    ≡ cond (backslash m) (escapedOf (drop 1 m) (afterSlash (drop 1 m)))
    (cond (charAhead m) (Found.token tk.CharSym (drop 2 m))
    (cond (idStart m) (Found.token tk.CharSym (afterIdent false (drop 1 m)))
    (cond (freeSign m) (Found.token tk.CharSym (afterRun freeSign m))
    (cond (semiAhead m) (Found.token tk.CharSym (drop 1 m))
    (Found.stuck 16 m)))))
unfolding scanCharSym
scan-tick t m = refl

-- the plain character shape, from the test and back
pub char-stands : (t : Char) (m : Text) → apostrophe (t ∷ m) ≡ true → charAhead m ≡ true → Character (t ∷ m) (drop 2 m)
char-stands t [] e f = clash f
char-stands t (c ∷ m) e f =
    let h = and-both (plainChar (c ∷ m)) (apostrophe m) f in inr (both (One.one e) (both (One.one h.0) (one-drop apostrophe m h.1 refl)))

plain-no-slash : (m : Text) → plainChar m ≡ true → backslash m ≡ false
plain-no-slash m e = not-true (backslash m) (and-both (headIs (λ c. (classesOf c).printable) m) (not (backslash m)) e).1

pub no-char : (t : Char) (m : Text) → backslash m ≡ false → charAhead m ≡ false → (r : Text) → Character (t ∷ m) r → ⊥
no-char t m b f r (inl (both (One.one e) (both {m = q} w o))) = clash (sym b ∙ (slash-found m q w).0)
no-char t m b f r (inr (both (One.one e) (both (One.one {s = u} g) o))) = clash (sym f ∙ rw (g, (one-found apostrophe u r o).0))

-- ---- what it finds stands, or its refusal is met

pub tick-stands : (n : ℕ) (s : Text) → apostrophe s ≡ true → Outcome n s (scanCharSym s)
unfolding TokenShape
tick-stands n [] e = clash e
tick-stands n (t ∷ m) e =
    by-test (backslash m) (λ k. elim (slash-finds m k) [
      | inl g ↦ closes k g
      | inr b ↦ inr (fell-at b.number b.rest (scan-tick t m ∙ rw (k, b.found)) (Met.m12 (inr (One.one e), k) b.wrong))
    ]) (λ k. by-test (charAhead m) (λ f. found (drop 2 m) (scan-tick t m ∙ rw (f, k)) (inl (char-stands t m e f))) (λ f.
    by-test (idStart m) (λ x. found (afterIdent false (drop 1 m)) (scan-tick t m ∙ rw (f, k, x)) (symbol k f _ (inl (ident-finds m x)))) (λ x.
    by-test (freeSign m) (λ y. found (afterRun freeSign m) (scan-tick t m ∙ rw (f, k, x, y)) (symbol k f _ (inr (inl (run1-finds freeSign m y refl))))) (λ y.
    by-test (semiAhead m) (λ z. found (drop 1 m) (scan-tick t m ∙ rw (f, k, x, y, z)) (symbol k f _ (inr (inr (semi z)))))
    (λ z. inr (fell-at 16 m (scan-tick t m ∙ rw (f, k, x, y, z)) (Met.m16 (One.one e) k (no-char t m k f) (λ r h. no-name x y z h.0))))))))
  where
    found : (r : Text) → scanCharSym (t ∷ m) ≡ Found.token tk.CharSym r → TokenShape TokenType.charSym (t ∷ m) r → Outcome n (t ∷ m) (scanCharSym (t ∷ m))
    found r f h = inl (stood TokenType.charSym tk.CharSym r f h (Valued.bare refl))

    -- an escape
    closes : backslash m ≡ true → (g : Good m) → Outcome n (t ∷ m) (scanCharSym (t ∷ m))
    closes k g =
        let q = drop g.count (drop 1 m) in
        by-test (apostrophe q) (λ f. found (drop 1 q) (scan-tick t m ∙ rw (k, g.found, f))
        (inl (inl (both (One.one e) (both g.escape (one-drop apostrophe q f refl))))))
        (λ f. inr (fell-at 15 q (scan-tick t m ∙ rw (k, g.found, f)) (Met.m15 (both (One.one e) g.escape) f)))

    -- a symbol
    symbol : backslash m ≡ false → charAhead m ≡ false → (r : Text) → Name m r → TokenShape TokenType.charSym (t ∷ m) r
    symbol k f r h = inr (both (One.one e) h, no-char t m k f, k)

    semi : semiAhead m ≡ true → One (isAny ";") m (drop 1 m) × (opSign (drop 1 m) ≡ false)
    semi z = let h = and-both (isAny ";" m) (not (opSign (drop 1 m))) z in (one-drop (isAny ";") m h.0 refl, not-true (opSign (drop 1 m)) h.1)

    no-name : {r : Text} → idStart m ≡ false → freeSign m ≡ false → semiAhead m ≡ false → (One apostrophe then Name) (t ∷ m) r → ⊥
    no-name {r} x y z (both (One.one u) (inl h)) = clash (sym x ∙ (ident-found m r h).0)
    no-name x y z (both (One.one u) (inr (inl h))) = clash (sym y ∙ (run1-found freeSign h).0)
    no-name {r} x y z (both (One.one u) (inr (inr (h, k)))) = let q = one-found (isAny ";") m r h in clash (sym z ∙ rw (q.0, ← q.1, k))

-- ---- what stands is what it finds

pub char-found : (s r : Text) → Character s r → (apostrophe s ≡ true) × (scanCharSym s ≡ Found.token tk.CharSym r)
char-found s r (inl (both (One.one {c = t} {s = m} e) (both {m = q} w o))) =
    let h = slash-found m q w in
    let x = one-found apostrophe q r o in
    (e, scan-tick t m ∙ rw (h.0, h.2, ← h.3, x.0, x.1))
char-found s r (inr (both (One.one {c = t} e) (both (One.one {c} {s = u} f) o))) =
    let x = one-found apostrophe u r o in
    (e, scan-tick t (c ∷ u) ∙ rw (f, plain-no-slash (c ∷ u) f, x.0, x.1))

pub symbol-found : (s r : Text) → Symbol s r → (apostrophe s ≡ true) × (scanCharSym s ≡ Found.token tk.CharSym r)
symbol-found s r (both (One.one {c = t} {s = m} e) w, nc, k) = (e, by w)
  where
    f : charAhead m ≡ false
    f = false_from_ne_true (charAhead m) (λ x. nc (drop 2 m) (char-stands t m e x))

    by : Name m r → scanCharSym (t ∷ m) ≡ Found.token tk.CharSym r
    by (inl h) = let q = ident-found m r h in scan-tick t m ∙ rw (f, k, q.0, q.1)
    by (inr (inl h)) = let q = run1-found freeSign h in scan-tick t m ∙ rw (f, k, head-other isOpSign isIdStart sign-no-start m (free-sign m q.0), q.0, q.1)
    by (inr (inr (h, x))) =
        let q = one-found (isAny ";") m r h in
        let a = head-other (oneOf ";") isIdStart (no-start ";" refl) m q.0 in
        let b = head-other (oneOf ";") isOpSign (no-sign ";" refl) m q.0 in
        scan-tick t m ∙ rw (f, k, a, b, q.0, ← q.1, x)

pub char-sym-found : (s r : Text) → TokenShape TokenType.charSym s r → (apostrophe s ≡ true) × (scanCharSym s ≡ Found.token tk.CharSym r)
unfolding TokenShape
char-sym-found s r (inl h) = char-found s r h
char-sym-found s r (inr h) = symbol-found s r h
