-- Refusals: where some are met the scanner gives the first of them.
use Rattle.std.proofs.Common.{ℕ, zero, suc, ◌<◌, ◌≡◌, refl, sym, ◌∙◌, ap, Bool, true, false, not, ◌||◌, ◌⊎◌, inl, inr, [], ◌∷◌, length, drop, eqb, ltb, arith, eqb-true, ltb-true, ltb-false, ◌&&◌}
use Rattle.token.proofs.theorems.Words.{not-true, between, oneOf, isIdStart, Char, Text, headIs, idStart, afterRun, clash, and-both, Suffix, text-laws, slash-no-start, isDigit, isHexDigit, isAny, begins, quote, threeQuotes, backslash, dollarBrace, hexDigit, opSign, freeSign, notBacktick, apostrophe, One, Run, Times, both, Single, singleChar, tripleChar, Name, BadEscape, Opens, InSingle, InTriple, WithinSingle, Met, GivesWay, First, Found, Start, starts, scan, scanReturn, scanString, plainOf, scanCharSym, broken, exactHexes, afterSlash, wrong, closePlain, closePrefixed, closeTriple, closeString, by-test, Closing, false_from_ne_true, or_parts, code_laws}
use Rattle.token.specs.declared.kinds.TokenKind.TheVariants as tk
use Rattle.token.proofs.theorems.Families.{apart', begins-any, Fell, run1-finds, run-suffix, one-drop, text-found, six-found, ident-found, ident-finds, scan-ident, slash-found, slash-finds, u-other, simple, scan-tick, char-stands, charAhead, semiAhead, single-char, single-slash, triple-char, single-pass, single-empty, single-newline, single-dollar, triple-pass, triple-empty, triple-slash, triple-dollar, triple-barred, allowed-is, in-single, in-triple, plain-slash, times-three, backtick-found, or-string, scan-backtick, back, pass-run, block-stands}
use Rattle.token.proofs.theorems.Shorter.{escape-suffix, bad-strict}
use Rattle.token.proofs.theorems.Starts.{starts-declared}
use Rattle.token.proofs.theorems.Dispatch.{clear-head, starts-other, quote-any, scan-by, starts-block, starts-cr, starts-number, starts-word, starts-backtick, starts-string, starts-tick}
use Rattle.token.proofs.theorems.Unique.{end-scan}
open code_laws use {in-between}
open text-laws use {suffix-refl, suffix-cons, suffix-trans, suffix-same}

-- ---- 12 to 14

hexes-lack : (m k : ℕ) {n : ℕ} {s q : Text} → Times hexDigit n s q → n < m → hexDigit q ≡ false → exactHexes m k s ≡ broken 13 q
unfolding exactHexes
hexes-lack zero k w l e = absurd (omega arith)
hexes-lack (suc m) k (Times.done {s = []}) l e = refl
hexes-lack (suc m) k (Times.done {s = c ∷ s}) l e = rw e
hexes-lack (suc m) k (Times.more {n} {c} {s} f w) l e = rw f (hexes-lack m (suc k) w (omega arith) e)

bad-found : (b q : Text) (j : ℕ) → BadEscape b j q → (backslash b ≡ true) × (afterSlash (drop 1 b) ≡ broken j q)
unfolding afterSlash
bad-found b q j (BadEscape.e12 (One.one e)) = (e, refl)
bad-found b q j (BadEscape.e13 n l (both (One.one e) (both (One.one {c} f) w)) z) =
    let o = u-other c.code f in
    (e, rw (o.0, o.1, f) (hexes-lack 4 1 w l z))
bad-found b q j (BadEscape.e14 {c} (One.one e) z) =
    let x = or_parts (simple c.code || isDigit c.code) (oneOf "u" c.code) z in
    let y = or_parts (simple c.code) (isDigit c.code) x.0 in
    (e, rw (y.0, y.1, x.1))

-- ---- strings

wrong-scan : (n : ℕ) (p : Bool) (s o q : Text) (j : ℕ) → Opens p s o → closeString p o ≡ wrong j q → scan n s ≡ Found.stuck j q
unfolding scanString
wrong-scan n false s o q j (h, e) w =
    let e' : quote s ≡ true = rw h e in
    let w' : closeString false s ≡ wrong j q = rw h w in
    scan-by n s Start.string (starts-string s (clear-head (oneOf "\"") refl s (sym (quote-any s) ∙ e')) e') ∙ ap (plainOf n s) w'
wrong-scan n true s o q j (inl h, e) w =
    let k = ident-found s o h.0 in
    scan-by n s Start.word (starts-word s (clear-head isIdStart slash-no-start s k.0) k.0) ∙ scan-ident n s ∙ rw (← k.1) (rw h.1 (or-string n tk.Ident s o e ∙ rw w))
wrong-scan n true s o q j (inr h, e) w =
    let k = backtick-found s o h in
    scan-by n s Start.backtick (starts-backtick s (clear-head (oneOf "`") refl s k.0) k.0) ∙ k.1 n ∙ or-string n tk.BacktickId s o e ∙ rw w

-- ---- the first in a string

-- what is met at m, against the refusal i that is found at q: it is to the right of q, or not to its left and i is an escape's
data Past (i : ℕ) (q m : Text) : Type 0 where
  right : length m < length q → Past i q m
  tie : between 12 14 i ≡ true → Suffix m q → Past i q m

-- 7, 8 and 12 to 14 are met at the end, at an LF and from a backslash on, and so before no ordinary character
abbrev ordinary : ℕ → Bool
ordinary c = not (oneOf "\n\\" c)

slash-stops : (s : Text) → backslash s ≡ true → headIs ordinary s ≡ false
unfolding begins
slash-stops s e = apart' "\\" ordinary refl s (sym (begins-any 92 s) ∙ e)

no-stop : (p : ℕ → Bool) → p 10 ≡ false → p 92 ≡ false → (c : ℕ) → p c ≡ true → ordinary c ≡ true
no-stop p x y c e =
    by-test (eqb c 10) (λ q. clash (sym x ∙ sym (ap p (eqb-true c 10 q)) ∙ e)) (λ q.
    by-test (eqb c 92) (λ r. clash (sym y ∙ sym (ap p (eqb-true c 92 r)) ∙ e)) (λ r. rw (q, r)))

pub within-suffix : {p : Bool} {s m : Text} → WithinSingle p s m → Suffix m s
within-suffix WithinSingle.here = suffix-refl _
within-suffix (WithinSingle.char {c} e b w) = suffix-cons c (within-suffix w)
within-suffix (WithinSingle.escape e w) = suffix-trans (within-suffix w) (escape-suffix e)
within-suffix (WithinSingle.wrong-escape {c} e n w) = suffix-cons c (within-suffix w)

-- an ordinary character is passed
step : {t m : Text} → WithinSingle false t m → headIs ordinary t ≡ true → headIs ordinary m ≡ false → WithinSingle false (drop 1 t) m
step WithinSingle.here e h = clash (sym h ∙ e)
step (WithinSingle.char x b w) e h = w
step (WithinSingle.escape {s} {m = k} x w) e h = clash (sym (slash-stops s (slash-found s k x).0) ∙ e)
step (WithinSingle.wrong-escape x n w) e h = w

times-past : {n : ℕ} {t q m : Text} → Times hexDigit n t q → WithinSingle false t m → headIs ordinary m ≡ false → Suffix m q
unfolding isHexDigit isDigit
times-past Times.done w h = within-suffix w
times-past (Times.more {c} {s} e v) w h = times-past v (step w (no-stop isHexDigit refl refl c.code e) h) h

bad-past : {c : Char} {s q m : Text} {i : ℕ} → BadEscape (c ∷ s) i q → WithinSingle false s m → headIs ordinary m ≡ false → Past i q m
bad-past (BadEscape.e12 (One.one e)) w h = Past.tie refl (within-suffix w)
bad-past (BadEscape.e13 n l (both (One.one e) (both (One.one {c} {s} f) v)) z) w h =
    Past.tie refl (times-past v (step w (no-stop (oneOf "u") refl refl c.code f) h) h)
bad-past (BadEscape.e14 (One.one e) z) w h = Past.tie refl (within-suffix w)

-- content is reached, or the function stops before it with a refusal, of which P holds
data Reached (A : Type 0) (P : ℕ → Text → Type 0) (x : Closing) : Type 0 where
  content : A → Reached A P x
  before : (i : ℕ) (q : Text) → x ≡ wrong i q → P i q → Reached A P x

onward : {A B : Type 0} {P : ℕ → Text → Type 0} {x y : Closing} → (A → B) → y ≡ x → Reached A P x → Reached B P y
onward f e (Reached.content a) = Reached.content (f a)
onward f e (Reached.before i q g d) = Reached.before i q (e ∙ g) d

-- what is reached inside a string is content, or past the refusal that is found
plain-past : {s m : Text} → WithinSingle false s m → headIs ordinary m ≡ false → Reached (Single false s m) (λ i q. Past i q m) (closePlain 0 s)
plain-past WithinSingle.here h = Reached.content Single.done
plain-past (WithinSingle.char {c} {s} e b w) h =
    let l = (within-suffix w).within in
    by-test (isAny "\n" (c ∷ s)) (λ x. Reached.before 8 (c ∷ s) (single-newline false (c ∷ s) x) (Past.right (omega arith)))
    (λ x. let f : singleChar false (c ∷ s) ≡ true = rw (e, x) b in onward (Single.char f) (single-char false c s f) (plain-past w h))
plain-past (WithinSingle.escape e w) h = onward (Single.escape e) (single-pass false (Single.escape e Single.done)) (plain-past w h)
plain-past (WithinSingle.wrong-escape {c} {s} b n w) h = elim (slash-finds (c ∷ s) b) [
  | inl g ↦ absurd (n _ g.escape)
  | inr d ↦ Reached.before d.number d.rest (single-slash (c ∷ s) b d) (bad-past d.wrong w h)
]

prefixed-past : {s m : Text} → WithinSingle true s m → Reached (Single true s m) (λ i q. length m < length q) (closePrefixed s)
prefixed-past WithinSingle.here = Reached.content Single.done
prefixed-past (WithinSingle.char {c} {s} e b w) =
    let l = (within-suffix w).within in
    by-test (isAny "\n" (c ∷ s)) (λ x. Reached.before 8 (c ∷ s) (single-newline true (c ∷ s) x) (omega arith)) (λ x.
    by-test (dollarBrace (c ∷ s)) (λ y. Reached.before 11 (c ∷ s) (single-dollar (c ∷ s) y) (omega arith)) (λ y.
    let f : singleChar true (c ∷ s) ≡ true = rw (e, x, y) in onward (Single.char f) (single-char true c s f) (prefixed-past w)))

triple-past : (p : Bool) {s m : Text} → Run (λ t. not (threeQuotes t)) s m
    → Reached (Run (tripleChar p) s m) (λ i q. length m < length q) (closeTriple p s)
triple-past p Run.stop = Reached.content Run.stop
triple-past p (Run.next {c} {s} e w) =
    let l = (run-suffix (λ t. not (threeQuotes t)) w).within in
    by-test (backslash (c ∷ s)) (λ x. Reached.before 10 (c ∷ s) (triple-slash p (c ∷ s) x) (omega arith)) (λ x.
    by-test (p && dollarBrace (c ∷ s)) (λ y. Reached.before 11 (c ∷ s) (triple-barred p (c ∷ s) y) (omega arith)) (λ y.
    let f : tripleChar p (c ∷ s) ≡ true = rw (e, x) (allowed-is p (c ∷ s) ∙ ap not y) in onward (Run.next f) (triple-char p c s f) (triple-past p w)))

-- ---- what the scanner gives, against a refusal j that is met at u

pub data After (i : ℕ) (q : Text) (j : ℕ) (u : Text) : Type 0 where
  here : q ≡ u → (j ≡ i) ⊎ GivesWay j i → After i q j u
  right : length u < length q → After i q j u

pub record Meets (f : Found) (j : ℕ) (u : Text) : Type 0 where
  pub number : ℕ
  pub rest : Text
  pub found : f ≡ Found.stuck number rest
  pub after : After number rest j u

exactly : {f : Found} {j : ℕ} {u : Text} → f ≡ Found.stuck j u → Meets f j u
exactly {j} {u} e = record { number = j; rest = u; found = e; after = After.here refl (inl refl) }

-- a refusal of a string that opens at o, where its content is reached or a refusal is found before
string-meets : (n : ℕ) (p : Bool) (s o u : Text) (j : ℕ) {A : Type 0} {P : ℕ → Text → Type 0} {x : Closing} → Opens p s o → closeString p o ≡ x
    → (A → x ≡ wrong j u) → ((i : ℕ) (q : Text) → P i q → After i q j u) → Reached A P x → Meets (scan n s) j u
string-meets n p s o u j h e f g (Reached.content a) = exactly (wrong-scan n p s o u j h (e ∙ f a))
string-meets n p s o u j h e f g (Reached.before i q k d) =
    record { number = i; rest = q; found = wrong-scan n p s o q i h (e ∙ k); after = g i q d }

-- a refusal j of a plain single string, that is met at m or, of an escape, to the right of m
plain-meets : (n : ℕ) (s m u : Text) (j : ℕ) → InSingle false s m → headIs ordinary m ≡ false → closePlain 0 m ≡ wrong j u
    → ((m ≡ u) × (between 7 8 j ≡ true)) ⊎ (length u < length m)
    → Meets (scan n s) j u
plain-meets n s m u j (o, h, e, both (One.one q) w) x f d =
    string-meets n false s o u j h (in-single false o e) (λ v. single-pass false v ∙ f) (λ i r a. against d a) (plain-past w x)
  where
    against : {i : ℕ} {r : Text} → ((m ≡ u) × (between 7 8 j ≡ true)) ⊎ (length u < length m) → Past i r m → After i r j u
    against (inl (k, z)) (Past.right l) = After.right (let y = ap length k in omega arith)
    against {r = r} (inl (k, z)) (Past.tie y b) =
        let l = b.within in
        by-test (ltb (length m) (length r)) (λ e. let a = ltb-true _ _ e in let y = ap length k in After.right (omega arith))
        (λ e. let a = ltb-false _ _ e in After.here (suffix-same (suffix-refl r) b (omega arith) ∙ k) (inr (z, y)))
    against (inr k) (Past.right l) = After.right (omega arith)
    against (inr k) (Past.tie y b) = After.right (let l = b.within in omega arith)

prefixed-meets : (n : ℕ) (s m : Text) (j : ℕ) → InSingle true s m → closePrefixed m ≡ wrong j m → Meets (scan n s) j m
prefixed-meets n s m j (o, h, e, both (One.one q) w) f =
    string-meets n true s o m j h (in-single true o e) (λ v. single-pass true v ∙ f) (λ i r l. After.right l) (prefixed-past w)

triple-meets : (n : ℕ) (p : Bool) (s m : Text) (j : ℕ) → InTriple p s m → closeTriple p m ≡ wrong j m → Meets (scan n s) j m
triple-meets n p s m j (o, h, e, both {m = t} a w) f =
    string-meets n p s o m j h (in-triple p o e ∙ rw (← (times-three o t a).1)) (λ v. triple-pass p v ∙ f) (λ i r l. After.right l) (triple-past p w)

-- ---- the others

tick-scan : (n : ℕ) (s : Text) → apostrophe s ≡ true → scan n s ≡ scanCharSym s
tick-scan n s e = scan-by n s Start.charSym (starts-tick s (clear-head (oneOf "'") refl s e) e)

-- where a refusal is met the scanner gives it, or one that goes before it
pub met-meets : (n : ℕ) (s : Text) (j : ℕ) (q : Text) → Met s j q → Meets (scan n s) j q
met-meets n s j q (Met.m1 e f) =
    exactly (scan-by n s Start.cr (starts-cr s (clear-head (oneOf "\r") refl s e) e)
    ∙ (unfold scanReturn in (rw (or_parts (begins "\n" s) (begins "\r\n" s) f).1)))
met-meets n s j q (Met.m2 e f) = exactly (scan-by n s Start.block (starts-block s e) ∙ elim (block-stands s e) [
  | inl (r, k, b) ↦ absurd (f r b)
  | inr (k, b) ↦ k
])
met-meets n s j q (Met.m3 {c} {r} h k e) =
    exactly (rw h (scan-by n (c ∷ r) Start.other (starts-other (c ∷ r) (false_from_ne_true (starts (c ∷ r)) (λ f. e ((starts-declared c r).0 f))))))
met-meets n s j q (Met.m4 (both (One.one {c = b} {s = t} e) w)) = exactly
    (scan-by n s Start.backtick (starts-backtick s (clear-head (oneOf "`") refl s e) e) ∙ scan-backtick n b t
    ∙ rw (first t w, pass-run notBacktick w) (unfold afterRun in refl))
  where
    first : (t : Text) → Run notBacktick t [] → back t ≡ false
    first t Run.stop = refl
    first t (Run.next {c} {s} f v) = not-true (back (c ∷ s)) f
met-meets n s j q (Met.m5 (Times.more {c = a} e (Times.more {c = b} {s = r} f Times.done))) = exactly
    (scan-by n s Start.backtick (starts-backtick s (clear-head (oneOf "`") refl s e) e) ∙ scan-backtick n a (b ∷ r) ∙ rw f)
met-meets n s j q (Met.m6 long {r} h l) = exactly
    (let d = (text-found long s r h).0 in
    scan-by n s Start.number (starts-number s (clear-head isDigit (unfold isDigit in refl) s d) d) ∙ six-found long s r h l)
met-meets n s j q (Met.m7 false h) = plain-meets n s [] [] 7 h refl (single-empty false) (inl (refl, refl))
met-meets n s j q (Met.m7 true h) = prefixed-meets n s [] 7 h (single-empty true)
met-meets n s j q (Met.m8 false h e) = plain-meets n s q q 8 h (apart' "\n" ordinary refl q e) (single-newline false q e) (inl (refl, refl))
met-meets n s j q (Met.m8 true h e) = prefixed-meets n s q 8 h (single-newline true q e)
met-meets n s j q (Met.m9 p h) = triple-meets n p s [] 9 h (triple-empty p)
met-meets n s j q (Met.m10 p h e) = triple-meets n p s q 10 h (triple-slash p q e)
met-meets n s j q (Met.m11 (inl h) e) = prefixed-meets n s q 11 h (single-dollar q e)
met-meets n s j q (Met.m11 (inr h) e) = triple-meets n true s q 11 h (triple-dollar q e)
met-meets n s j q (Met.m12 {b} (inl h, e) w) =
    plain-meets n s b q j h (slash-stops b e) (plain-slash b e ∙ rw (bad-found b q j w).1) (inr (bad-strict w).1)
met-meets n s j q (Met.m12 {b} (inr (One.one {c = t} k), e) w) = exactly (tick-scan n s k ∙ scan-tick t b ∙ rw (e, (bad-found b q j w).1))
met-meets n s j q (Met.m15 (both (One.one {c = t} {s = m} e) w) f) = exactly
    (let h = slash-found m q w in
    tick-scan n s e ∙ scan-tick t m ∙ rw (h.0, h.2) (rw (← h.3) (rw f)))
met-meets n s j q (Met.m16 (One.one {c = t} e) k nc ns) =
    exactly (tick-scan n s e ∙ scan-tick t q ∙ rw (
      false_from_ne_true (charAhead q) (λ x. nc _ (char-stands t q e x)),
      k,
      false_from_ne_true (idStart q) (λ x. symbol _ (inl (ident-finds q x))),
      false_from_ne_true (freeSign q) (λ x. symbol _ (inr (inl (run1-finds freeSign q x refl)))),
      false_from_ne_true (semiAhead q) semi,
    ))
  where
    symbol : (r : Text) → Name q r → ⊥
    symbol r h = ns r (both (One.one e) h, nc, k)

    semi : semiAhead q ≡ true → ⊥
    semi x =
        let h = and-both (isAny ";" q) (not (opSign (drop 1 q))) x in
        symbol _ (inr (inr (one-drop (isAny ";") q h.0 refl, not-true (opSign (drop 1 q)) h.1)))

-- a refusal that is found has one number and one place
stuck-parts : {f : Found} {i j : ℕ} {q u : Text} → f ≡ Found.stuck i q → f ≡ Found.stuck j u → (i ≡ j) × (q ≡ u)
stuck-parts e h = (cc, cc)

-- at the script's end none is met
end-none : (j : ℕ) (q : Text) → j ≡ 3 → Met [] j q → ⊥
end-none j q z (Met.m3 h k e) = cc
end-none j q z (Met.m12 h (BadEscape.e12 o)) = omega arith
end-none j q z (Met.m12 h _) = omega arith
end-none j q z _ = omega arith

pub met-end : (j : ℕ) (q : Text) → Met [] j q → ⊥
met-end j q h = let M = met-meets 0 [] j q h in let x = stuck-parts M.found end-scan in by x.0 x.1 M.after
  where
    by : {i : ℕ} {r : Text} → i ≡ 3 → r ≡ [] → After i r j q → ⊥
    by x y (After.here f (inl e)) = end-none j q (e ∙ x) h
    by x y (After.here f (inr e)) = clash (sym (ap (between 12 14) x) ∙ e.1)
    by x y (After.right l) = let z = ap length y in omega arith

-- ---- the first

module _ (n : ℕ) (s : Text) (F : Fell s (scan n s)) where
  -- what the scanner gives, against what is met
  against : (j : ℕ) (u : Text) → Met s j u → After F.number F.rest j u
  against j u h =
      let M = met-meets n s j u h in
      let x = stuck-parts M.found F.found in
      rw (← x.0, ← x.1) M.after

  -- is the first that is met
  pub first-of : First s F.number F.rest
  first-of =
      record {
        met = F.met;
        left = λ i u h. elim (against i u h) [ After.here f o ↦ let z = ap length f in omega arith | After.right l ↦ omega arith ];
        before = λ i h. elim (against i F.rest h) [ After.here f o ↦ o | After.right l ↦ absurd (omega arith) ];
      }

  -- and no other is
  pub first-only : (j : ℕ) (u : Text) → First s j u → (F.number ≡ j) × (F.rest ≡ u)
  first-only j u h = elim (against j u h.met) [
    | After.here f o ↦ (tied o (h.before F.number (rw (← f) F.met)), f)
    | After.right l ↦ absurd (let z = h.left F.number F.rest F.met in omega arith)
  ]
    where
      tied : (j ≡ F.number) ⊎ GivesWay j F.number → (F.number ≡ j) ⊎ GivesWay F.number j → F.number ≡ j
      tied (inl e) o = sym e
      tied (inr f) (inl e) = e
      tied (inr f) (inr e) = absurd (omega (arith, in-between 7 8 j f.0, in-between 12 14 j e.1))
