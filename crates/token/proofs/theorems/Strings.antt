-- Strings, from their opening on: what the function finds, with refusals 7 to 14.
use Rattle.std.proofs.Common.{ℕ, zero, suc, ◌≤◌, ◌≡◌, refl, sym, ◌∙◌, ap, Bool, true, false, not, ◌&&◌, ◌||◌, ◌⊎◌, inl, inr, [], ◌∷◌, length, drop, length-drop, eqb, arith, replicate}
use Rattle.token.proofs.theorems.Words.{not-true, codes, Char, Text, afterRun, clash, and-both, isAny, begins, startsWith, quote, threeQuotes, backslash, dollarBrace, One, Run, Times, both, allowed, singleChar, Single, tripleChar, Body, WithinSingle, Opens, Met, unbroken, broken, afterSlash, Closing, closed, wrong, closePlain, closePrefixed, closeTriple, closeString, by-test, code-is, InSingle, InTriple, begun-is, neither}
use Rattle.token.proofs.theorems.Runs.{after-next, run-after, after-least, one-drop, one-found, run-found}
use Rattle.token.proofs.theorems.Escapes.{slash-found, slash-finds, Bad}

-- ---- single strings

-- by what is passed
plain-skip : (k : ℕ) (s : Text) → closePlain k s ≡ closePlain 0 (drop k s)
unfolding closePlain
plain-skip zero s = refl
plain-skip (suc k) [] = refl
plain-skip (suc k) (c ∷ s) = plain-skip k s

abbrev pub closeOne : Bool → Text → Closing
closeOne true s = closePrefixed s
closeOne false s = closePlain 0 s

-- what the test of content says
single-parts : (p : Bool) (s : Text) → singleChar p s ≡ true
    → (quote s ≡ false) × (isAny "\n" s ≡ false) × (p || not (backslash s) ≡ true) × (p && dollarBrace s ≡ false)
single-parts true s e = let h = neither (quote s) (isAny "\n" s) (not (dollarBrace s)) e in (h.0, h.1, refl, not-true (dollarBrace s) h.2)
single-parts false s e = let h = neither (quote s) (isAny "\n" s) (not (backslash s)) e in (h.0, h.1, h.2, refl)

pub single-char : (p : Bool) (c : Char) (s : Text) → singleChar p (c ∷ s) ≡ true → closeOne p (c ∷ s) ≡ closeOne p s
unfolding closePlain closePrefixed
single-char true c s e = let h = single-parts true (c ∷ s) e in rw (h.0, h.1, h.3)
single-char false c s e = let h = single-parts false (c ∷ s) e in rw (h.0, h.1, not-true (backslash (c ∷ s)) h.2)

pub plain-slash : (s : Text) → backslash s ≡ true → closePlain 0 s ≡ elim (afterSlash (drop 1 s)) [ unbroken n ↦ closePlain n (drop 1 s) | broken j q ↦ wrong j q ]
unfolding closePlain begins
plain-slash [] e = clash e
plain-slash (c ∷ s) e = rw (begun-is 92 c.code _ e)

pub single-pass : (p : Bool) {s m : Text} → Single p s m → closeOne p s ≡ closeOne p m
single-pass p Single.done = refl
single-pass p (Single.char {c} {s} e w) = single-char p c s e ∙ single-pass p w
single-pass false (Single.escape {s} {m} e w) =
    let h = slash-found s m e in
    plain-slash s h.0 ∙ rw h.2 (plain-skip h.1 (drop 1 s) ∙ rw (← h.3) (single-pass false w))

-- where a single string stops
pub data SingleEnd : Bool → Text → Type 0 where
  closes : (p : Bool) {m : Text} → quote m ≡ true → SingleEnd p m
  ends : (p : Bool) → SingleEnd p []
  newline : (p : Bool) {m : Text} → isAny "\n" m ≡ true → SingleEnd p m
  slash : {m : Text} → backslash m ≡ true → Bad m → SingleEnd false m
  dollar : {m : Text} → dollarBrace m ≡ true → SingleEnd true m

-- each text has such an end; f bounds its length
pub single-ends : (p : Bool) (f : ℕ) (s : Text) → length s ≤ f → (m : Text) × Single p s m × SingleEnd p m
single-ends p zero (c ∷ s) l = absurd (omega arith)
single-ends p (suc f) (c ∷ s) l =
    by-test (quote (c ∷ s)) (λ x. (c ∷ s, Single.done, SingleEnd.closes p x)) (λ x.
    by-test (isAny "\n" (c ∷ s)) (λ y. (c ∷ s, Single.done, SingleEnd.newline p y)) (λ y.
    on p x y (λ t h. single-ends p f t h)))
  where
    on : (p : Bool) → quote (c ∷ s) ≡ false → isAny "\n" (c ∷ s) ≡ false → ((t : Text) → length t ≤ f → (m : Text) × Single p t m × SingleEnd p m)
        → (m : Text) × Single p (c ∷ s) m × SingleEnd p m
    on true x y next =
        by-test (dollarBrace (c ∷ s)) (λ z. (c ∷ s, Single.done, SingleEnd.dollar z))
        (λ z. let h = next s (omega arith) in (h.0, Single.char (rw (x, y, z)) h.1, h.2))
    on false x y next =
        by-test (backslash (c ∷ s)) (λ z. elim (slash-finds (c ∷ s) z) [
          | inl g ↦ let h = next (drop g.count s) (simp length-drop (omega arith)) in (h.0, Single.escape g.escape h.1, h.2)
          | inr b ↦ (c ∷ s, Single.done, SingleEnd.slash z b)
        ]) (λ z. let h = next s (omega arith) in (h.0, Single.char (rw (x, y, z)) h.1, h.2))
single-ends p _ [] l = ([], Single.done, SingleEnd.ends p)

-- what the function says at such an end
pub single-close : (p : Bool) (m : Text) → quote m ≡ true → closeOne p m ≡ closed (drop 1 m)
unfolding closePlain closePrefixed begins
single-close p [] e = clash e
single-close true (c ∷ s) e = rw e
single-close false (c ∷ s) e = rw e

pub single-empty : (p : Bool) → closeOne p [] ≡ wrong 7 []
unfolding closePlain closePrefixed
single-empty true = refl
single-empty false = refl

pub single-newline : (p : Bool) (m : Text) → isAny "\n" m ≡ true → closeOne p m ≡ wrong 8 m
unfolding closePlain closePrefixed begins
single-newline p [] e = clash e
single-newline true (c ∷ s) e = rw (code-is 10 c.code e)
single-newline false (c ∷ s) e = rw (code-is 10 c.code e)

pub single-slash : (m : Text) → backslash m ≡ true → (b : Bad m) → closePlain 0 m ≡ wrong b.number b.rest
single-slash m e b = plain-slash m e ∙ rw b.found

pub single-dollar : (m : Text) → dollarBrace m ≡ true → closePrefixed m ≡ wrong 11 m
unfolding closePrefixed begins
single-dollar [] e = clash e
single-dollar (c ∷ s) e = rw (begun-is 36 c.code _ e, (and-both (eqb c.code 36) (startsWith (codes "{") s) e).1)

-- ---- triples

-- the function's own test for what is allowed
pub allowed-is : (p : Bool) (s : Text) → allowed p s ≡ not (p && dollarBrace s)
allowed-is true s = refl
allowed-is false s = refl

pub triple-char : (p : Bool) (c : Char) (s : Text) → tripleChar p (c ∷ s) ≡ true → closeTriple p (c ∷ s) ≡ closeTriple p s
unfolding closeTriple
triple-char p c s e =
    let h = neither (threeQuotes (c ∷ s)) (backslash (c ∷ s)) (allowed p (c ∷ s)) e in
    rw (h.0, h.1, not-true (p && dollarBrace (c ∷ s)) (sym (allowed-is p (c ∷ s)) ∙ h.2))

pub triple-pass : (p : Bool) {s m : Text} → Run (tripleChar p) s m → closeTriple p s ≡ closeTriple p m
triple-pass p Run.stop = refl
triple-pass p (Run.next {c} {s} e w) = triple-char p c s e ∙ triple-pass p w

pub data TripleEnd : Bool → Text → Type 0 where
  closes : (p : Bool) {m : Text} → threeQuotes m ≡ true → TripleEnd p m
  ends : (p : Bool) → TripleEnd p []
  slash : (p : Bool) {m : Text} → backslash m ≡ true → TripleEnd p m
  dollar : {m : Text} → dollarBrace m ≡ true → TripleEnd true m

pub triple-ends : (p : Bool) (s : Text) → (m : Text) × Run (tripleChar p) s m × TripleEnd p m
triple-ends p [] = ([], Run.stop, TripleEnd.ends p)
triple-ends p (c ∷ s) =
    by-test (threeQuotes (c ∷ s)) (λ x. (c ∷ s, Run.stop, TripleEnd.closes p x)) (λ x.
    by-test (backslash (c ∷ s)) (λ y. (c ∷ s, Run.stop, TripleEnd.slash p y)) (λ y.
    by-test (p && dollarBrace (c ∷ s)) (λ z. (c ∷ s, Run.stop, dollar p z)) (λ z.
    let h = triple-ends p s in (h.0, Run.next {c = c} {s = s} (rw (x, y) (allowed-is p (c ∷ s) ∙ ap not z)) h.1, h.2))))
  where
    dollar : (p : Bool) → p && dollarBrace (c ∷ s) ≡ true → TripleEnd p (c ∷ s)
    dollar true z = TripleEnd.dollar z
    dollar false z = clash z

pub triple-close : (p : Bool) (m : Text) → threeQuotes m ≡ true → closeTriple p m ≡ closed (afterRun quote m)
unfolding closeTriple begins
triple-close p [] e = clash e
triple-close p (c ∷ s) e = rw e

pub triple-empty : (p : Bool) → closeTriple p [] ≡ wrong 9 []
unfolding closeTriple
triple-empty p = refl

pub triple-slash : (p : Bool) (m : Text) → backslash m ≡ true → closeTriple p m ≡ wrong 10 m
unfolding closeTriple begins
triple-slash p [] e = clash e
triple-slash p (c ∷ s) e = rw (begun-is 92 c.code _ e)

pub triple-dollar : (m : Text) → dollarBrace m ≡ true → closeTriple true m ≡ wrong 11 m
unfolding closeTriple begins
triple-dollar [] e = clash e
triple-dollar (c ∷ s) e = rw (begun-is 36 c.code _ e, (and-both (eqb c.code 36) (startsWith (codes "{") s) e).1)

pub triple-barred : (p : Bool) (m : Text) → p && dollarBrace m ≡ true → closeTriple p m ≡ wrong 11 m
triple-barred true m e = triple-dollar m e
triple-barred false m e = clash e

-- quotes, one after another
quotes-stand : (n : ℕ) (m : Text) → startsWith (replicate n 34) m ≡ true → Times quote n m (drop n m)
unfolding begins
quotes-stand zero m e = Times.done
quotes-stand (suc n) [] e = clash e
quotes-stand (suc n) (c ∷ s) e =
    let h = and-both (eqb c.code 34) (startsWith (replicate n 34) s) e in Times.more {c = c} {s = s} (rw h.0) (quotes-stand n s h.1)

quotes-begin : (n : ℕ) {m r : Text} → Times quote n m r → (startsWith (replicate n 34) m ≡ true) × (r ≡ drop n m)
unfolding begins
quotes-begin zero Times.done = (refl, refl)
quotes-begin (suc n) (Times.more {c} e w) = let h = quotes-begin n w in (rw (begun-is 34 c.code _ e) h.0, h.1)

three-quote : (s : Text) → threeQuotes s ≡ true → quote s ≡ true
unfolding begins
three-quote [] e = clash e
three-quote (c ∷ s) e = rw (begun-is 34 c.code _ e)

three-times : (m : Text) → threeQuotes m ≡ true → Times quote 3 m (drop 3 m)
unfolding begins
three-times m e = quotes-stand 3 m e

pub times-three : (m r : Text) → Times quote 3 m r → (threeQuotes m ≡ true) × (r ≡ drop 3 m)
unfolding begins
times-three m r h = quotes-begin 3 h

times-after : {m r : Text} (n : ℕ) → Times quote n m r → afterRun quote m ≡ afterRun quote r
times-after zero Times.done = refl
times-after (suc n) (Times.more {c} {s} e w) = after-next quote c s e ∙ times-after n w

-- ---- from the opening on

pub in-single : (p : Bool) (o : Text) → threeQuotes o ≡ false → closeString p o ≡ closeOne p (drop 1 o)
unfolding closeString
in-single true o e = rw e
in-single false o e = rw e

pub in-triple : (p : Bool) (o : Text) → threeQuotes o ≡ true → closeString p o ≡ closeTriple p (drop 3 o)
unfolding closeString
in-triple p o e = rw e

-- a string that stands is what the function finds
pub body-found : (p : Bool) (o r : Text) → Body p o r → (quote o ≡ true) × (closeString p o ≡ closed r)
body-found p o r (Body.single e (both (One.one {s} q) (both {m} w c))) =
    let x = one-found quote m r c in
    (q, in-single p o e ∙ single-pass p w ∙ single-close p m x.0 ∙ ap closed (sym x.1))
body-found p o r (Body.triple e (both {m = t} a (both {m = u} w (both {m = v} c l)))) =
    let x = times-three o t a in
    let y = times-three u v c in
    (three-quote o e, in-triple p o e ∙ rw (← x.1) (triple-pass p w ∙ triple-close p u y.0 ∙ ap closed (times-after 3 c ∙ sym (run-found quote l))))

-- content is reached inside
single-within : {p : Bool} {s m : Text} → Single p s m → WithinSingle p s m
single-within Single.done = WithinSingle.here
single-within (Single.char {p} {c} {s} e w) = let h = single-parts p (c ∷ s) e in WithinSingle.char h.0 h.2 (single-within w)
single-within (Single.escape e w) = WithinSingle.escape e (single-within w)

triple-within : (p : Bool) {s m : Text} → Run (tripleChar p) s m → Run (λ t. not (threeQuotes t)) s m
triple-within p Run.stop = Run.stop
triple-within p (Run.next {c} {s} e w) =
    let h = neither (threeQuotes (c ∷ s)) (backslash (c ∷ s)) (allowed p (c ∷ s)) e in Run.next (rw h.0) (triple-within p w)

-- what the function finds stands, or its refusal is met
pub record Closed (p : Bool) (o : Text) : Type 0 where
  pub rest : Text
  pub found : closeString p o ≡ closed rest
  pub body : Body p o rest

pub record Wrong (p : Bool) (o : Text) : Type 0 where
  pub number : ℕ
  pub rest : Text
  pub found : closeString p o ≡ wrong number rest
  pub met : (s : Text) → Opens p s o → Met s number rest

wrong-at : {p : Bool} {o q : Text} {j : ℕ} → closeString p o ≡ wrong j q → ((s : Text) → Opens p s o → Met s j q) → Closed p o ⊎ Wrong p o
wrong-at {q} {j} f m = inr (record { number = j; rest = q; found = f; met = m })

closed-at : {p : Bool} {o r : Text} → closeString p o ≡ closed r → Body p o r → Closed p o ⊎ Wrong p o
closed-at {r} f b = inl (record { rest = r; found = f; body = b })

single-body : (p : Bool) (c : Char) (t : Text) → quote (c ∷ t) ≡ true → threeQuotes (c ∷ t) ≡ false → Closed p (c ∷ t) ⊎ Wrong p (c ∷ t)
single-body p c t q e = let h = single-ends p (length t) t (omega arith) in go p h.0 e (in-single p (c ∷ t) e ∙ single-pass p h.1) h.1 h.2
  where
    within : (p : Bool) (s : Text) {m : Text} → Opens p s (c ∷ t) → Single p t m → InSingle p s m
    within p s o w = (c ∷ t, o, e, both (One.one q) (single-within w))

    go : (p : Bool) (m : Text) → threeQuotes (c ∷ t) ≡ false → closeString p (c ∷ t) ≡ closeOne p m → Single p t m → SingleEnd p m
        → Closed p (c ∷ t) ⊎ Wrong p (c ∷ t)
    go p m e i w (SingleEnd.closes _ x) =
        closed-at (i ∙ single-close p m x) (Body.single e (both (One.one q) (both w (one-drop quote m x (unfold begins in refl)))))
    go p m e i w (SingleEnd.ends _) = wrong-at (i ∙ single-empty p) (λ s o. Met.m7 p (within p s o w))
    go p m e i w (SingleEnd.newline _ x) = wrong-at (i ∙ single-newline p m x) (λ s o. Met.m8 p (within p s o w) x)
    go false m e i w (SingleEnd.slash x b) = wrong-at (i ∙ single-slash m x b) (λ s o. Met.m12 (inl (within false s o w), x) b.wrong)
    go true m e i w (SingleEnd.dollar x) = wrong-at (i ∙ single-dollar m x) (λ s o. Met.m11 (inl (within true s o w)) x)

triple-body : (p : Bool) (o : Text) → threeQuotes o ≡ true → Closed p o ⊎ Wrong p o
triple-body p o e = let h = triple-ends p (drop 3 o) in go p h.0 (in-triple p o e ∙ triple-pass p h.1) h.1 h.2
  where
    within : (p : Bool) (s : Text) {m : Text} → Opens p s o → Run (tripleChar p) (drop 3 o) m → InTriple p s m
    within p s k w = (o, k, e, both (three-times o e) (triple-within p w))

    go : (p : Bool) (m : Text) → closeString p o ≡ closeTriple p m → Run (tripleChar p) (drop 3 o) m → TripleEnd p m → Closed p o ⊎ Wrong p o
    go p m i w (TripleEnd.closes _ x) =
        let c = three-times m x in
        closed-at (i ∙ triple-close p m x ∙ ap closed (times-after 3 c))
        (Body.triple e (both (three-times o e) (both w (both c (run-after quote (drop 3 m), λ q k. after-least quote k)))))
    go p m i w (TripleEnd.ends _) = wrong-at (i ∙ triple-empty p) (λ s k. Met.m9 p (within p s k w))
    go p m i w (TripleEnd.slash _ x) = wrong-at (i ∙ triple-slash p m x) (λ s k. Met.m10 p (within p s k w) x)
    go true m i w (TripleEnd.dollar x) = wrong-at (i ∙ triple-dollar m x) (λ s k. Met.m11 (inr (within true s k w)) x)

pub body-finds : (p : Bool) (o : Text) → quote o ≡ true → Closed p o ⊎ Wrong p o
unfolding begins
body-finds p [] q = clash q
body-finds p (c ∷ t) q = by-test (threeQuotes (c ∷ t)) (λ e. triple-body p (c ∷ t) e) (λ e. single-body p c t q e)
