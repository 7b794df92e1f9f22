-- Line ends and comments.
use Rattle.std.proofs.Common.{ℕ, zero, suc, ◌≤◌, ◌≡◌, refl, sym, ◌∙◌, ap, Bool, true, false, not, ◌⊎◌, inl, inr, [], ◌∷◌, length, drop, length-drop, eqb, arith}
use Rattle.token.proofs.theorems.Words.{none, some, Char, Text, afterRun, clash, and-both, text-laws, isAny, begins, startsWith, opensLine, opensBlock, closesBlock, endOfLine, Shape, One, Times, ◌then◌, both, LineComment, Block, Item, Items, GapKind, Found, scanLine, close, blockOr, scanBlock, no-some, headIs, member, or-false, not-false, code-is, by-test}
use Rattle.token.proofs.theorems.Runs.{run-after, one-drop, begins-any, pass-run}
use Rattle.token.proofs.theorems.Prefixed.{after-fails}
open text-laws use {run-stays}

-- ---- two characters

-- of given codes; `/*` is 47 and 42, `*/` is 42 and 47
abbrev pub Pair : ℕ → ℕ → Shape
Pair x y s r = (One (headIs (member (x ∷ []))) then One (headIs (member (y ∷ [])))) s r

pub pair-stands : (x y : ℕ) (s : Text) → startsWith (x ∷ y ∷ []) s ≡ true → Pair x y s (drop 2 s)
pair-stands x y [] e = clash e
pair-stands x y (a ∷ s) e =
    let h = and-both (eqb a.code x) (startsWith (y ∷ []) s) e in
    both (One.one (rw h.0)) (one-drop (headIs (member (y ∷ []))) s (sym (begins-any y s) ∙ h.1) refl)

pair-begins : (x y : ℕ) {s r : Text} → Pair x y s r → (startsWith (x ∷ y ∷ []) s ≡ true) × (r ≡ drop 2 s)
pair-begins x y (both (One.one {c = a} e) (One.one {c = b} f)) = (rw (sym (or-false (eqb a.code x)) ∙ e, sym (or-false (eqb b.code y)) ∙ f), refl)

-- ---- line comments

abbrev inLine : Text → Bool
inLine t = not (endOfLine t)

line-times : (s : Text) → opensLine s ≡ true → Times (isAny "/") 2 s (drop 2 s)
unfolding begins
line-times s e = two (pair-stands 47 47 s e)
  where
    two : {p : Text → Bool} {s r : Text} → (One p then One p) s r → Times p 2 s r
    two (both (One.one e) (One.one f)) = Times.more e (Times.more f Times.done)

times-line : (s t : Text) → Times (isAny "/") 2 s t → (opensLine s ≡ true) × (t ≡ drop 2 s)
unfolding begins
times-line s t (Times.more {c = a} e (Times.more {c = b} f Times.done)) = (rw (code-is 47 a.code e, code-is 47 b.code f), refl)

line-ends : (m t : Text) → afterRun inLine t ≡ m → endOfLine m ≡ true
line-ends [] t q = refl
line-ends (c ∷ m) t q = not-false (endOfLine (c ∷ m)) (after-fails inLine t c m q)

pub line-stands : (s : Text) → opensLine s ≡ true → (r : Text) × (scanLine s ≡ Found.gap GapKind.lineComment r) × LineComment s r
unfolding scanLine
line-stands s e = (afterRun inLine (drop 2 s), refl, (both (line-times s e) (run-after inLine (drop 2 s)), line-ends _ (drop 2 s) refl))

pub line-found : (s r : Text) → LineComment s r → (opensLine s ≡ true) × (scanLine s ≡ Found.gap GapKind.lineComment r)
unfolding scanLine
line-found s r (both {m = t} a w, e) =
    let x = times-line s t a in
    (x.0, ap (Found.gap GapKind.lineComment) (rw (← x.1) (pass-run inLine w ∙ run-stays inLine r (rw e))))

-- ---- block comments

opening : (s : Text) → opensBlock s ≡ true → Pair 47 42 s (drop 2 s)
unfolding begins
opening s e = pair-stands 47 42 s e

close-char : (d : ℕ) (c : Char) (s : Text) → opensBlock (c ∷ s) ≡ false → closesBlock (c ∷ s) ≡ false → close d 0 (c ∷ s) ≡ close d 0 s
unfolding close
close-char d c s o k = rw (k, o)

close-open : (d : ℕ) {s r : Text} → Pair 47 42 s r → close d 0 s ≡ close (suc d) 0 r
unfolding close begins
close-open d (both (One.one {c = a} e) (One.one {c = b} f)) = rw (code-is 47 a.code e, code-is 42 b.code f)

close-last : {s r : Text} → Pair 42 47 s r → close 0 0 s ≡ some r
unfolding close begins
close-last (both (One.one {c = a} e) (One.one {c = b} f)) = rw (code-is 42 a.code e, code-is 47 b.code f)

close-more : (d : ℕ) {s r : Text} → Pair 42 47 s r → close (suc d) 0 s ≡ close d 0 r
unfolding close begins
close-more d (both (One.one {c = a} e) (One.one {c = b} f)) = rw (code-is 42 a.code e, code-is 47 b.code f)

-- inside of open comments a block comment, an item and items are passed
mutual
  pass-block : {s r : Text} → Block s r → (d : ℕ) → close d 0 s ≡ close d 0 r
  pass-block (Block.block o i k) d = close-open d o ∙ pass-items i (suc d) ∙ close-more d k

  pass-item : {s r : Text} → Item s r → (d : ℕ) → close d 0 s ≡ close d 0 r
  pass-item (Item.comment b) d = pass-block b d
  pass-item (Item.char {c} {s} o k) d = close-char d c s o k

  pass-items : {s r : Text} → Items s r → (d : ℕ) → close d 0 s ≡ close d 0 r
  pass-items Items.done d = refl
  pass-items (Items.item i w) d = pass-item i d ∙ pass-items w d

block-close : {s r : Text} → Block s r → close 0 0 (drop 2 s) ≡ some r
unfolding begins
block-close (Block.block o i k) = ap (close 0 0) (sym (pair-begins 47 42 o).1) ∙ pass-items i 0 ∙ close-last k

pub block-found : (s r : Text) → Block s r → (opensBlock s ≡ true) × (scanBlock s ≡ Found.gap GapKind.blockComment r)
unfolding scanBlock begins
block-found s r (Block.block o i k) = ((pair-begins 47 42 o).0, ap (blockOr s) (block-close (Block.block o i k)))

-- the closings of (suc d) comments, one after another
data Closes : ℕ → Text → Text → Type 0 where
  last : {s m r : Text} → Items s m → Pair 42 47 m r → Closes 0 s r
  more : {d : ℕ} {s m t r : Text} → Items s m → Pair 42 47 m t → Closes d t r → Closes (suc d) s r

closes-item : {d : ℕ} {s m r : Text} → Item s m → Closes d m r → Closes d s r
closes-item i (Closes.last j k) = Closes.last (Items.item i j) k
closes-item i (Closes.more j k w) = Closes.more (Items.item i j) k w

closes-open : {d : ℕ} {s m r : Text} → Pair 47 42 s m → Closes (suc d) m r → Closes d s r
closes-open o (Closes.more i k w) = closes-item (Item.comment (Block.block o i k)) w

abbrev Outcome : ℕ → Text → Type 0
Outcome d s = (close d 0 s ≡ none) ⊎ ((r : Text) × (close d 0 s ≡ some r) × Closes d s r)

close-finds : (f d : ℕ) (s : Text) → length s ≤ f → Outcome d s
unfolding close begins
close-finds zero d (c ∷ s) l = absurd (omega arith)
close-finds (suc f) d (c ∷ s) l =
    by-test (closesBlock (c ∷ s)) (λ x. shut d (pair-stands 42 47 (c ∷ s) x) (λ e. close-finds f e (drop 1 s) (simp length-drop (omega arith)))) (λ x.
    by-test (opensBlock (c ∷ s)) (λ y. let o = opening (c ∷ s) y in
    passed (close-open d o) (λ r w. closes-open o w) (close-finds f (suc d) (drop 1 s) (simp length-drop (omega arith))))
    (λ y. passed (close-char d c s y x) (λ r w. closes-item (Item.char y x) w) (close-finds f d s (omega arith))))
  where
    passed : {d e : ℕ} {s t : Text} → close d 0 s ≡ close e 0 t → ((r : Text) → Closes e t r → Closes d s r) → Outcome e t → Outcome d s
    passed p f (inl n) = inl (p ∙ n)
    passed p f (inr (r, q, w)) = inr (r, p ∙ q, f r w)

    shut : (d : ℕ) {s t : Text} → Pair 42 47 s t → ((e : ℕ) → Outcome e t) → Outcome d s
    shut zero {t} k below = inr (t, close-last k, Closes.last Items.done k)
    shut (suc d) k below = passed (close-more d k) (λ r w. Closes.more Items.done k w) (below d)
close-finds _ d [] l = inl refl

pub block-stands : (s : Text) → opensBlock s ≡ true
    → ((r : Text) × (scanBlock s ≡ Found.gap GapKind.blockComment r) × Block s r) ⊎ ((scanBlock s ≡ Found.stuck 2 s) × ((r : Text) → Block s r → ⊥))
unfolding scanBlock
block-stands s e = elim (close-finds (length (drop 2 s)) 0 (drop 2 s) (omega arith)) [
  | inl n ↦ inr (ap (blockOr s) n, λ r h. no-some (sym n ∙ block-close h))
  | inr (r, q, w) ↦ inl (r, ap (blockOr s) q, block w)
]
  where
    block : {r : Text} → Closes 0 (drop 2 s) r → Block s r
    block (Closes.last i k) = Block.block (opening s e) i k
