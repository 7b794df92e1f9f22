-- Strings as the code walks them: byte by byte over what stands for itself, then one step.
use Rattle.token.proofs.cursor.Words.{IfOk, IfErr, ℕ, zero, suc, ◌+◌, ◌-◌, ◌≤◌, ◌<◌, ◌≡◌, refl, sym, ◌∙◌, ap, Bool, true, false, not, ◌&&◌, ◌||◌, inl, List, [], ◌∷◌, length, drop, get_or, eqb, arith, ne_eqb, eq-eqb, eqb-true, oneOf, Char, Text, from, place, headIs, charEnd, afterRun, end, clash, Suffix, text-laws, isAny, begins, quote, threeQuotes, backslash, dollarBrace, opensComment, Kind, TokenType, isComment, singleChar, Single, tripleChar, Stands, HasShape, TokenShape, unbroken, broken, afterSlash, Closing, closed, wrong, closePlain, closeTriple, closeString, plainContent, scanString, prefixedOf, cursorAt, pieceOf, tokenTo, endedOf, escEnd, escapeOf, closeSingle, isOrdinary, dollarOf, singleItem, tripleItem, EndAnswer, endAt, Cursor, TokenKind, refusedFor, refusalBy, Refused, Ok, Err, cases_Bool, cases_lt, cond, inr, or-false, cases_eq}
use Rattle.token.proofs.cursor.Wide.{byte-by-byte}
use Rattle.token.specs.code.ByteClass as bytes
use Rattle.token.specs.declared.kinds.TokenKind.TheVariants as tk
use Rattle.token.proofs.Base.{zero-one}
use Rattle.token.proofs.byte_class.Laws.{class-ordinary}
use Rattle.token.proofs.cursor.Bytes.{inside, any-byte, past, starts-byte, two-bytes, one-byte}
use Rattle.token.proofs.theorems.Runs.{after-next, after-stop}
use Rattle.token.proofs.cursor.Runs.{run-to}
use Rattle.token.proofs.theorems.Escapes.{slash-finds}
use Rattle.token.proofs.theorems.Shorter.{Strict, stands-strict}
use Rattle.token.proofs.theorems.Strings as strings
use Rattle.token.specs.declared.refusal.Refusal.TheVariants as refusal
open text-laws use {at-ascii, at-end, at-char, ascii-next, place-from, next-on, run-next, run-stays, wide-code}

-- ---- places

-- where what is left of the text from i on begins
pub placed : (k : ℕ) (s : List ℕ) (i : ℕ) → i ≤ length s
    → (i ≤ place (length s) (drop k (from s i))) × (place (length s) (drop k (from s i)) ≤ length s) × (from s (place (length s) (drop k (from s i))) ≡ drop k (from s i))
placed zero s i h = rw (place-from s i h) (omega arith, h, refl)
placed (suc k) s i h = elim (cases_lt i (length s)) [
  | inl l ↦ let n = next-on s i l in let w = placed k s (charEnd s i) n.1 in rw (at-char s i l) (omega (arith, w.0, n.0), w.1, w.2)
  | inr l ↦ rw (at-end s i l) (h, omega arith, at-end s (length s) (omega arith))
]

pub reached : (s : List ℕ) (i : ℕ) (r : Text) → i ≤ length s → Suffix r (from s i) → (i ≤ place (length s) r) × (place (length s) r ≤ length s) × (from s (place (length s) r) ≡ r)
reached s i r h x = rw x.rest-is (placed (length (from s i) - length r) s i h)

-- ---- tests at a place

module _ (s : List ℕ) (i : ℕ) where
  pub quote-byte : quote (from s i) ≡ eqb (get_or s i 0) 0x22
  unfolding begins
  quote-byte = one-byte 0x22 (omega arith) (omega arith) s i

  pub slash-byte : backslash (from s i) ≡ eqb (get_or s i 0) 0x5C
  unfolding begins
  slash-byte = one-byte 0x5C (omega arith) (omega arith) s i

  pub brace-byte : dollarBrace (from s i) ≡ eqb (get_or s i 0) 0x24 && eqb (get_or s (i + 1) 0) 0x7B
  unfolding begins
  brace-byte = two-bytes 0x24 0x7B (omega arith) (omega arith) (omega arith) (omega arith) s i

  pub three-byte : threeQuotes (from s i) ≡ eqb (get_or s i 0) 0x22 && (eqb (get_or s (i + 1) 0) 0x22 && eqb (get_or s (i + 2) 0) 0x22)
  unfolding begins
  three-byte = let two = two-bytes 0x22 0x22 (omega arith) (omega arith) (omega arith) (omega arith) s (i + 1) in grind (arith, starts-byte 0x22 (0x22 ∷ 0x22 ∷ []) (omega arith) (omega arith) s i)

pub no-quote : (s : List ℕ) (i : ℕ) → (get_or s i 0 ≡ 0x22 → ⊥) → quote (from s i) ≡ false
no-quote s i n = quote-byte s i ∙ ne_eqb (get_or s i 0) 0x22 n

-- a quote stands at i
pub quote-in : (s : List ℕ) (i : ℕ) → quote (from s i) ≡ true → (i < length s) × (get_or s i 0 ≡ 0x22)
quote-in s i e = grind (arith, quote-byte, inside)

-- three of them, one by one
pub three-each : (s : List ℕ) (i : ℕ) → threeQuotes (from s i) ≡ true → (get_or s i 0 ≡ 0x22) × (get_or s (i + 1) 0 ≡ 0x22) × (get_or s (i + 2) 0 ≡ 0x22)
three-each s i e = grind (arith, three-byte)

pub three-in : (s : List ℕ) (i : ℕ) → threeQuotes (from s i) ≡ true → (i + 2 < length s) × (drop 3 (from s i) ≡ from s (i + 3))
three-in s i e = let b = three-each s i e in grind (arith, inside, at-ascii)

pub ruleset three_here = (three-byte)

-- behind a quote two more tell
pub three-behind : (s : List ℕ) (i : ℕ) → quote (from s i) ≡ true → threeQuotes (from s i) ≡ eqb (get_or s (i + 1) 0) 0x22 && eqb (get_or s (i + 1 + 1) 0) 0x22
three-behind s i e =
    let z : i + 2 ≡ i + 1 + 1 = omega arith in
    three-byte s i ∙ ap (λ x. x && (eqb (get_or s (i + 1) 0) 0x22 && eqb (get_or s (i + 2) 0) 0x22)) (eq-eqb (get_or s i 0) 0x22 (quote-in s i e).1)
    ∙ ap (λ j. eqb (get_or s (i + 1) 0) 0x22 && eqb (get_or s j 0) 0x22) z

-- a `$`
pub dollar_in : (s : List ℕ) (i : ℕ) → get_or s i 0 ≡ 0x24 → isAny "$" (from s i) ≡ true
dollar_in s i b = any-byte "$" refl s i ∙ ap (oneOf "$") b

module _ (s : List ℕ) (i : ℕ) (h : i < length s) (e : isAny "$" (from s i) ≡ true) where
  dollar-is : get_or s i 0 ≡ 0x24
  dollar-is = eqb-true (get_or s i 0) 0x24 (sym (or-false _) ∙ sym (any-byte "$" refl s i) ∙ e)

  pub dollar-by : dollarOf (length s) (from s i) ≡ cond (eqb (get_or s (i + 1) 0) 0x7B) (refusedFor refusal.DollarBrace i) (endAt (cursorAt (i + 1)))
  unfolding dollarOf
  dollar-by = rw (brace-byte s i, dollar-is, place-from s i (omega arith), past s i h (omega (arith, dollar-is)), place-from s (i + 1) (omega arith))

pub ruleset dollars = (dollar-by)

-- ---- all quotes that stand there

module _ (s : List ℕ) (i : ℕ) where
  pub quotes-next : i < length s → get_or s i 0 ≡ 0x22 → afterRun quote (from s (i + 1)) ≡ afterRun quote (from s i)
  quotes-next h b = rw (ascii-next s i h (omega (arith, b))) at (run-next quote s i h (quote-byte s i ∙ eq-eqb (get_or s i 0) 0x22 b))

-- where the bytes end that are quotes, the run does
pub quotes-to : (s : List ℕ) (i r : ℕ) → i ≤ length s → r ≡ end (λ b. eqb b 0x22 || eqb b 0x22) s i → (i ≤ r) × (r ≤ length s) × (from s r ≡ afterRun quote (from s i))
quotes-to s = run-to quote s (λ b. eqb b 0x22 || eqb b 0x22) (λ k h e. quotes-next s k h (grind arith)) (λ k h e. sym (run-stays quote (from s k) (no-quote s k (grind arith))))

-- ---- what stands for itself

wide-ordinary : (c : ℕ) → 0x80 ≤ c → isOrdinary c ≡ true
unfolding isOrdinary
wide-ordinary c h = grind arith

pub ordinary-byte : (s : List ℕ) (i : ℕ) → i < length s → headIs isOrdinary (from s i) ≡ isOrdinary (get_or s i 0)
ordinary-byte s i h = grind (arith, at-ascii, at-char, wide-code, wide-ordinary)

-- a walk that passes a character where the test holds, and the test holds of ordinary ones
pub record Walk {A : Type 0} (f : Text → A) (test : Text → Bool) : Type 0 where
  pub pass : (c : Char) (u : Text) → test (c ∷ u) ≡ true → f (c ∷ u) ≡ f u
  pub plain : (c : Char) (u : Text) → isOrdinary c.code ≡ true → test (c ∷ u) ≡ true

module _ {A : Type 0} (f : Text → A) (test : Text → Bool) (w : Walk f test) where
  -- past one byte
  pub walk-on : (s : List ℕ) (i : ℕ) → i < length s → test (from s i) ≡ true → f (from s (i + 1)) ≡ f (from s i)
  walk-on s i h t = elim (cases_lt (get_or s i 0) 0x80) [
    | inl l ↦ let q = at-ascii s i h l in sym (ap f q ∙ w.pass _ (from s (i + 1)) (sym (ap test q) ∙ t))
    | inr l ↦ byte-by-byte s f (λ c u k. w.pass c u (w.plain c u (wide-ordinary c.code k))) i h l
  ]

  -- past all ordinary characters
  pub walk-run : (t : Text) → f (afterRun (headIs isOrdinary) t) ≡ f t
  unfolding afterRun
  walk-run [] = refl
  walk-run (c ∷ t) = elim (cases_Bool (isOrdinary c.code)) [
    | inl e ↦ ap f (after-next (headIs isOrdinary) c t e) ∙ walk-run t ∙ sym (w.pass c t (w.plain c t e))
    | inr e ↦ ap f (after-stop (headIs isOrdinary) c t e)
  ]

  -- what the skipping of ordinary characters leaves
  pub walk-skip : (s : List ℕ) (i e : ℕ) → from s e ≡ afterRun (headIs isOrdinary) (from s i) → f (from s e) ≡ f (from s i)
  walk-skip s i e q = ap f q ∙ walk-run (from s i)

-- the set of a run of ordinary bytes
abbrev pub noMark : ℕ → Bool
noMark b = not (((eqb b 0x0A || eqb b 0x22) || eqb b 0x24) || eqb b 0x5C)

-- where no ordinary byte stands the run is empty
pub skip_none : (s : List ℕ) (i : ℕ) → isOrdinary (get_or s i 0) ≡ false → from s i ≡ afterRun (headIs isOrdinary) (from s i)
skip_none s i e = let r = run-stays (headIs isOrdinary) (from s i) in grind (arith, ordinary-byte, at-end)

pub skip_next : (s : List ℕ) (i : ℕ) → i < length s → isOrdinary (get_or s i 0) ≡ true → afterRun (headIs isOrdinary) (from s (i + 1)) ≡ afterRun (headIs isOrdinary) (from s i)
skip_next s i h e =
    walk-on (afterRun (headIs isOrdinary)) (headIs isOrdinary) (record { pass = after-next (headIs isOrdinary); plain = λ c u e. e }) s i h (ordinary-byte s i h ∙ e)

-- where the ordinary bytes end, the run does
pub ordinary-to : (s : List ℕ) (i r : ℕ) → i ≤ length s → r ≡ end noMark s i → (i ≤ r) × (r ≤ length s) × (from s r ≡ afterRun (headIs isOrdinary) (from s i))
unfolding isOrdinary
ordinary-to s = run-to (headIs isOrdinary) s noMark (λ k h e. skip_next s k h (grind arith)) (λ k h e. skip_none s k (grind arith))

pub ruleset skip_run = (skip_none, skip_next)

-- a walk past an ordinary byte
pub ordinary-on : {A : Type 0} (f : Text → A) (test : Text → Bool) → Walk f test → (s : List ℕ) (i : ℕ) → i < length s → isOrdinary (get_or s i 0) ≡ true → f (from s (i + 1)) ≡ f (from s i)
ordinary-on f test w s i h e = sym (walk-run f test w (from s (i + 1))) ∙ ap f (skip_next s i h e) ∙ walk-run f test w (from s i)

-- what the class of a byte says
pub told-ordinary : (b : ℕ) {e : ℕ} {r : Bool} → e ≡ bytes.classOf b → r ≡ bytes.isOrdinary e → isOrdinary b ≡ r
unfolding isOrdinary
told-ordinary b q w = sym (class-ordinary b) ∙ ap bytes.isOrdinary (sym q) ∙ sym w

-- ---- one step

-- from the place i to a later place from which the walk finds the same, or to what the walk refuses
unfoldable pub Onward : List ℕ → (Text → Closing) → ℕ → EndAnswer → Type 0
Onward s walk i (Ok c) = (i < c.at) × (c.at ≤ length s) × (walk (from s c.at) ≡ walk (from s i))
Onward s walk i (Err e) = Err e ≡ endedOf (length s) (walk (from s i))

-- ---- single strings

pub single-same : (p : Bool) (t : Text) → closeSingle p t ≡ strings.closeOne p t
unfolding closeSingle
single-same p t = grind arith

pub singles : (p : Bool) → Walk (closeSingle p) (singleChar p)
unfolding begins isOrdinary
singles p = record { pass = λ c u e. single-same p (c ∷ u) ∙ strings.single-char p c u e ∙ sym (single-same p u); plain = λ c u e. grind arith }

-- the character at i, by its byte and the next one
module _ (s : List ℕ) (i : ℕ) (h : i < length s) (no-quote : get_or s i 0 ≡ 0x22 → ⊥) where
  single-by : (p : Bool) → (p ≡ false → get_or s i 0 ≡ 0x5C → ⊥) → closeSingle p (from s i) ≡ cond (eqb (get_or s i 0) 0x0A) (wrong 8 (from s i))
      (cond (p && (eqb (get_or s i 0) 0x24 && eqb (get_or s (i + 1) 0) 0x7B)) (wrong 11 (from s i)) (closeSingle p (from s (i + 1))))
  single-by p m =
      let w = walk-on (closeSingle p) (singleChar p) (singles p) s i h in
      let e = single-same p (from s i) in
      let a = strings.single-newline p (from s i) in
      let b = strings.single-dollar (from s i) in
      let c = any-byte "\n" refl s i in
      grind (arith, quote-byte, slash-byte, brace-byte)

  -- where no escape begins, the step is by them too
  item-by : (p : Bool) → (p ≡ false → get_or s i 0 ≡ 0x5C → ⊥) → singleItem p s i ≡ cond (eqb (get_or s i 0) 0x0A) (refusedFor refusal.LineFeed i)
      (cond (p && (eqb (get_or s i 0) 0x24 && eqb (get_or s (i + 1) 0) 0x7B)) (refusedFor refusal.DollarBrace i) (endAt (cursorAt (i + 1))))
  unfolding singleItem dollarOf
  item-by p m = rw (place-from s i (omega arith), brace-byte s i) (let z = past s i h in let y = place-from s (i + 1) (omega arith) in grind arith)

  single-plain : (p : Bool) (r : EndAnswer) → (p ≡ false → get_or s i 0 ≡ 0x5C → ⊥) → r ≡ singleItem p s i → Onward s (closeSingle p) i r
  unfolding Onward endedOf refusalBy
  single-plain p (Ok e) m q = let t = single-by p m in let u = q ∙ item-by p m in grind arith
  single-plain p (Err e) m q = let t = single-by p m in let u = q ∙ item-by p m in let z = place-from s i (omega arith) in grind arith

  -- an escape of a plain string
  single-escape : get_or s i 0 ≡ 0x5C → (r : EndAnswer) → r ≡ escapeOf (length s) (from s (i + 1)) → Onward s (closeSingle false) i r
  unfolding escapeOf Onward closeSingle endedOf
  single-escape b r q =
      let back : backslash (from s i) ≡ true = slash-byte s i ∙ ap (λ x. eqb x 0x5C) b in
      let tail : drop 1 (from s i) ≡ from s (i + 1) = past s i h (omega (arith, b)) in
      elim (slash-finds (from s i) back) [
        | inl g ↦
            let x = placed g.count s (i + 1) (omega arith) in
            let f : afterSlash (from s (i + 1)) ≡ unbroken g.count = ap afterSlash (sym tail) ∙ g.found in
            let w = strings.single-pass false (Single.escape g.escape Single.done) in
            rw (q ∙ ap (escEnd (length s) (from s (i + 1))) f) (omega (arith, x.0), x.1, ap (closePlain 0) (x.2 ∙ ap (drop g.count) (sym tail)) ∙ sym w)
        | inr g ↦
            let f : afterSlash (from s (i + 1)) ≡ broken g.number g.rest = ap afterSlash (sym tail) ∙ g.found in
            rw (q ∙ ap (escEnd (length s) (from s (i + 1))) f) (sym (ap (endedOf (length s)) (strings.single-slash (from s i) back g)))
      ]

  -- a step passes what the walk passes, or refuses what the walk refuses
  single-step : (p : Bool) (r : EndAnswer) → r ≡ singleItem p s i → Onward s (closeSingle p) i r
  unfolding singleItem
  single-step true r q = single-plain true r (λ u. clash (sym u)) q
  single-step false r q = elim (cases_eq (get_or s i 0) 0x5C) [
    | inl b ↦ single-escape b r (rw b at q)
    | inr n ↦ single-plain false r (λ u. n) q
  ]

-- ---- triples

pub triples : (p : Bool) → Walk (closeTriple p) (tripleChar p)
unfolding begins isOrdinary
triples p = record { pass = strings.triple-char p; plain = λ c u e. grind arith }

module _ (s : List ℕ) (i : ℕ) (h : i < length s) (no-three : threeQuotes (from s i) ≡ false) (p : Bool) where
  triple-by : closeTriple p (from s i) ≡ cond (eqb (get_or s i 0) 0x5C) (wrong 10 (from s i))
      (cond (p && (eqb (get_or s i 0) 0x24 && eqb (get_or s (i + 1) 0) 0x7B)) (wrong 11 (from s i)) (closeTriple p (from s (i + 1))))
  triple-by =
      let w = walk-on (closeTriple p) (tripleChar p) (triples p) s i h in
      let a = strings.triple-slash p (from s i) in
      let b = strings.triple-dollar (from s i) in
      grind (arith, slash-byte, brace-byte)

  triple-step : (r : EndAnswer) → r ≡ tripleItem p s i → Onward s (closeTriple p) i r
  unfolding Onward tripleItem dollarOf endedOf refusalBy
  triple-step (Ok e) q = rw triple-by (let b = brace-byte s i in let z = past s i h in let y = place-from s (i + 1) (omega arith) in grind arith)
  triple-step (Err e) q = rw triple-by (let b = brace-byte s i in let z = place-from s i (omega arith) in grind arith)

-- ---- from the opening to the end

-- The ordinary characters from the opening on, and those from a place on, are passed up to e.
module _ (p : Bool) (s : List ℕ) (o e : ℕ) where
  pub single-begun : quote (from s o) ≡ true → from s e ≡ afterRun (headIs isOrdinary) (from s (o + 1)) → closeSingle p (from s e) ≡ closeSingle p (drop 1 (from s o))
  single-begun q x =
      let b = quote-in s o q in
      walk-skip (closeSingle p) (singleChar p) (singles p) s (o + 1) e x ∙ ap (closeSingle p) (sym (past s o b.0 (omega (arith, b.1))))

  pub triple-skip : from s e ≡ afterRun (headIs isOrdinary) (from s o) → closeTriple p (from s e) ≡ closeTriple p (from s o)
  triple-skip x = walk-skip (closeTriple p) (tripleChar p) (triples p) s o e x

  pub triple-begun : threeQuotes (from s o) ≡ true → from s e ≡ afterRun (headIs isOrdinary) (from s (o + 3)) → closeTriple p (from s e) ≡ closeTriple p (drop 3 (from s o))
  triple-begun q x = walk-skip (closeTriple p) (tripleChar p) (triples p) s (o + 3) e x ∙ ap (closeTriple p) (sym (three-in s o q).1)

-- a step from the place i
module _ (p : Bool) (s : List ℕ) (i : ℕ) (h : i < length s) where
  pub single-on : (e : Cursor) → (get_or s i 0 ≡ 0x22 → ⊥) → endAt e ≡ singleItem p s i → (i < e.at) × (e.at ≤ length s) × (closeSingle p (from s e.at) ≡ closeSingle p (from s i))
  unfolding Onward
  single-on e n q = single-step s i h n p _ q

  pub single-wrong : (e : Refused) → (get_or s i 0 ≡ 0x22 → ⊥) → Err e ≡ singleItem p s i → Err e ≡ endedOf (length s) (closeSingle p (from s i))
  unfolding Onward
  single-wrong e n q = single-step s i h n p _ q

  pub triple-on : (e : Cursor) → false ≡ threeQuotes (from s i) → endAt e ≡ tripleItem p s i → (i < e.at) × (e.at ≤ length s) × (closeTriple p (from s e.at) ≡ closeTriple p (from s i))
  unfolding Onward
  triple-on e n q = triple-step s i h (sym n) p _ q

  pub triple-wrong : (e : Refused) → false ≡ threeQuotes (from s i) → Err e ≡ tripleItem p s i → Err e ≡ endedOf (length s) (closeTriple p (from s i))
  unfolding Onward
  triple-wrong e n q = triple-step s i h (sym n) p _ q

  -- the same of any answer
  pub single-passes : (r : EndAnswer) → (get_or s i 0 ≡ 0x22 → ⊥) → r ≡ singleItem p s i → IfOk r (λ e. closeSingle p (from s e.at) ≡ closeSingle p (from s i))
  single-passes (Ok e) n q = (single-on e n q).2
  single-passes (Err e) n q = tt

  pub single-refuses : (r : EndAnswer) → (get_or s i 0 ≡ 0x22 → ⊥) → r ≡ singleItem p s i → IfErr r (λ e. Err e ≡ endedOf (length s) (closeSingle p (from s i)))
  single-refuses (Ok e) n q = tt
  single-refuses (Err e) n q = single-wrong e n q

  pub triple-passes : (r : EndAnswer) → false ≡ threeQuotes (from s i) → r ≡ tripleItem p s i → IfOk r (λ e. closeTriple p (from s e.at) ≡ closeTriple p (from s i))
  triple-passes (Ok e) n q = (triple-on e n q).2
  triple-passes (Err e) n q = tt

  pub triple-refuses : (r : EndAnswer) → false ≡ threeQuotes (from s i) → r ≡ tripleItem p s i → IfErr r (λ e. Err e ≡ endedOf (length s) (closeTriple p (from s i)))
  triple-refuses (Ok e) n q = tt
  triple-refuses (Err e) n q = triple-wrong e n q

module _ (p : Bool) (s : List ℕ) (i : ℕ) where
  pub single-shut : i < length s → get_or s i 0 ≡ 0x22 → closeSingle p (from s i) ≡ closed (from s (i + 1))
  single-shut h b = single-same p (from s i) ∙ strings.single-close p (from s i) (quote-byte s i ∙ eq-eqb (get_or s i 0) 0x22 b) ∙ ap closed (past s i h (omega (arith, b)))

  pub single-closes : i < length s → get_or s i 0 ≡ 0x22 → endAt (cursorAt (i + 1)) ≡ endedOf (length s) (closeSingle p (from s i))
  unfolding endedOf
  single-closes h b = rw (single-shut h b, place-from s (i + 1) (omega arith))

  pub single-open : i ≤ length s → length s ≤ i → refusedFor refusal.OpenString i ≡ endedOf (length s) (closeSingle p (from s i))
  unfolding endedOf refusalBy
  single-open h k = grind (arith, at-end, single-same, strings.single-empty p)

  pub triple-closes : (e : Cursor) → e.at ≤ length s → from s e.at ≡ afterRun quote (from s i) → threeQuotes (from s i) ≡ true → endAt e ≡ endedOf (length s) (closeTriple p (from s i))
  unfolding endedOf
  triple-closes e h q t = grind (arith, strings.triple-close, place-from)

  pub triple-open : i ≤ length s → length s ≤ i → refusedFor refusal.OpenTriple i ≡ endedOf (length s) (closeTriple p (from s i))
  unfolding endedOf refusalBy
  triple-open h k = grind (arith, at-end, strings.triple-empty p)

pub ruleset single_walk = (single-begun, single-wrong, single-closes, single-open)

pub ruleset triple_walk = (three-in, triple-begun, triple-closes, triple-open)

-- ---- the token

module _ (n : ℕ) (t : Text) where
  pub plain-refused : (e : Refused) → Err e ≡ endedOf n (closeString false t) → Err e ≡ pieceOf n (scanString n t)
  unfolding endedOf pieceOf scanString
  plain-refused e q = grind arith

  pub plain-ended : (e : Cursor) (k : TokenKind) (r : Text) → endAt e ≡ endedOf n (closeString false t) → closeString false t ≡ closed r → k ≡ plainContent n t r
      → tokenTo k e ≡ pieceOf n (scanString n t)
  unfolding endedOf pieceOf scanString
  plain-ended e k r q c p = grind arith

  pub prefixed-refused : (o : Text) (e : Refused) → Err e ≡ endedOf n (closeString true o) → Err e ≡ pieceOf n (prefixedOf n t (closeString true o))
  unfolding endedOf pieceOf
  prefixed-refused o e q = grind arith

pub prefixed-placed : (s : List ℕ) (i : ℕ) (o : Text) (e : Cursor) → i ≤ length s → endAt e ≡ endedOf (length s) (closeString true o)
    → tokenTo (tk.Str i e.at) e ≡ pieceOf (length s) (prefixedOf (length s) (from s i) (closeString true o))
unfolding endedOf pieceOf
prefixed-placed s i o e h q = grind (arith, place-from)

pub ruleset prefixed_string = (prefixed-refused, prefixed-placed)

-- ---- where a plain string ends

quote-no-comment : (s : Text) → quote s ≡ true → opensComment s ≡ true → isComment (Kind.token TokenType.str) ≡ true
unfolding begins
quote-no-comment s e f = grind arith

pub plain-strict : (t r : Text) → quote t ≡ true → closeString false t ≡ closed r → Strict r t
unfolding Stands HasShape TokenShape
plain-strict t r q c = elim (strings.body-finds false t q) [
  | inl w ↦
      let e : closed w.rest ≡ closed r = sym w.found ∙ c in
      let x : r ≡ w.rest = cc in
      rw x (stands-strict (Kind.token TokenType.str) t w.rest (inl w.body, quote-no-comment t q))
  | inr w ↦ absurd (let e : wrong w.number w.rest ≡ closed r = sym w.found ∙ c in zero-one (cc))
]

pub plain-end : (s : List ℕ) (i : ℕ) (e : Cursor) → i ≤ length s → quote (from s i) ≡ true → endAt e ≡ endedOf (length s) (closeString false (from s i))
    → (i ≤ e.at) × (e.at ≤ length s) × (quote (from s i) ≡ true) × (closeString false (from s i) ≡ closed (from s e.at))
unfolding endedOf
plain-end s i e h q a = let k = λ (r : Text) (c : closeString false (from s i) ≡ closed r). reached s i r h (plain-strict (from s i) r q c).0 in grind arith
