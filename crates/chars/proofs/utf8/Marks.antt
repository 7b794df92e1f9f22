-- Direction marks and the check: which characters are none, told by their bytes, and what is passed up to the place where the check stops.
use Rattle.std.proofs.lemmas.Grind.{common_steps}
use Rattle.std.proofs.Common.{ℕ, zero, suc, ◌+◌, ◌*◌, ◌%◌, ◌≤◌, ◌<◌, ◌≡◌, refl, sym, ◌∙◌, ap, Bool, true, false, cond, ◌⊎◌, inl, inr, ⊎_elim, List, [], ◌∷◌, length, drop, get_or, get_or-drop, leb, ltb, arith, lt-ltb, le-ltb, le-leb, leb-true, ltb-true, Option, Some, None, Ok, Err}
use Rattle.std.specs.Option.{option_or}
use Rattle.std.proofs.lemmas.Bool.{cases_lt, cases_eq, lt-leb, cond_both}
use Rattle.chars.specs.paper.Ranges.{Range, ◌to◌}
use Rattle.chars.specs.paper.Utf8.{table37, fits, Row, here, width, codeOf}
use Rattle.chars.specs.paper.Classes.{isMark}
use Rattle.chars.specs.paper.Text.{from}
use Rattle.chars.specs.computed.Valid.{validFrom, validPrefix}
use Rattle.chars.specs.computed.Marks.{firstMark, checked}
use Rattle.chars.specs.declared.utf8.Decoded.{Decoded}
use Rattle.chars.specs.code.Runs.{stepsIn, stepsOver}
use Rattle.chars.specs.code.Text.{codeAt, charEnd}
use Rattle.std.proofs.Math.ListN.{get_or-eq_default}
use Rattle.chars.specs.code.Utf8.{decodeAt, rowAt, rowsOver, plainThree, plainAt, plainOver, markAt, CleanTo, Stops}
use Rattle.chars.proofs.Bools.{clash, and-both}
use Rattle.chars.proofs.runs.Laws.{over-on}
use Rattle.chars.proofs.utf8.Rows as rows
use Rattle.chars.proofs.utf8.Wide.{Next, Stood, stood}
use Rattle.chars.proofs.utf8.Valid.{width-fit, fit-within, valid}
use Rattle.chars.proofs.utf8.Widths.{width-within, valid-next, valid-stop, valid-end, ascii-at}
use Rattle.chars.proofs.text.Steps.{char-found, nothing-stands}
use Rattle.chars.proofs.text.Places.{at-char, at-end}

-- ---- codes

no-mark : (c : ℕ) → (c < 0x202A) ⊎ ((0x202E < c) × (c < 0x2066)) ⊎ (0x2069 < c) → isMark c ≡ false
unfolding isMark
no-mark c (inl h) = grind (arith, common_steps)
no-mark c (inr (inl h)) = grind (arith, common_steps)
no-mark c (inr (inr h)) = grind (arith, common_steps)

a-mark : (c : ℕ) → ((0x202A ≤ c) × (c ≤ 0x202E)) ⊎ ((0x2066 ≤ c) × (c ≤ 0x2069)) → isMark c ≡ true
unfolding isMark
a-mark c (inl h) = grind (arith, common_steps)
a-mark c (inr h) = grind (arith, common_steps)

-- ---- characters of three bytes

-- three bytes that are one, and no mark
record Three (x y z : ℕ) : Type 0 where
  pub low : 0xE0 ≤ x
  pub high : x ≤ 0xEF
  pub next : Next y
  pub third : Next z
  pub first : x ≡ 0xE0 → 0xA0 ≤ y
  pub last : x ≡ 0xED → y ≤ 0x9F
  pub embedding : x ≡ 0xE2 → y ≡ 0x80 → (z < 0xAA) ⊎ (0xAE < z)
  pub isolate : x ≡ 0xE2 → y ≡ 0x81 → (z < 0xA6) ⊎ (0xA9 < z)

three : (x y z : ℕ) → plainThree x y z ≡ true → Three x y z
unfolding plainThree
three x y z h = record {
  low = grind (arith, common_steps);
  high = grind (arith, common_steps);
  next = record { low = grind (arith, common_steps); high = grind (arith, common_steps) };
  third = record { low = grind (arith, common_steps); high = grind (arith, common_steps) };
  first = λ e. grind (arith, common_steps);
  last = λ e. grind (arith, common_steps);
  embedding = λ e f. ⊎_elim (λ l. inl l) (λ l. inr (grind (arith, common_steps))) (cases_lt z 0xAA);
  isolate = λ e f. ⊎_elim (λ l. inl l) (λ l. inr (grind (arith, common_steps))) (cases_lt z 0xA6);
}

module _ (s : List ℕ) (i : ℕ) where
  pub plain-at : i + 3 ≤ length s → plainThree (get_or s i 0) (get_or s (i + 1) 0) (get_or s (i + 2) 0) ≡ plainAt s i
  unfolding plainAt
  plain-at room = rw (le-leb (i + 3) (length s) room) refl

  pub plain-short : length s < i + 3 → false ≡ plainAt s i
  unfolding plainAt
  plain-short h = rw (lt-leb (i + 3) (length s) h) refl

-- a character of w bytes stands there, no mark
pub record Plain (w : ℕ) (t : List ℕ) : Type 0 where
  pub is : width t ≡ w
  pub plain : isMark (codeOf w t) ≡ false

-- the second and the third byte, told by the first
rest-fits : (p q y z : ℕ) (t : List ℕ) → p ≤ y → y ≤ q → Next z → fits (p to q ∷ 0x80 to 0xBF ∷ []) (y ∷ z ∷ t) ≡ true
rest-fits p q y z t l m n = let a = n.low in let b = n.high in simp (le-leb p y l, le-leb y q m, le-leb 0x80 z (omega arith), le-leb z 0xBF (omega arith))

three-wide : (x y z : ℕ) (t : List ℕ) → Three x y z → width (x ∷ y ∷ z ∷ t) ≡ 3
three-wide x y z t b =
    let n = b.third in
    let l = b.low in
    let h = b.high in
    let m = b.next in
    let ml = m.low in
    let mh = m.high in
    let all = rest-fits 0x80 0xBF y z t m.low m.high n in
    elim (cases_lt x 0xE1) [
      | inl k ↦ let e : x ≡ 0xE0 = omega arith in sym (rows.row-E0 x (y ∷ z ∷ t) e) ∙ ap (λ v. cond v 3 0) (rest-fits 0xA0 0xBF y z t (b.first e) m.high n)
      | inr k ↦
          elim (cases_lt x 0xED) [
            | inl j ↦ sym (rows.row-E1 x (y ∷ z ∷ t) k (omega arith)) ∙ ap (λ v. cond v 3 0) all
            | inr j ↦
                elim (cases_lt 0xED x) [
                  | inl g ↦ sym (rows.row-EE x (y ∷ z ∷ t) g h) ∙ ap (λ v. cond v 3 0) all
                  | inr g ↦ let e : x ≡ 0xED = omega arith in sym (rows.row-ED x (y ∷ z ∷ t) e) ∙ ap (λ v. cond v 3 0) (rest-fits 0x80 0x9F y z t m.low (b.last e) n)
                ]
          ]
    ]

-- where the first two bytes are no mark's, the three are none, nor where the third is before the marks, or behind them
three-plain : (x y z : ℕ) (t : List ℕ) → 0xE0 ≤ x → x ≤ 0xEF → Next y → Next z → (x ≡ 0xE2 → y ≡ 0x80 → (z < 0xAA) ⊎ (0xAE < z)) → (x ≡ 0xE2 → y ≡ 0x81 → (z < 0xA6) ⊎ (0xA9 < z))
    → isMark (codeOf 3 (x ∷ y ∷ z ∷ t)) ≡ false
unfolding codeOf
three-plain x y z t l h m n e i =
    let ml = m.low in
    let mh = m.high in
    let nl = n.low in
    let nh = n.high in
    no-mark (x % 16 * 4096 + y % 64 * 64 + z % 64)
    (elim (cases_lt x 0xE2) [
      | inl k ↦ inl (omega arith)
      | inr k ↦
          elim (cases_lt 0xE2 x) [
            | inl j ↦ inr (inr (omega arith))
            | inr j ↦
                let q : x ≡ 0xE2 = omega arith in
                elim (cases_lt 0x81 y) [
                  | inl g ↦ inr (inr (omega arith))
                  | inr g ↦
                      elim (cases_lt 0x80 y) [
                        | inl f ↦ let r : y ≡ 0x81 = omega arith in ⊎_elim (λ d. inr (inl (omega arith))) (λ d. inr (inr (omega arith))) (i q r)
                        | inr f ↦ let r : y ≡ 0x80 = omega arith in ⊎_elim (λ d. inl (omega arith)) (λ d. inr (inl (omega arith))) (e q r)
                      ]
                ]
          ]
    ])

plain-three : (x y z : ℕ) (t : List ℕ) → plainThree x y z ≡ true → Plain 3 (x ∷ y ∷ z ∷ t)
plain-three x y z t h =
    let b = three x y z h in
    record { is = three-wide x y z t b; plain = three-plain x y z t b.low b.high b.next b.third b.embedding b.isolate }

-- ---- characters of other widths

other-plain : {w : ℕ} {t : List ℕ} → Stood w t → (w ≡ 3 → ⊥) → isMark (codeOf w t) ≡ false
unfolding codeOf
other-plain (Stood.one a) n = no-mark _ (inl (omega arith))
other-plain (Stood.two {x} {y} a b p) n = no-mark _ (inl (omega arith))
other-plain (Stood.three a b p q m l) n = absurd (n refl)
other-plain (Stood.four {x} {y} {z} {v} a b p q r m l) n = no-mark _ (inr (inr (⊎_elim (λ k. omega arith) (λ k. omega arith) m)))

pub plain-other : (w : ℕ) (t : List ℕ) → width t ≡ w → 0 < w → (w ≡ 3 → ⊥) → Plain w t
plain-other w t e l n = record { is = e; plain = ⊎_elim (λ z. absurd (omega arith)) (λ s. other-plain (rw e at s) n) (stood t) }

-- ---- at a place

-- three bytes stand there
triple : (s : List ℕ) (i : ℕ) → i + 3 ≤ length s → drop i s ≡ get_or s i 0 ∷ get_or s (i + 1) 0 ∷ get_or s (i + 2) 0 ∷ drop (i + 3) s
triple s i h =
    let e : i + 1 + 1 ≡ i + 2 = omega arith in
    let f : i + 2 + 1 ≡ i + 3 = omega arith in
    rows.here s i (omega arith)
    ∙ ap (λ l. get_or s i 0 ∷ l) (rows.here s (i + 1) (omega arith))
    ∙ ap (λ j. get_or s i 0 ∷ get_or s (i + 1) 0 ∷ drop j s) e
    ∙ ap (λ l. get_or s i 0 ∷ get_or s (i + 1) 0 ∷ l) (rows.here s (i + 2) (omega arith))
    ∙ ap (λ j. get_or s i 0 ∷ get_or s (i + 1) 0 ∷ get_or s (i + 2) 0 ∷ drop j s) f

-- what the test tells
module _ (s : List ℕ) (i : ℕ) where
  plain-parts : plainAt s i ≡ true → (i + 3 ≤ length s) × (plainThree (get_or s i 0) (get_or s (i + 1) 0) (get_or s (i + 2) 0) ≡ true)
  unfolding plainAt
  plain-parts e = let a = and-both (leb (i + 3) (length s)) _ e in (leb-true _ _ a.0, a.1)

  three-stands : plainAt s i ≡ true → Plain 3 (drop i s)
  three-stands e = let p = plain-parts e in rw (triple s i p.0) (plain-three _ _ _ _ p.1)

  byte0 : get_or (drop i s) 0 0 ≡ get_or s i 0
  byte0 = get_or-drop i s 0 0 ∙ ap (λ j. get_or s j 0) (omega arith)

-- ---- where no test tells of a character, none stands, or a mark

-- of three bytes that are a character
left-mark : (x y z : ℕ) (t : List ℕ) → 0xE0 ≤ x → x ≤ 0xEF → Next y → Next z → (0xE1 ≤ x) ⊎ (0xA0 ≤ y) → (x ≡ 0xED → y ≤ 0x9F) → plainThree x y z ≡ false
    → isMark (codeOf 3 (x ∷ y ∷ z ∷ t)) ≡ true
unfolding codeOf plainThree
left-mark x y z t l h n m f g not =
    let nl = n.low in
    let nh = n.high in
    let ml = m.low in
    let mh = m.high in
    let code = x % 16 * 4096 + y % 64 * 64 + z % 64 in
    let other : (plainThree x y z ≡ true) → isMark code ≡ true = λ e. clash (sym not ∙ e) in
    elim (cases_eq x 0xE2) [
      | inl q ↦
          elim (cases_eq y 0x80) [
            | inl r ↦
                elim (cases_lt z 0xAA) [
                  | inl k ↦ other (grind (arith, common_steps))
                  | inr k ↦ elim (cases_lt 0xAE z) [ inl j ↦ other (grind (arith, common_steps)) | inr j ↦ a-mark code (inl (omega arith, omega arith)) ]
                ]
            | inr r ↦
                elim (cases_eq y 0x81) [
                  | inl o ↦
                      elim (cases_lt z 0xA6) [
                        | inl k ↦ other (grind (arith, common_steps))
                        | inr k ↦ elim (cases_lt 0xA9 z) [ inl j ↦ other (grind (arith, common_steps)) | inr j ↦ a-mark code (inr (omega arith, omega arith)) ]
                      ]
                  | inr o ↦ other (grind (arith, common_steps))
                ]
          ]
      | inr q ↦ ⊎_elim (λ k. other (grind (arith, common_steps))) (λ k. other (grind (arith, common_steps))) f
    ]

-- a character stands that begins past ASCII and before F0, and none of the tests tells of it
left-list : {w : ℕ} {t : List ℕ} → Stood w t → 0x80 ≤ get_or t 0 0 → get_or t 0 0 < 0xF0 → fits (0xC2 to 0xDF ∷ 0x80 to 0xBF ∷ []) t ≡ false
    → plainThree (get_or t 0 0) (get_or t 1 0) (get_or t 2 0) ≡ false → isMark (codeOf w t) ≡ true
left-list (Stood.one a) l h two not = absurd (omega arith)
left-list (Stood.two {x} {y} {t} a b p) l h two not =
    let n = p.low in
    let m = p.high in
    let f : fits (0xC2 to 0xDF ∷ 0x80 to 0xBF ∷ []) (x ∷ y ∷ t) ≡ true = simp (le-leb 0xC2 x a, le-leb x 0xDF b, le-leb 0x80 y n, le-leb y 0xBF m) in
    clash (sym two ∙ f)
left-list (Stood.three {x} {y} {z} {t} a b p q m k) l h two not = left-mark x y z t a b p q m k not
left-list (Stood.four a b p q r m k) l h two not = absurd (omega arith)

-- past the end a byte counts as 0
no-third : (x y : ℕ) → plainThree x y 0 ≡ false
unfolding plainThree
no-third x y = grind (arith, common_steps)

module _ (s : List ℕ) (i : ℕ) where
  not-plain : plainAt s i ≡ false → plainThree (get_or (drop i s) 0 0) (get_or (drop i s) 1 0) (get_or (drop i s) 2 0) ≡ false
  unfolding plainAt
  not-plain e =
      let x0 : get_or (drop i s) 0 0 ≡ get_or s i 0 = byte0 s i in
      rw (x0, get_or-drop i s 1 0, get_or-drop i s 2 0)
      (⊎_elim
      (λ h. let z : get_or s (i + 2) 0 ≡ 0 = get_or-eq_default s 0 (omega arith) in rw z (no-third (get_or s i 0) (get_or s (i + 1) 0)))
      (λ h. rw (le-leb (i + 3) (length s) h) at e)
      (cases_lt (length s) (i + 3)))

  pub stops-left : 0x80 ≤ get_or s i 0 → get_or s i 0 < 0xF0 → fits (0xC2 to 0xDF ∷ 0x80 to 0xBF ∷ []) (drop i s) ≡ false → plainAt s i ≡ false → Stops s i
  unfolding markAt
  stops-left l h two not =
      let x0 = byte0 s i in
      elim (cases_eq (width (drop i s)) 0) [
        | inl e ↦ inl e
        | inr n ↦
            ⊎_elim (λ e. inl e)
            (λ st.
            let m : isMark (codeOf (width (drop i s)) (drop i s)) ≡ true = left-list st (omega arith) (omega arith) two (not-plain not) in
            inr (rw (lt-ltb 0 (width (drop i s)) (omega arith)) m))
            (stood (drop i s))
      ]

  -- ---- steps

  -- one character that is no mark
  pub clean-char : (w : ℕ) → i < length s → 0 < w → Plain w (drop i s) → CleanTo s i (i + w)
  unfolding firstMark charEnd
  clean-char w h l p =
      let e = p.is in
      let a = width-within s i (omega arith) in
      let f : charEnd s i ≡ i + w = omega arith in
      let q : isMark (codeAt s i) ≡ false = ap (λ v. isMark (codeOf v (drop i s))) e ∙ p.plain in
      record {
        onward = omega arith;
        within = omega arith;
        same = valid-next s i w h e (λ z. omega arith);
        unmarked = sym (ap firstMark (at-char s i h) ∙ rw (q, f, firstMark) refl);
      }

clean-none : (s : List ℕ) (i : ℕ) → i ≤ length s → CleanTo s i i
clean-none s i h = record { onward = omega arith; within = h; same = refl; unmarked = refl }

pub clean-on : {s : List ℕ} {i j k : ℕ} → CleanTo s i j → CleanTo s j k → CleanTo s i k
clean-on a b = let x = a.onward in let y = b.onward in record { onward = omega arith; within = b.within; same = b.same ∙ a.same; unmarked = b.unmarked ∙ a.unmarked }

-- a loop that passes characters of n bytes as long as a test tells of one
module _ (n : ℕ) (test : List ℕ → ℕ → Bool) (s : List ℕ) (one : (i : ℕ) → test s i ≡ true → CleanTo s i (i + n)) where
  clean-in : (m i : ℕ) → i ≤ length s → CleanTo s i (stepsIn m n (test s) i)
  unfolding stepsIn
  clean-in zero i h = clean-none s i h
  clean-in (suc m) i h = cond_both (test s i) _ i (CleanTo s i) (λ e. let o = one i e in clean-on o (clean-in m (i + n) o.within)) (λ e. clean-none s i h)

  pub clean-over : (i j : ℕ) → i ≤ length s → j ≡ stepsOver n test s i → CleanTo s i j
  clean-over i j h e = rw e (clean-in (length s) i h)

-- a character of a row of one byte or two, of four, and of three that is no mark
pub clean-row : {x : Range} {row : List Range} (w : Row table37 (x ∷ row)) → (length (x ∷ row) ≡ 3 → ⊥) → (s : List ℕ) (i : ℕ) → fits (x ∷ row) (drop i s) ≡ true → CleanTo s i (i + length (x ∷ row))
clean-row {x} {row} w n s i e =
    let l = fit-within x row s i e in
    clean-char s i (length (x ∷ row)) (omega arith) (omega arith) (plain-other _ (drop i s) (width-fit w (drop i s) e) (omega arith) n)

pub clean-three : (s : List ℕ) (i : ℕ) → plainAt s i ≡ true → CleanTo s i (i + 3)
clean-three s i e = let p = plain-parts s i e in clean-char s i 3 (omega (arith, p.0)) (omega arith) (three-stands s i e)

-- a first byte from F0 on begins no character of three bytes
not-three : {w : ℕ} {t : List ℕ} → Stood w t → 0xF0 ≤ get_or t 0 0 → w ≡ 3 → ⊥
not-three (Stood.one a) h e = omega arith
not-three (Stood.two a b p) h e = omega arith
not-three (Stood.three a b p q m l) h e = absurd (omega arith)
not-three (Stood.four a b p q r m l) h e = omega arith

pub clean-high : (s : List ℕ) (i w : ℕ) → i < length s → 0xF0 ≤ get_or s i 0 → width (drop i s) ≡ w → 0 < w → CleanTo s i (i + w)
clean-high s i w h l e g =
    let x0 = byte0 s i in
    let n : w ≡ 3 → ⊥ = λ q. ⊎_elim (λ z. omega arith) (λ st. not-three (rw e at st) (omega arith) q) (stood (drop i s)) in
    clean-char s i w h g (plain-other w (drop i s) e g n)

-- a mark: it has three bytes, and is the first one of the text there
pub record Marked (s : List ℕ) (i : ℕ) : Type 0 where
  pub within : i + 3 ≤ length s
  pub same : validFrom (i + 3) 0 (drop (i + 3) s) ≡ validFrom i 0 (drop i s)
  pub first : firstMark (from s i) ≡ Some i

pub marked : (s : List ℕ) (i : ℕ) → i < length s → markAt s i ≡ true → Marked s i
unfolding markAt firstMark
marked s i h e =
    let a = and-both (ltb 0 (width (drop i s))) (isMark (codeOf (width (drop i s)) (drop i s))) e in
    let w = width-within s i (omega arith) in
    let g = ltb-true 0 (width (drop i s)) a.0 in
    elim (cases_eq (width (drop i s)) 3) [
      | inl q ↦ record {
        within = omega arith;
        same = valid-next s i 3 h q (λ z. omega arith);
        first = ap firstMark (at-char s i h) ∙ rw (a.1, firstMark) refl;
      }
      | inr n ↦ let p = plain-other (width (drop i s)) (drop i s) refl g n in clash (sym p.plain ∙ a.1)
    ]

-- as many as stand there
pub plain-room : (s : List ℕ) (i : ℕ) → plainAt s i ≡ true → i + 3 ≤ length s
plain-room s i e = (plain-parts s i e).0

pub plain-on : (s : List ℕ) (i : ℕ) → plainAt s i ≡ true → plainOver s (i + 3) ≡ plainOver s i
plain-on s = over-on 3 plainAt s (omega arith) (plain-room s)

-- a character and those like it behind it
pub record Moved (s : List ℕ) (i j : ℕ) : Type 0 where
  pub on : i < j
  pub clean : CleanTo s i j

moved : {s : List ℕ} {i j : ℕ} (k : ℕ) → 0 < k → CleanTo s i (i + k) → CleanTo s (i + k) j → Moved s i j
moved k h a b = let x = b.onward in record { on = omega arith; clean = clean-on a b }

ascii-one : (s : List ℕ) (i : ℕ) → rowAt (0x00 to 0x7F ∷ []) s i ≡ true → CleanTo s i (i + 1)
ascii-one = clean-row here (λ e. omega arith)

pub moved-ascii : (s : List ℕ) (i j : ℕ) → i < length s → get_or s i 0 < 0x80 → j ≡ rowsOver (0x00 to 0x7F ∷ []) s (i + 1) → Moved s i j
moved-ascii s i j h l e =
    let a = ascii-one s i (ascii-at s i h (omega arith)) in
    moved 1 (omega arith) a (clean-over 1 (rowAt (0x00 to 0x7F ∷ [])) s (ascii-one s) (i + 1) j (omega arith) e)

pub moved-three : (s : List ℕ) (i j : ℕ) → plainAt s i ≡ true → j ≡ plainOver s (i + 3) → Moved s i j
moved-three s i j t e =
    let a = clean-three s i t in
    moved 3 (omega arith) a (clean-over 3 plainAt s (clean-three s) (i + 3) j a.within e)

-- ---- whether a mark stands at a place, by what is decoded there

module _ (s : List ℕ) (i : ℕ) where
  pub mark-found : (d : Decoded) → Some d ≡ decodeAt s i → isMark d.code ≡ markAt s i
  unfolding markAt
  mark-found d e =
      let t = char-found s i d e in
      let l = t.least in
      rw (t.width-is, t.code-is, lt-ltb 0 d.width (omega arith)) refl

  pub mark-none : None ≡ decodeAt s i → false ≡ markAt s i
  unfolding markAt
  mark-none e = rw (nothing-stands s i e) refl

-- ---- what the check finds

pub record Checking (s : List ℕ) (i : ℕ) (mark : Option ℕ) : Type 0 where
  pub within : i ≤ length s
  pub same : validFrom i 0 (drop i s) ≡ validPrefix s
  pub seen : option_or mark (firstMark (from s i)) ≡ firstMark (from s 0)
  pub stops : Stops s i

module _ (s : List ℕ) where
  pub check-start : (i : ℕ) → CleanTo s 0 i → Stops s i → Checking s i None
  check-start i a b = record { within = a.within; same = a.same; seen = a.unmarked; stops = b }

  module _ (i : ℕ) (mark : Option ℕ) (c : Checking s i mark) where
    -- a mark: what is found behind it is not the first
    pub check-mark : markAt s i ≡ true → i < length s → (j : ℕ) → CleanTo s (i + 3) j → Stops s j → Checking s j (option_or mark (Some i))
    check-mark e h j a b =
        let m = marked s i h e in
        record { within = a.within; same = a.same ∙ m.same ∙ c.same; seen = or-some mark i _ ∙ ap (option_or mark) (sym m.first) ∙ c.seen; stops = b }
      where
        or-some : (o : Option ℕ) (a : ℕ) (r : Option ℕ) → option_or (option_or o (Some a)) r ≡ option_or o (Some a)
        or-some None a r = refl
        or-some (Some x) a r = refl

    -- no character stands there
    pub check-bad : false ≡ markAt s i → i ≡ validPrefix s
    check-bad e = ⊎_elim (λ z. sym (valid-stop s i z) ∙ c.same) (λ t. clash (e ∙ t)) c.stops

    pub checked-bad : false ≡ markAt s i → i < length s → Err i ≡ checked s
    unfolding checked
    checked-bad e h = let v = check-bad e in rw (← v, lt-ltb i (length s) h) refl

    pub checked-all : length s ≤ i → Ok mark ≡ checked s
    unfolding checked firstMark
    checked-all h =
        let v : i ≡ validPrefix s = sym (valid-end s i h) ∙ c.same in
        let m : mark ≡ firstMark (from s 0) = or-none mark ∙ ap (option_or mark) (sym (ap firstMark (at-end s i h))) ∙ c.seen in
        rw (← v, le-ltb i (length s) h, ← m) refl
      where
        or-none : (o : Option ℕ) → o ≡ option_or o None
        or-none None = refl
        or-none (Some x) = refl

  -- what is checked says how far it is valid
  pub prefix-all : (m : Option ℕ) → Ok m ≡ checked s → length s ≡ validPrefix s
  unfolding checked
  prefix-all m e = elim (cases_lt (validPrefix s) (length s)) [
    | inl l ↦ let f = rw (lt-ltb (validPrefix s) (length s) l) at e in cc
    | inr l ↦ let v = valid s in omega (arith, v.within)
  ]

  pub prefix-bad : (n : ℕ) → Err n ≡ checked s → n ≡ validPrefix s
  unfolding checked
  prefix-bad n e = elim (cases_lt (validPrefix s) (length s)) [
    | inl l ↦ let f = rw (lt-ltb (validPrefix s) (length s) l) at e in cc
    | inr l ↦ let f = rw (le-ltb (validPrefix s) (length s) l) at e in cc
  ]
