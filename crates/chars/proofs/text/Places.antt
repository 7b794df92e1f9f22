-- From a byte offset to the text from there on.
use Rattle.std.proofs.Common.{ℕ, zero, suc, ◌+◌, ◌-◌, ◌≤◌, ◌<◌, ◌≡◌, sym, ◌∙◌, ap, Bool, true, false, inl, inr, ⊎_elim, List, [], ◌∷◌, length, drop, get_or, length-drop, drop_of_length-le, drop-drop, get_or-drop, add-zero, arith, lt-ltb, None}
use Rattle.std.proofs.Math.ListN.{get_or-eq_default}
use Rattle.std.proofs.lemmas.Bool.{cases_lt}
use Rattle.chars.specs.paper.Utf8.{WellFormed, width, codeOf}
use Rattle.chars.specs.paper.Text.{Text, charsAt, from, place, headIs}
use Rattle.chars.specs.code.Text.{codeAt, charEnd, stepAt}
use Rattle.chars.specs.promises.Texts.{AsciiClass, PastWide}
use Rattle.chars.specs.computed.Runs.{afterRun}
use Rattle.chars.specs.code.Utf8.{decoded}
use Rattle.chars.proofs.utf8.Rows as rows
use Rattle.chars.proofs.utf8.Codes.{code-one}
use Rattle.chars.proofs.utf8.Valid.{first-char}
use Rattle.chars.proofs.utf8.Widths.{width-within}
use Rattle.chars.proofs.utf8.Wide.{Wide, wide}
use Rattle.chars.proofs.text.Texts.{chars-skip}

module _ (s : List ℕ) (i : ℕ) where
  byte0 : get_or (drop i s) 0 0 ≡ get_or s i 0
  byte0 = get_or-drop i s 0 0 ∙ ap (λ k. get_or s k 0) (add-zero i)

  -- the text at i is its first character and the text from where that ends
  pub at-char : i < length s → from s i ≡ record { code = codeAt s i; at = i } ∷ from s (charEnd s i)
  unfolding from charsAt charEnd
  at-char h =
      let q = rows.here s i h in
      let w = width (drop i s) in
      let x : i + 1 + (w - 1) ≡ suc i + (w - 1) = omega arith in
      ap (charsAt i 0) q
      ∙ ap (λ t. record { code = codeOf (width t) t; at = i } ∷ charsAt (suc i) (width t - 1) (drop (i + 1) s)) (sym q)
      ∙ ap (λ t. record { code = codeAt s i; at = i } ∷ t)
      (chars-skip (suc i) (w - 1) (drop (i + 1) s) ∙ ap (charsAt (suc i + (w - 1)) 0) (drop-drop (w - 1) (i + 1) s ∙ ap (λ j. drop j s) x))

  pub at-end : length s ≤ i → from s i ≡ []
  unfolding from charsAt
  at-end h = rw (drop_of_length-le s h)

  pub next-on : i < length s → (i < charEnd s i) × (charEnd s i ≤ length s)
  unfolding charEnd
  next-on h = let a = width-within s i (omega arith) in (omega arith, omega arith)

  pub place-from : i ≤ length s → place (length s) (from s i) ≡ i
  place-from h =
      ⊎_elim (λ l. ap (place (length s)) (at-char l)) (λ k. ap (place (length s)) (at-end k) ∙ (let z : length s ≡ i = omega arith in z)) (cases_lt i (length s))

  -- ---- ASCII

  ascii-width : i < length s → get_or s i 0 < 0x80 → width (drop i s) ≡ 1
  ascii-width h l = ap width (rows.here s i h) ∙ sym (rows.row-00 (get_or s i 0) (drop (i + 1) s) (omega arith) (omega arith))

  pub ascii-code : i < length s → get_or s i 0 < 0x80 → codeAt s i ≡ get_or s i 0
  ascii-code h l = ap (λ w. codeOf w (drop i s)) (ascii-width h l) ∙ sym (code-one s i 1 (omega arith))

  pub ascii-next : i < length s → get_or s i 0 < 0x80 → charEnd s i ≡ i + 1
  unfolding charEnd
  ascii-next h l = let e = ascii-width h l in omega arith

  pub at-ascii : i < length s → get_or s i 0 < 0x80 → from s i ≡ record { code = get_or s i 0; at = i } ∷ from s (i + 1)
  at-ascii h l = at-char h ∙ ap (λ c. record { code = c; at = i } ∷ from s (charEnd s i)) (ascii-code h l) ∙ ap (λ j. record { code = get_or s i 0; at = i } ∷ from s j) (ascii-next h l)

  -- ---- past ASCII

  pub wide-code : 0x80 ≤ get_or s i 0 → 0x80 ≤ codeAt s i
  wide-code h = ⊎_elim alone (λ w. w.code) (wide (drop i s) (rw byte0 h))
    where
      alone : width (drop i s) ≡ 0 → 0x80 ≤ codeAt s i
      alone e = let q : codeAt s i ≡ get_or s i 0 = ap (λ w. codeOf w (drop i s)) e ∙ sym (code-one s i 0 (omega arith)) in omega arith

  -- the bytes of a character after its first
  pub wide-tail : i < length s → (j : ℕ) → i < j → j < charEnd s i → (0x80 ≤ get_or s j 0) × (get_or s j 0 ≤ 0xBF)
  unfolding charEnd
  wide-tail h j l m =
      elim (cases_lt (get_or s i 0) 0x80) [
        | inl e ↦ let q = ascii-width h e in absurd (omega arith)
        | inr e ↦ ⊎_elim (λ q. absurd (omega arith)) more (wide (drop i s) (rw byte0 e))
      ]
    where
      more : Wide (width (drop i s)) (drop i s) → (0x80 ≤ get_or s j 0) × (get_or s j 0 ≤ 0xBF)
      more w =
          let e : i + (j - i) ≡ j = omega arith in
          let q : get_or (drop i s) (j - i) 0 ≡ get_or s j 0 = get_or-drop i s (j - i) 0 ∙ ap (λ k. get_or s k 0) e in
          let n = w.others (j - i) (omega arith) (omega arith) in
          let low = n.low in
          let high = n.high in
          (omega arith, omega arith)

  -- with a byte of 0x80 to 0xBF no character begins: it stands alone
  tail-width : i < length s → 0x80 ≤ get_or s i 0 → get_or s i 0 ≤ 0xBF → width (drop i s) ≡ 0
  tail-width h l m = ap width (rows.here s i h) ∙ sym (rows.none-low (get_or s i 0) (drop (i + 1) s) l (omega arith))

  pub tail-next : i < length s → 0x80 ≤ get_or s i 0 → get_or s i 0 ≤ 0xBF → charEnd s i ≡ i + 1
  unfolding charEnd
  tail-next h l m = let e = tail-width h l m in omega arith

  -- well-formed text begins with none of these, and behind its first character it is well-formed
  pub next-valid : i < length s → WellFormed (drop i s) → (0x80 ≤ get_or s i 0 → 0xBF < get_or s i 0) × WellFormed (drop (charEnd s i) s)
  unfolding charEnd
  next-valid h w =
      let d = length-drop i s in
      let f = first-char w (omega arith) in
      let k : i + width (drop i s) ≡ suc i + (width (drop i s) - 1) = let x = f.0 in omega arith in
      (λ l. ⊎_elim (λ m. m) (λ m. let z = tail-width h l m in let x = f.0 in absurd (omega arith)) (cases_lt 0xBF (get_or s i 0)), rw (drop-drop, k) at f.1)

-- ---- a class of ASCII characters is tested on the byte; past the end the byte counts as 0

pub head-byte : (p : ℕ → Bool) → AsciiClass p → (s : List ℕ) (i : ℕ) → headIs p (from s i) ≡ p (get_or s i 0)
head-byte p a s i = ⊎_elim (λ h. ⊎_elim (low h) (high h) (cases_lt (get_or s i 0) 0x80)) past (cases_lt i (length s))
  where
    past : length s ≤ i → headIs p (from s i) ≡ p (get_or s i 0)
    past h = ap (headIs p) (at-end s i h) ∙ sym (ap p (get_or-eq_default s 0 h) ∙ a.nul)

    low : i < length s → get_or s i 0 < 0x80 → headIs p (from s i) ≡ p (get_or s i 0)
    low h l = ap (headIs p) (at-ascii s i h l)

    high : i < length s → 0x80 ≤ get_or s i 0 → headIs p (from s i) ≡ p (get_or s i 0)
    high h l = ap (headIs p) (at-char s i h) ∙ a.wide (codeAt s i) (wide-code s i l) ∙ sym (a.wide (get_or s i 0) l)

-- ---- one step

pub step-text : (s : List ℕ) (i c w : ℕ) → decoded c w ≡ stepAt s i → (i < length s) × (codeAt s i ≡ c) × (charEnd s i ≡ i + w)
unfolding stepAt charEnd
step-text s i c w e = grind arith

pub step-none : (s : List ℕ) (i : ℕ) → None ≡ stepAt s i → length s ≤ i
unfolding stepAt
step-none s i e = ⊎_elim (λ h. let f = rw (lt-ltb i (length s) h) at e in cc) (λ h. h) (cases_lt i (length s))

-- ---- runs

module _ (p : Text → Bool) (s : List ℕ) (i : ℕ) where
  pub run-next : i < length s → p (from s i) ≡ true → afterRun p (from s (charEnd s i)) ≡ afterRun p (from s i)
  unfolding afterRun
  run-next h e = let q = at-char s i h in sym (ap (afterRun p) q ∙ rw (sym (ap p q) ∙ e, afterRun))

  pub run-stop : i < length s → p (from s i) ≡ false → i ≡ place (length s) (afterRun p (from s i))
  unfolding afterRun
  run-stop h e = let q = at-char s i h in sym (ap (λ x. place (length s) (afterRun p x)) q ∙ rw (sym (ap p q) ∙ e, afterRun))

  pub run-end : length s ≤ i → length s ≡ place (length s) (afterRun p (from s i))
  unfolding afterRun
  run-end k = rw (at-end s i k)

-- ---- past ASCII one may go byte by byte, also inside a character

module _ (s : List ℕ) where
  tails-past : (i k j : ℕ) → i < length s → j + k ≡ charEnd s i → i < j → PastWide (from s j) (from s (charEnd s i))
  tails-past i zero j h q l = let z : j ≡ charEnd s i = omega arith in rw z PastWide.stays
  tails-past i (suc k) j h q l =
      let n = next-on s i h in
      let t = wide-tail s i h j l (let z : j < charEnd s i = omega arith in z) in
      let b : j < length s = omega arith in
      let e = tail-next s j b t.0 t.1 in
      let r : PastWide (from s (charEnd s j)) (from s (charEnd s i)) = rw e (tails-past i k (j + 1) h (omega arith) (omega arith)) in
      rw (at-char s j b) (PastWide.passes (wide-code s j t.0) r)

  pub wide-past : (i : ℕ) → i < length s → 0x80 ≤ get_or s i 0
      → PastWide (from s i) (from s (charEnd s i)) × PastWide (from s (i + 1)) (from s (charEnd s i))
  wide-past i h e =
      let n = next-on s i h in
      let a : PastWide (from s i) (from s (charEnd s i)) = rw (at-char s i h) (PastWide.passes (wide-code s i e) PastWide.stays) in
      (a, tails-past i (charEnd s i - (i + 1)) (i + 1) h (omega arith) (omega arith))

-- a class at the character there
pub head-at : (p : ℕ → Bool) (s : List ℕ) (i : ℕ) → i < length s → headIs p (from s i) ≡ p (codeAt s i)
head-at p s i h = ap (headIs p) (at-char s i h)

-- a run that goes on past one character, or stops there; f: what the loop found at its start
module _ (p : ℕ → Bool) (s : List ℕ) (i : ℕ) (f : Text) where
  pub runs-on : i < length s → p (codeAt s i) ≡ true → afterRun (headIs p) (from s i) ≡ f → afterRun (headIs p) (from s (charEnd s i)) ≡ f
  runs-on h e q = run-next (headIs p) s i h (head-at p s i h ∙ e) ∙ q

  pub runs-out : i < length s → p (codeAt s i) ≡ false → afterRun (headIs p) (from s i) ≡ f → i ≡ place (length s) f
  runs-out h e q = run-stop (headIs p) s i h (head-at p s i h ∙ e) ∙ ap (place (length s)) q

  pub runs-end : length s ≤ i → afterRun (headIs p) (from s i) ≡ f → length s ≡ place (length s) f
  runs-end h q = run-end (headIs p) s i h ∙ ap (place (length s)) q
