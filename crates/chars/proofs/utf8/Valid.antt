-- UTF-8: the prefix that is measured is the longest valid one.
use Rattle.std.proofs.Common.{ℕ, zero, suc, ◌≤◌, ◌<◌, ◌+◌, ◌-◌, ◌≡◌, refl, sym, ◌∙◌, ap, Bool, true, false, ◌&&◌, ◌⊎◌, inl, inr, ⊎_elim, List, [], ◌∷◌, length, take, drop, length-drop, take_all, leb, ltb, arith, leb-true, ltb-true}
use Rattle.std.proofs.Math.Seq.{take-nil, take-length}
use Rattle.std.proofs.Math.Nat.{sub-zero}
use Rattle.std.proofs.lemmas.Bool.{lt-leb, cases_Bool}
use Rattle.std.proofs.Math.Bool.{and-false}
use Rattle.chars.specs.paper.Quoted.{between}
use Rattle.chars.specs.paper.Ranges.{Range, ◌to◌}
use Rattle.chars.specs.paper.Utf8.{table37, fits, Row, here, later, WellFormed, LongestValid, rowLength, width}
use Rattle.chars.specs.computed.Valid.{validFrom, validPrefix}
use Rattle.chars.proofs.Bools.{clash, and-both}

-- ---- the table: each row's first range lies above those before it

abbrev above : ℕ → List (List Range) → Bool
above h [] = true
above h ([] ∷ rows) = false
above h ((◌to◌ low high ∷ row) ∷ rows) = ltb h low && above h rows

abbrev rising : List (List Range) → Bool
rising [] = true
rising ([] ∷ rows) = false
rising ((◌to◌ low high ∷ row) ∷ rows) = above high rows && rising rows

out : (low high b : ℕ) → high < b → between low high b ≡ false
out low high b h = rw (lt-leb b high h) (and-false (leb low b))

-- a row above h has a first byte above h
first-above : (h : ℕ) {rows : List (List Range)} {row : List Range} → above h rows ≡ true → Row rows row → (t : List ℕ) → fits row t ≡ true → (b : ℕ) × (u : List ℕ) × (t ≡ b ∷ u) × (h < b)
first-above h {rows = [] ∷ rows} e here t f = clash e
first-above h {rows = (◌to◌ low high ∷ r) ∷ rows} e here [] f = clash f
first-above h {rows = (◌to◌ low high ∷ r) ∷ rows} e here (b ∷ u) f =
    let x = ltb-true h low (and-both (ltb h low) (above h rows) e).0 in
    let y = (and-both (between low high b) (fits r u) f).0 in
    let z = leb-true low b (and-both (leb low b) (leb b high) y).0 in
    (b, u, refl, omega arith)
first-above h {rows = [] ∷ rows} e (later w) t f = clash e
first-above h {rows = (◌to◌ low high ∷ r) ∷ rows} e (later w) t f = first-above h (and-both (ltb h low) (above h rows) e).1 w t f
first-above h {rows = []} e w t f = elim w [ ]

-- the row that fits is the one that is found
first-fit : {rows : List (List Range)} {row : List Range} → rising rows ≡ true → Row rows row → (t : List ℕ) → fits row t ≡ true → rowLength rows t ≡ length row
first-fit e here t f = rw f
first-fit {rows = [] ∷ rows} e (later w) t f = clash e
first-fit {rows = (◌to◌ low high ∷ r) ∷ rows} e (later w) t f =
    let h = and-both (above high rows) (rising rows) e in
    let a = first-above high h.0 w t f in
    let n : fits (◌to◌ low high ∷ r) t ≡ false = ap (fits (◌to◌ low high ∷ r)) a.2 ∙ rw (out low high a.0 a.3) in
    rw n (first-fit h.1 w t f)

-- what is found is a row that fits
found-fit : (rows : List (List Range)) (t : List ℕ) → (rowLength rows t ≡ 0) ⊎ ((row : List Range) × Row rows row × (fits row t ≡ true) × (rowLength rows t ≡ length row))
found-fit [] t = inl refl
found-fit (row ∷ rows) t = elim (cases_Bool (fits row t)) [
  | inl e ↦ inr (row, here, e, rw e)
  | inr e ↦ ⊎_elim (λ h. inl (rw e h)) (λ h. inr (h.0, later h.1, h.2, rw e h.3)) (found-fit rows t)
]

-- the same of the width
pub width-fit : {row : List Range} → Row table37 row → (t : List ℕ) → fits row t ≡ true → width t ≡ length row
unfolding width
width-fit w t f = first-fit refl w t f

pub width-found : (t : List ℕ) → (width t ≡ 0) ⊎ ((row : List Range) × Row table37 row × (fits row t ≡ true) × (width t ≡ length row))
unfolding width
width-found t = found-fit table37 t

-- ---- a row and a prefix

-- a row that is met lies within the text
pub fit-length : (row : List Range) (t : List ℕ) → fits row t ≡ true → length row ≤ length t
fit-length [] t e = omega arith
fit-length (◌to◌ low high ∷ row) [] e = clash e
fit-length (◌to◌ low high ∷ row) (b ∷ t) e = let h = fit-length row t (and-both (between low high b) (fits row t) e).1 in omega arith

-- the same at a place
pub fit-within : (x : Range) (row : List Range) (s : List ℕ) (i : ℕ) → fits (x ∷ row) (drop i s) ≡ true
    → i + length (x ∷ row) ≤ length s
fit-within x row s i e = let l = fit-length (x ∷ row) (drop i s) e in let d = length-drop i s in omega arith

fits-take : (row : List Range) (t : List ℕ) (m : ℕ) → fits row t ≡ true → length row ≤ m → fits row (take m t) ≡ true
fits-take [] t m e l = refl
fits-take (◌to◌ low high ∷ row) [] m e l = clash e
fits-take (◌to◌ low high ∷ row) (b ∷ t) zero e l = absurd (omega arith)
fits-take (◌to◌ low high ∷ row) (b ∷ t) (suc m) e l = let h = and-both (between low high b) (fits row t) e in rw h.0 (fits-take row t m h.1 (omega arith))

take-fits : (row : List Range) (t : List ℕ) (m : ℕ) → fits row (take m t) ≡ true → (fits row t ≡ true) × (length row ≤ m) × (length row ≤ length t)
take-fits [] t m e = (refl, omega arith, omega arith)
take-fits (◌to◌ low high ∷ row) [] zero e = clash e
take-fits (◌to◌ low high ∷ row) [] (suc m) e = clash e
take-fits (◌to◌ low high ∷ row) (b ∷ t) zero e = clash e
take-fits (◌to◌ low high ∷ row) (b ∷ t) (suc m) e =
    let h = and-both (between low high b) (fits row (take m t)) e in
    let k = take-fits row t m h.1 in
    (rw h.0 k.0, omega arith, omega arith)

drop-take : (f t : ℕ) (l : List ℕ) → drop f (take t l) ≡ take (t - f) (drop f l)
drop-take zero t l = rw sub-zero
drop-take (suc f) zero l = let q : 0 - suc f ≡ 0 = omega arith in rw q
drop-take (suc f) (suc t) [] = sym (take-nil (suc t - suc f))
drop-take (suc f) (suc t) (x ∷ l) = let q : suc t - suc f ≡ t - f = omega arith in rw q (drop-take f t l)

-- ---- the measure

pub valid-shift : (i k : ℕ) (s : List ℕ) → validFrom i k s ≡ i + validFrom 0 k s
unfolding validFrom
valid-shift i k [] = omega arith
valid-shift i (suc k) (b ∷ s) = let x = valid-shift (suc i) k s in let y = valid-shift 1 k s in omega arith
valid-shift i zero (b ∷ s) = go (width (b ∷ s)) (λ i k. valid-shift i k s)
  where
    go : (r : ℕ) → ((i k : ℕ) → validFrom i k s ≡ i + validFrom 0 k s) → ◌≡◌ {A = ℕ} (elim r [ zero ↦ i | suc k ↦ validFrom (suc i) k s ]) (i + elim r [ zero ↦ 0 | suc k ↦ validFrom 1 k s ])
    go zero h = omega arith
    go (suc k) h = let x = h (suc i) k in let y = h 1 k in omega arith

valid-pass : (k : ℕ) (s : List ℕ) → k ≤ length s → validFrom 0 k s ≡ k + validFrom 0 0 (drop k s)
unfolding validFrom
valid-pass zero s l = omega arith
valid-pass (suc k) [] l = absurd (omega arith)
valid-pass (suc k) (b ∷ s) l = let x = valid-shift 1 k s in let y = valid-pass k s (omega arith) in omega arith

pub valid-none : (t : List ℕ) → width t ≡ 0 → validPrefix t ≡ 0
unfolding validFrom
valid-none [] e = refl
valid-none (b ∷ s) e = rw (e, validFrom)

pub valid-past : (w : ℕ) (t : List ℕ) → width t ≡ w → 0 < w → w ≤ length t → validPrefix t ≡ w + validPrefix (drop w t)
unfolding validFrom
valid-past zero t e h l = absurd (omega arith)
valid-past (suc k) [] e h l = absurd (omega arith)
valid-past (suc k) (b ∷ s) e h l =
    let q : validPrefix (b ∷ s) ≡ validFrom 1 k s = rw (e, validFrom) in let x = valid-shift 1 k s in let y = valid-pass k s (omega arith) in omega arith

-- a row is never empty: one computed test
abbrev none-empty : List (List Range) → Bool
none-empty [] = true
none-empty (row ∷ rows) = leb 1 (length row) && none-empty rows

row-long : {rows : List (List Range)} {row : List Range} → none-empty rows ≡ true → Row rows row → 0 < length row
row-long {rows = row ∷ rows} e here = leb-true 1 (length row) (and-both (leb 1 (length row)) (none-empty rows) e).0
row-long {rows = other ∷ rows} e (later w) = row-long (and-both (leb 1 (length other)) (none-empty rows) e).1 w
row-long {rows = []} e w = elim w [ ]

-- one character in front
valid-char : (row : List Range) (t : List ℕ) → Row table37 row → fits row t ≡ true → length row ≤ length t → validPrefix t ≡ length row + validPrefix (drop (length row) t)
valid-char row t w f l = let k = row-long refl w in valid-past (length row) t (width-fit w t f) (omega arith) l

-- it is valid
valid-good : (fuel : ℕ) (t : List ℕ) → length t ≤ fuel → (validPrefix t ≤ length t) × WellFormed (take (validPrefix t) t)
unfolding validFrom
valid-good zero [] l = (omega arith, WellFormed.empty)
valid-good (suc fuel) [] l = (omega arith, WellFormed.empty)
valid-good zero (b ∷ s) l = absurd (omega arith)
valid-good (suc fuel) (b ∷ s) l = go (width-found (b ∷ s)) (λ t h. valid-good fuel t h)
  where
    go : (width (b ∷ s) ≡ 0) ⊎ ((row : List Range) × Row table37 row × (fits row (b ∷ s) ≡ true) × (width (b ∷ s) ≡ length row)) → ((t : List ℕ) → length t ≤ fuel → (validPrefix t ≤ length t) × WellFormed (take (validPrefix t) t))
        → (validPrefix (b ∷ s) ≤ length (b ∷ s)) × WellFormed (take (validPrefix (b ∷ s)) (b ∷ s))
    go (inl e) below = let z = valid-none (b ∷ s) e in (omega arith, rw z WellFormed.empty)
    go (inr (row, w, f, e)) below =
        let k = row-long refl w in
        let a = take-fits row (b ∷ s) (length (b ∷ s)) (fits-take row (b ∷ s) (length (b ∷ s)) f (fit-length row (b ∷ s) f)) in
        let d = length-drop (length row) (b ∷ s) in
        let h = below (drop (length row) (b ∷ s)) (omega arith) in
        let v = valid-char row (b ∷ s) w f a.2 in
        let m = drop-take (length row) (validPrefix (b ∷ s)) (b ∷ s) in
        let n : validPrefix (b ∷ s) - length row ≡ validPrefix (drop (length row) (b ∷ s)) = omega arith in
        (omega arith, WellFormed.char w (fits-take row (b ∷ s) (validPrefix (b ∷ s)) f (omega arith)) (rw (m, n) h.1))

-- none that is valid is longer
valid-most : {u : List ℕ} → WellFormed u → (m : ℕ) (t : List ℕ) → m ≤ length t → u ≡ take m t → m ≤ validPrefix t
valid-most WellFormed.empty zero t l e = omega arith
valid-most WellFormed.empty (suc m) [] l e = absurd (omega arith)
valid-most WellFormed.empty (suc m) (b ∷ t) l e = absurd (let z : ◌≡◌ {A = ℕ} 0 (suc (length (take m t))) = ap length e in omega arith)
valid-most (WellFormed.char {row} w f g) m t l e =
    let a = take-fits row t m (ap (fits row) (sym e) ∙ f) in
    let v = valid-char row t w a.0 a.2 in
    let d = length-drop (length row) t in
    let h = valid-most g (m - length row) (drop (length row) t) (omega arith) (ap (drop (length row)) e ∙ drop-take (length row) m t) in
    omega arith

pub valid : (s : List ℕ) → LongestValid s (validPrefix s)
valid s = let h = valid-good (length s) s (omega arith) in record { within = h.0; valid = h.1; most = λ m l w. valid-most w m s l refl }

-- ---- what follows

-- a text has one longest valid prefix
pub longest-one : {s : List ℕ} {m n : ℕ} → LongestValid s m → LongestValid s n → m ≡ n
longest-one {m} {n} h k = let a = h.most n k.within k.valid in let b = k.most m h.within h.valid in omega arith

-- a text is well-formed where all of it is measured
pub valid-all : (s : List ℕ) → WellFormed s → validPrefix s ≡ length s
valid-all s w =
    let v = valid s in
    let w' : WellFormed (take (length s) s) = rw take-length w in
    let a = v.most (length s) (omega arith) w' in
    let b = v.within in
    omega arith

pub all-valid : (s : List ℕ) → length s ≤ validPrefix s → WellFormed s
all-valid s l = let v = valid s in rw (take_all (validPrefix s) s l) at v.valid

-- one character of a well-formed text: it has bytes, and what follows it is well-formed
pub first-char : {t : List ℕ} → WellFormed t → 0 < length t → (0 < width t) × WellFormed (drop (width t) t)
first-char WellFormed.empty h = absurd (omega arith)
first-char {t} (WellFormed.char {row} w f g) h = let e = width-fit w t f in let k = row-long refl w in (omega arith, rw e g)
