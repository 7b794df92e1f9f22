-- The text between two places of a script is that of the bytes between them.
use Rattle.std.proofs.Common.{ℕ, zero, suc, ◌+◌, ◌-◌, ◌≤◌, ◌<◌, ◌≡◌, refl, sym, ◌∙◌, ap, subst, true, List, [], inl, inr, ◌∷◌, ◌++◌, length, take, drop, append_assoc, length-append, length-drop, arith}
use lib.Utf8.{scalar, scalars, scalar_cases, encode, encodes}
use Rattle.std.specs.Str.{IsUtf8, IsCharBoundary}
use Rattle.std.proofs.lemmas.Bool.{cases_lt}
use Rattle.std.proofs.lemmas.List.{take-append-drop, take_at, drop_at, drop-drop, length-take-le}
use Rattle.std.proofs.lemmas.Str.{IsUtf8-between, length-encode, len_utf8_bounds}
use Rattle.chars.specs.paper.Utf8.{WellFormed, width, codeOf}
use Rattle.chars.specs.paper.Text.{Text, from, place}
use Rattle.chars.specs.code.Text.{codeAt, charEnd}
use Rattle.chars.specs.promises.Utf8.{isScalar}
use Rattle.chars.specs.promises.Texts.{Suffix}
use Rattle.chars.proofs.Bools.{and-both}
use Rattle.chars.proofs.theorems.Promises.{text-laws, valid-laws}
use Rattle.chars.proofs.theorems.Encodes.{encoding-laws}
use Rattle.chars.proofs.theorems.StdUtf8.{std-laws}
use Rattle.token.specs.paper.Shapes.{textOf}
open text-laws use {at-char, at-end, next-on, place-from}
open valid-laws use {valid-all, next-valid}
open encoding-laws use {decodes}
open std-laws use {same-texts}

-- ---- the characters of bytes

-- characters of given codes, from the place i on
abbrev pub spelled : ℕ → List ℕ → Text
spelled i [] = []
spelled i (c ∷ cs) = record { code = c; at = i } ∷ spelled (i + length (encode c)) cs

scalar-is : (c : ℕ) → scalar c ≡ true → isScalar c ≡ true
scalar-is c e = grind (arith, scalar_cases)

-- what std writes for a code, with anything behind it, is read as that code
read-back : (c : ℕ) (rest : List ℕ) → scalar c ≡ true
    → (width (encode c ++ rest) ≡ length (encode c)) × (codeOf (length (encode c)) (encode c ++ rest) ≡ c)
unfolding encode
read-back c rest e = decodes c rest (scalar-is c e)

-- the text from where such bytes stand
spells : (script : List ℕ) (i : ℕ) (cs rest : List ℕ) → scalars cs ≡ true → drop i script ≡ encodes cs ++ rest
    → from script i ≡ spelled i cs ++ from script (i + length (encodes cs))
unfolding charEnd
spells script i [] rest e h = let k : i + 0 ≡ i = omega arith in rw k refl
spells script i (c ∷ cs) rest e h =
    let n = length-encode c in
    let m = len_utf8_bounds c in
    let x = and-both (scalar c) (scalars cs) e in
    let q : drop i script ≡ encode c ++ (encodes cs ++ rest) = h ∙ append_assoc (encode c) (encodes cs) rest in
    let l : i < length script = omega (arith, ap length q, length-append (encode c) (encodes cs ++ rest), length-drop i script) in
    let r = read-back c (encodes cs ++ rest) x.0 in
    let w : width (drop i script) ≡ length (encode c) = ap width q ∙ r.0 in
    let code : codeAt script i ≡ c = rw (w, q) r.1 in
    let next : charEnd script i ≡ i + length (encode c) = omega (arith, w) in
    let d : drop (i + length (encode c)) script ≡ encodes cs ++ rest =
    sym (drop-drop (length (encode c)) i script) ∙ ap (drop (length (encode c))) q ∙ drop_at (encode c) (encodes cs ++ rest) (length (encode c)) refl in
    let k : i + length (encode c) + length (encodes cs) ≡ i + length (encode c ++ encodes cs) = omega (arith, length-append (encode c) (encodes cs)) in
    at-char script i l ∙ rw (code, next) (ap (λ t. record { code = c; at = i } ∷ t)
    (spells script (i + length (encode c)) cs rest x.1 d ∙ ap (λ j. spelled (i + length (encode c)) cs ++ from script j) k))

-- the text between two places of a script, by the bytes between them
pub between-is : (script : List ℕ) (i j : ℕ) (cs : List ℕ) → i ≤ j → j ≤ length script → scalars cs ≡ true → encodes cs ≡ take (j - i) (drop i script)
    → textOf (from script i) (from script j) ≡ spelled i cs
between-is script i j cs l m e h =
    let d = length-drop i script in
    let n : length (encodes cs) ≡ j - i = ap length h ∙ length-take-le (j - i) (drop i script) (omega arith) in
    let k : i + length (encodes cs) ≡ j = omega arith in
    let q : drop i script ≡ encodes cs ++ drop (j - i) (drop i script) = sym (take-append-drop (j - i) (drop i script)) ∙ rw (← h) refl in
    let t : from script i ≡ spelled i cs ++ from script j = spells script i cs (drop (j - i) (drop i script)) e q ∙ rw k refl in
    let w : length (from script i) - length (from script j) ≡ length (spelled i cs) =
    omega (arith, ap length t, length-append (spelled i cs) (from script j)) in
    rw (w, t) (take_at (spelled i cs) (from script j) (length (spelled i cs)) refl)

-- ---- where characters begin in a well-formed script

module _ (script : List ℕ) (utf8 : WellFormed script) where
  pub record Begins (i : ℕ) : Type 0 where
    pub inside : i ≤ length script
    pub valid : WellFormed (drop i script)

  -- some characters further a character begins, or the script ends
  past : (k i : ℕ) → Begins i → (j : ℕ) × Begins j × (i ≤ j) × (drop k (from script i) ≡ from script j)
  past zero i b = (i, b, omega arith, refl)
  past (suc k) i b =
      elim (cases_lt i (length script)) [
        | inl l ↦
            let o = next-on script i l in
            let p = past k (charEnd script i) (record { inside = o.1; valid = (next-valid script i l b.valid).1 }) in
            (p.0, p.1, omega (arith, o.0, p.2), ap (drop (suc k)) (at-char script i l) ∙ p.3)
        | inr l ↦ (i, b, omega arith, rw (at-end script i l) refl)
      ]

  boundary : (i : ℕ) → Begins i → IsCharBoundary script i
  boundary i b = (b.inside, λ l m. omega (arith, (next-valid script i l b.valid).0 m))

  -- s is the script's text from where a character begins
  pub record TextAt (s : Text) : Type 0 where
    pub begins : Begins (place (length script) s)
    pub text : from script (place (length script) s) ≡ s

  text-by : (i : ℕ) {s : Text} → Begins i → s ≡ from script i → TextAt s
  text-by i b e =
      let p = ap (place (length script)) e ∙ place-from script i b.inside in
      record { begins = subst Begins (sym p) b; text = ap (from script) p ∙ sym e }

  pub text-start : TextAt (from script 0)
  text-start = text-by 0 (record { inside = omega arith; valid = utf8 }) refl

  -- what is left of such a text is one too, and the bytes between both are UTF-8
  pub text-left : {r s : Text} → Suffix r s → TextAt s → (place (length script) s ≤ place (length script) r) × TextAt r
  text-left {r} {s} h t =
      let i = place (length script) s in
      let p = past (length s - length r) i t.begins in
      let e : r ≡ from script p.0 = h.rest-is ∙ ap (drop (length s - length r)) (sym t.text) ∙ p.3 in
      let q = ap (place (length script)) e ∙ place-from script p.0 p.1.inside in
      (omega (arith, p.2, q), text-by p.0 p.1 e)

  pub utf8-between : {r s : Text} → TextAt s → TextAt r → place (length script) s ≤ place (length script) r
      → IsUtf8 (take (place (length script) r - place (length script) s) (drop (place (length script) s) script))
  utf8-between {r} {s} t u l =
      IsUtf8-between script (place (length script) s) (place (length script) r) ((same-texts script).0 (valid-all script utf8)) l
      (boundary _ t.begins) (boundary _ u.begins)
