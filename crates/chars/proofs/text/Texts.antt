-- A script's texts: suffixes of a text, and each text of the script is the script's text from its own place on.
use Rattle.std.proofs.lemmas.Grind.{common_steps}
use Rattle.std.proofs.Common.{ℕ, zero, suc, ◌≤◌, ◌+◌, ◌-◌, ◌≡◌, refl, sym, ◌∙◌, ap, List, [], ◌∷◌, length, drop, drop_of_length-le, drop-drop, arith}
use Rattle.std.proofs.Math.Nat.{sub_self}
use Rattle.chars.specs.paper.Utf8.{width}
use Rattle.chars.specs.paper.Text.{Char, Text, charsAt, from, place}
use Rattle.chars.specs.promises.Texts.{Suffix, ScriptText}

-- ---- suffixes

pub suffix-refl : (s : Text) → Suffix s s
suffix-refl s = record { within = omega arith; rest-is = rw sub_self }

pub suffix-cons : {r s : Text} (c : Char) → Suffix r s → Suffix r (c ∷ s)
suffix-cons {r} {s} c h = grind arith

pub suffix-trans : {q r s : Text} → Suffix q r → Suffix r s → Suffix q s
suffix-trans {q} {r} {s} h k = grind (arith, common_steps)

pub suffix-same : {q r s : Text} → Suffix q s → Suffix r s → length q ≡ length r → q ≡ r
suffix-same {q} {r} {s} h k e = h.rest-is ∙ ap (λ n. drop (length s - n) s) e ∙ sym k.rest-is

pub drop-suffix : (k : ℕ) (s : Text) → Suffix (drop k s) s
drop-suffix zero s = suffix-refl s
drop-suffix (suc k) [] = suffix-refl []
drop-suffix (suc k) (c ∷ s) = suffix-cons c (drop-suffix k s)

-- ---- characters of bytes

pub chars-skip : (i k : ℕ) (t : List ℕ) → charsAt i k t ≡ charsAt (i + k) 0 (drop k t)
unfolding charsAt
chars-skip i zero t = ap (λ j. charsAt j 0 t) (omega arith)
chars-skip i (suc k) [] = refl
chars-skip i (suc k) (a ∷ t) = chars-skip (suc i) k t ∙ ap (λ j. charsAt j 0 (drop k t)) (omega arith)

no-cons : {A : Type 0} (c : Char) (s : Text) → [] ≡ c ∷ s → A
no-cons c s e = absurd (let z : ◌≡◌ {A = ℕ} 0 (suc (length s)) = ap length e in omega arith)

abbrev headAt : ℕ → Text → ℕ
headAt d [] = d
headAt d (c ∷ s) = c.at

-- the first character's place, and the text after it
chars-cons : (i : ℕ) (t : List ℕ) (c : Char) (s : Text) → charsAt i 0 t ≡ c ∷ s → (c.at ≡ i) × (k : ℕ) × (s ≡ charsAt (suc i + k) 0 (drop (suc k) t))
unfolding charsAt
chars-cons i [] c s e = no-cons c s e
chars-cons i (a ∷ t) c s e = (
  sym (ap (headAt 0) e),
  width (a ∷ t) - 1,
  sym (ap (drop 1) e) ∙ chars-skip (suc i) (width (a ∷ t) - 1) t,
)

-- no more characters than bytes
pub chars-length : (i k : ℕ) (t : List ℕ) → length (charsAt i k t) ≤ length t
unfolding charsAt
chars-length i k [] = omega arith
chars-length i (suc k) (a ∷ t) = let h = chars-length (suc i) k t in omega arith
chars-length i zero (a ∷ t) = let h = chars-length (suc i) (width (a ∷ t) - 1) t in omega arith

-- ---- texts of the script

pub text-at : (script : List ℕ) (c : Char) (s : Text) → ScriptText script (c ∷ s) → (from script c.at ≡ c ∷ s) × ScriptText script s
unfolding from
text-at script c s (i, e) =
    let h = chars-cons i (drop i script) c s e in
    let a : i + suc h.1 ≡ suc i + h.1 = omega arith in
    let q : drop (suc h.1) (drop i script) ≡ drop (suc i + h.1) script = drop-drop (suc h.1) i script ∙ ap (λ j. drop j script) a in (
      ap (λ j. charsAt j 0 (drop j script)) h.0 ∙ e,
      (suc i + h.1, sym (h.2 ∙ ap (charsAt (suc i + h.1) 0) q)),
    )

pub text-drop : (script : List ℕ) (k : ℕ) (s : Text) → ScriptText script s → ScriptText script (drop k s)
text-drop script zero s h = h
text-drop script (suc k) [] h = h
text-drop script (suc k) (c ∷ s) h = text-drop script k s (text-at script c s h).1

pub text-suffix : (script : List ℕ) (r s : Text) → Suffix r s → ScriptText script s → ScriptText script r
text-suffix script r s h t = rw h.rest-is (text-drop script (length s - length r) s t)

-- a text is the script's text from its own place on
pub text-place : (script : List ℕ) (s : Text) → ScriptText script s → from script (place (length script) s) ≡ s
unfolding from charsAt
text-place script [] h = ap (charsAt (length script) 0) (drop_of_length-le script {i = length script} (omega arith))
text-place script (c ∷ s) h = (text-at script c s h).0

pub from-length : (script : List ℕ) → length (from script 0) ≤ length script
unfolding from
from-length script = chars-length 0 0 script
