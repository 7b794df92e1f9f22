-- What std calls UTF-8 is what Table 3-7 calls well-formed: the bytes of a row are those that std writes for a code, and those meet a row.
use Rattle.std.proofs.Common.{ℕ, ◌+◌, ◌-◌, ◌*◌, ◌/◌, ◌≤◌, ◌<◌, ◌≡◌, refl, sym, subst, true, inl, inr, ⊎_elim, List, [], ◌∷◌, ◌++◌, length, take, drop, take_all, arith, le-leb, lt-ltb, le-ltb}
use lib.Utf8.{scalar, scalars, scalar_cases, encode, encodes, next}
use Rattle.std.specs.Str.{IsUtf8, IsValidUpTo}
use Rattle.std.specs.Str.Lossy.{utf8_valid_len}
use Rattle.std.proofs.lemmas.Bool.{cases_lt, cases_eq}
use Rattle.std.proofs.lemmas.Str.{IsUtf8-nil, IsUtf8-append, IsUtf8-encode, utf8_valid_len-IsUtf8, utf8_valid_len-IsValidUpTo}
use Rattle.chars.specs.paper.Utf8.{WellFormed}
use Rattle.chars.specs.computed.Valid.{validPrefix}
use Rattle.chars.specs.computed.Encoded.{encoded}
use Rattle.chars.specs.promises.Utf8.{isScalar}
use Rattle.chars.specs.promises.StdUtf8.{StdLaws}
use Rattle.chars.proofs.Bools.{and-both}
use Rattle.chars.proofs.classes.Ranges.{between-out}
use Rattle.chars.proofs.utf8.Valid.{valid, valid-all, all-valid}
use Rattle.chars.proofs.utf8.Wide.{Stood, met}
use Rattle.chars.proofs.theorems.Encodes.{encoded-valid}

-- ---- what std writes is well-formed

-- std writes a code as it is written here
same-bytes : (c : ℕ) → encoded c ≡ encode c
unfolding encode
same-bytes c = refl

scalar-is : (c : ℕ) → scalar c ≡ true → isScalar c ≡ true
scalar-is c e =
    ⊎_elim (λ h. rw (le-leb c 0x10FFFF (omega arith), between-out 0xD800 0xDFFF c (λ l. omega arith)))
    (λ h. let a = h.0 in let b = h.1 in rw (le-leb c 0x10FFFF (omega arith), between-out 0xD800 0xDFFF c (λ l. omega arith))) (scalar_cases c e)

writes-rows : (cs : List ℕ) → scalars cs ≡ true → WellFormed (encodes cs)
writes-rows [] e = WellFormed.empty
writes-rows (c ∷ cs) e =
    let h = and-both (scalar c) (scalars cs) e in
    subst (λ b. WellFormed (b ++ encodes cs)) (same-bytes c) (encoded-valid c (scalar-is c h.0) (encodes cs) (writes-rows cs h.1))

from-std : (s : List ℕ) → IsUtf8 s → WellFormed s
from-std s (cs, (e, b)) = subst WellFormed b (writes-rows cs e)

-- ---- a row is what std writes

-- a code that is no surrogate
is-scalar : (c : ℕ) → c < 0x110000 → (0xD800 ≤ c → 0xE000 ≤ c) → scalar c ≡ true
is-scalar c h k = ⊎_elim (λ l. rw (lt-ltb c 0xD800 l)) (λ l. rw (le-ltb c 0xD800 l, le-leb 0xE000 c (k l), lt-ltb c 0x110000 h)) (cases_lt c 0xD800)

-- what is written for it, before a text
before : (c : ℕ) (b t : List ℕ) → scalar c ≡ true → encode c ≡ b → IsUtf8 t → IsUtf8 (b ++ t)
before c b t e q u = subst (λ b. IsUtf8 (b ++ t)) q (IsUtf8-append (encode c) t (IsUtf8-encode c e) u)

-- what a character's bytes are written for, by their number
row-text : {w : ℕ} {t : List ℕ} → Stood w t → IsUtf8 (drop w t) → IsUtf8 t
unfolding encode
row-text (Stood.one {x} {t} a) u = before x (x ∷ []) t (is-scalar x (omega arith) (λ l. omega arith)) (rw (lt-ltb x 0x80 (omega arith))) u
row-text (Stood.two {x} {y} {t} a b p) u =
    let c = (x - 0xC0) * 64 + (y - 0x80) in
    let i : 0xC0 + c / 64 ≡ x = omega arith in
    let j : next c ≡ y = omega arith in
    before c (x ∷ y ∷ []) t (is-scalar c (omega arith) (λ l. omega arith)) (rw (le-ltb c 0x80 (omega arith), lt-ltb c 0x800 (omega arith), i, j)) u
row-text (Stood.three {x} {y} {z} {t} a b p q m n) u =
    let c = (x - 0xE0) * 4096 + (y - 0x80) * 64 + (z - 0x80) in
    let low : 0x800 ≤ c = ⊎_elim (λ k. omega arith) (λ k. omega arith) m in
    let no-surrogate : 0xD800 ≤ c → 0xE000 ≤ c = λ l. elim (cases_eq x 0xED) [ inl e ↦ (let k = n e in omega arith) | inr e ↦ omega arith ] in
    let i : 0xE0 + c / 4096 ≡ x = omega arith in
    let j : next (c / 64) ≡ y = omega arith in
    let k : next c ≡ z = omega arith in
    before c (x ∷ y ∷ z ∷ []) t (is-scalar c (omega arith) no-surrogate) (rw (le-ltb c 0x80 (omega (arith, low)), le-ltb c 0x800 low, lt-ltb c 0x10000 (omega arith), i, j, k)) u
row-text (Stood.four {x} {y} {z} {v} {t} a b p q r m n) u =
    let c = (x - 0xF0) * 262144 + (y - 0x80) * 4096 + (z - 0x80) * 64 + (v - 0x80) in
    let low : 0x10000 ≤ c = ⊎_elim (λ k. omega arith) (λ k. omega arith) m in
    let high : c < 0x110000 = ⊎_elim (λ k. omega arith) (λ k. omega arith) n in
    let i : 0xF0 + c / 262144 ≡ x = omega arith in
    let j : next (c / 4096) ≡ y = omega arith in
    let k : next (c / 64) ≡ z = omega arith in
    let l : next c ≡ v = omega arith in
    before c (x ∷ y ∷ z ∷ v ∷ []) t (is-scalar c high (λ n. omega (arith, low)))
    (rw (le-ltb c 0x80 (omega (arith, low)), le-ltb c 0x800 (omega (arith, low)), le-ltb c 0x10000 low, i, j, k, l)) u

to-std : {s : List ℕ} → WellFormed s → IsUtf8 s
to-std WellFormed.empty = IsUtf8-nil
to-std {s} (WellFormed.char w f g) = row-text (met w s f) (to-std g)

-- ---- what is measured

-- where less than all is measured, std stops at the same place
stops-there : (s : List ℕ) → validPrefix s < length s → IsValidUpTo s (validPrefix s)
stops-there s h = record { short = h; front = to-std (valid s).valid; longest = λ m l u. ⊎_elim (λ b. inner m l u (omega arith)) (λ b. outer m u b) (cases_lt m (length s)) }
  where
    inner : (m : ℕ) → validPrefix s < m → IsUtf8 (take m s) → m ≤ length s → ⊥
    inner m l u b = let a = (valid s).most m b (from-std (take m s) u) in omega arith

    outer : (m : ℕ) → IsUtf8 (take m s) → length s ≤ m → ⊥
    outer m u b = let a = valid-all s (from-std s (subst IsUtf8 (take_all m s b) u)) in omega arith

same-length : (s : List ℕ) → validPrefix s ≡ utf8_valid_len s
same-length s = ⊎_elim (λ h. sym (utf8_valid_len-IsValidUpTo s (validPrefix s) (stops-there s h))) (λ h. whole h) (cases_lt (validPrefix s) (length s))
  where
    whole : length s ≤ validPrefix s → validPrefix s ≡ utf8_valid_len s
    whole h = let w = all-valid s h in let a = valid-all s w in let b = utf8_valid_len-IsUtf8 s (to-std w) in omega arith

pub std-laws : StdLaws
std-laws = record {
  same-length = same-length;
  same-texts = λ s. (λ e. to-std (all-valid s (omega arith)), λ u. valid-all s (from-std s u));
}
