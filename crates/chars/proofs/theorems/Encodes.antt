-- What `encoded` writes for a scalar value meets a row of Table 3-7, and decodes to the code again.
use Rattle.std.proofs.Common.{ℕ, ◌+◌, ◌*◌, ◌/◌, ◌%◌, ◌≤◌, ◌<◌, ◌≡◌, refl, ◌∙◌, true, cond, not, ⊎_elim, List, [], ◌∷◌, ◌++◌, length, leb, ltb, arith, leb-true, lt-ltb, le-ltb}
use Rattle.std.proofs.Math.Seq.{drop-append_seam}
use Rattle.std.proofs.lemmas.Bool.{cases_lt, not-true}
use Rattle.chars.specs.paper.Quoted.{between}
use Rattle.chars.specs.paper.Ranges.{Range, ◌to◌}
use Rattle.chars.specs.paper.Utf8.{table37, fits, Row, here, later, WellFormed, width, codeOf}
use Rattle.chars.specs.computed.Encoded.{encoded}
use Rattle.chars.specs.promises.Utf8.{isScalar, EncodingLaws}
use Rattle.chars.proofs.Bools.{and-both}
use Rattle.chars.proofs.classes.Ranges.{between-in, not-between}
use Rattle.chars.proofs.utf8.Valid.{width-fit}

-- the bytes t are one character, of the code c: they meet a row, whatever follows them
record Writes (c : ℕ) (t : List ℕ) : Type 0 where
  row : List Range
  is-row : Row table37 row
  long : length row ≡ length t
  met : (rest : List ℕ) → fits row (t ++ rest) ≡ true
  code : (rest : List ℕ) → codeOf (length t) (t ++ rest) ≡ c

-- ---- by the number of bytes

-- the bits of a byte that follows the first
bits : (x : ℕ) → (0x80 + x % 64) % 64 ≡ x % 64
bits x = omega arith

-- the bits of the first of four
first : (c : ℕ) → c < 0x110000 → (0xF0 + c / 262144) % 8 ≡ c / 262144
first c h = omega arith

-- together they are the code
joined : (c : ℕ) → c / 262144 * 262144 + c / 4096 % 64 * 4096 + c / 64 % 64 * 64 + c % 64 ≡ c
joined c = omega arith

module _ (c : ℕ) where
  one : c < 0x80 → Writes c (c ∷ [])
  unfolding codeOf
  one h = record {
    row = 0x00 to 0x7F ∷ [];
    is-row = here;
    long = refl;
    met = λ rest. rw (between-in 0x00 0x7F c (omega arith) (omega arith));
    code = λ rest. refl;
  }

  two : 0x80 ≤ c → c < 0x800 → Writes c ((0xC0 + c / 64) ∷ (0x80 + c % 64) ∷ [])
  unfolding codeOf
  two l h = record {
    row = 0xC2 to 0xDF ∷ 0x80 to 0xBF ∷ [];
    is-row = later here;
    long = refl;
    met = λ rest. rw (between-in 0xC2 0xDF (0xC0 + c / 64) (omega arith) (omega arith), between-in 0x80 0xBF (0x80 + c % 64) (omega arith) (omega arith));
    code = λ rest. omega arith;
  }

  -- a row of three bytes, whose first two ranges are a to b and p to q
  three : {a b p q : ℕ} → Row table37 (a to b ∷ p to q ∷ 0x80 to 0xBF ∷ []) → c < 0x10000
      → a ≤ 0xE0 + c / 4096 → 0xE0 + c / 4096 ≤ b → p ≤ 0x80 + c / 64 % 64 → 0x80 + c / 64 % 64 ≤ q
      → Writes c ((0xE0 + c / 4096) ∷ (0x80 + c / 64 % 64) ∷ (0x80 + c % 64) ∷ [])
  unfolding codeOf
  three {a} {b} {p} {q} w h i j k l = record {
    row = a to b ∷ p to q ∷ 0x80 to 0xBF ∷ [];
    is-row = w;
    long = refl;
    met = λ rest. rw (between-in a b (0xE0 + c / 4096) i j, between-in p q (0x80 + c / 64 % 64) k l, between-in 0x80 0xBF (0x80 + c % 64) (omega arith) (omega arith));
    code = λ rest. omega arith;
  }

  four : {a b p q : ℕ} → Row table37 (a to b ∷ p to q ∷ 0x80 to 0xBF ∷ 0x80 to 0xBF ∷ []) → c < 0x110000
      → a ≤ 0xF0 + c / 262144 → 0xF0 + c / 262144 ≤ b → p ≤ 0x80 + c / 4096 % 64 → 0x80 + c / 4096 % 64 ≤ q
      → Writes c ((0xF0 + c / 262144) ∷ (0x80 + c / 4096 % 64) ∷ (0x80 + c / 64 % 64) ∷ (0x80 + c % 64) ∷ [])
  unfolding codeOf
  four {a} {b} {p} {q} w h i j k l = record {
    row = a to b ∷ p to q ∷ 0x80 to 0xBF ∷ 0x80 to 0xBF ∷ [];
    is-row = w;
    long = refl;
    met = λ rest.
        rw (between-in a b (0xF0 + c / 262144) i j, between-in p q (0x80 + c / 4096 % 64) k l, between-in 0x80 0xBF (0x80 + c / 64 % 64) (omega arith) (omega arith), between-in 0x80 0xBF (0x80 + c % 64) (omega arith) (omega arith));
    code = λ rest. rw (first c h, bits (c / 4096), bits (c / 64), bits c) (joined c);
  }

  -- ---- by the row

  -- below n and from n on
  split : {P : Type 0} (n : ℕ) → (c < n → P) → (n ≤ c → P) → P
  split n f g = ⊎_elim f g (cases_lt c n)

  -- what is written by such a test
  picked : (n : ℕ) {s t : List ℕ} → (c < n → Writes c s) → (n ≤ c → Writes c t) → Writes c (cond (ltb c n) s t)
  picked n f g = split n (λ h. rw (lt-ltb c n h) (f h)) (λ h. rw (le-ltb c n h) (g h))

  writes : isScalar c ≡ true → Writes c (encoded c)
  writes e =
      picked 0x80 one (λ l. picked 0x800 (two l) (λ m. picked 0x10000 (threes m) fours))
    where
      most : c ≤ 0x10FFFF
      most = leb-true c 0x10FFFF (and-both (leb c 0x10FFFF) (not (between 0xD800 0xDFFF c)) e).0

      no-surrogate : 0xD800 ≤ c → 0xDFFF < c
      no-surrogate = not-between 0xD800 0xDFFF c (not-true (between 0xD800 0xDFFF c) (and-both (leb c 0x10FFFF) (not (between 0xD800 0xDFFF c)) e).1)

      threes : 0x800 ≤ c → c < 0x10000 → Writes c ((0xE0 + c / 4096) ∷ (0x80 + c / 64 % 64) ∷ (0x80 + c % 64) ∷ [])
      threes l h =
          split 0x1000 (λ k. three (later (later here)) h (omega arith) (omega arith) (omega arith) (omega arith))
          (λ i. split 0xD000 (λ k. three (later (later (later here))) h (omega arith) (omega arith) (omega arith) (omega arith))
          (λ i. split 0xD800 (λ k. three (later (later (later (later here)))) h (omega arith) (omega arith) (omega arith) (omega arith))
          (λ i. let k = no-surrogate i in three (later (later (later (later (later here))))) h (omega arith) (omega arith) (omega arith) (omega arith))))

      fours : 0x10000 ≤ c → Writes c ((0xF0 + c / 262144) ∷ (0x80 + c / 4096 % 64) ∷ (0x80 + c / 64 % 64) ∷ (0x80 + c % 64) ∷ [])
      fours l =
          let h : c < 0x110000 = let m = most in omega arith in
          split 0x40000 (λ k. four (later (later (later (later (later (later here)))))) h (omega arith) (omega arith) (omega arith) (omega arith))
          (λ i. split 0x100000 (λ k. four (later (later (later (later (later (later (later here))))))) h (omega arith) (omega arith) (omega arith) (omega arith))
          (λ i. four (later (later (later (later (later (later (later (later here)))))))) h (omega arith) (omega arith) (omega arith) (omega arith)))

pub encoded-decodes : (c : ℕ) (rest : List ℕ) → isScalar c ≡ true
    → (width (encoded c ++ rest) ≡ length (encoded c)) × (codeOf (length (encoded c)) (encoded c ++ rest) ≡ c)
encoded-decodes c rest e = let w = writes c e in (width-fit w.is-row (encoded c ++ rest) (w.met rest) ∙ w.long, w.code rest)

pub encoded-valid : (c : ℕ) → isScalar c ≡ true → (rest : List ℕ) → WellFormed rest → WellFormed (encoded c ++ rest)
encoded-valid c e rest v =
    let w = writes c e in
    WellFormed.char w.is-row (w.met rest) (rw (w.long, drop-append_seam) v)

pub encoding-laws : EncodingLaws
encoding-laws = record { decodes = encoded-decodes; encodes-valid = encoded-valid }
