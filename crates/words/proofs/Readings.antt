-- What is read: bytes from a place on, and the number that they make.
use Rattle.std.proofs.Common.{◌≡◌, ℕ, ◌+◌, ◌*◌, ◌<◌, ◌≤◌, List, length, get_or, map, take, drop, ◌∙◌, ap, add-zero, add_assoc, arith, get_or-take, get_or-drop}
use Rattle.std.proofs.Math.Seq.{length-take-le}
use Rattle.std.proofs.lemmas.List.FromFn.{fill_by_all}
use Rattle.std.specs.Int.{w16, w32, w64, from_le_bytes}
use Rattle.std.specs.List.{range_with_len}
use Rattle.words.proofs.Joins.{joins}
use Rattle.words.specs.Words.{oneAt, twoAt, fourAt, eightAt}

-- n bytes from a place on
abbrev pub bytesAt : List ℕ → ℕ → ℕ → List ℕ
bytesAt bytes at n = map (λ i. oneAt bytes (at + i)) (range_with_len 0 n)

module _ (bytes rest found : List ℕ) (at n : ℕ) where
  -- where all of them are there
  pub bytes-there : rest ≡ drop at bytes → n ≤ length rest → found ≡ take n rest → found ≡ bytesAt bytes at n
  bytes-there e h q =
      fill_by_all (λ i. oneAt bytes (at + i)) found n 0 (rw q (length-take-le n rest h))
      (λ k j. rw (q, e) (get_or-take n (drop at bytes) k 0 j ∙ get_or-drop at bytes k 0))

-- one by one
pub bytes-each : (bytes found : List ℕ) (at n : ℕ) → length found ≡ n → ((k : ℕ) → k < n → get_or found k 0 ≡ oneAt bytes (at + k)) → found ≡ bytesAt bytes at n
bytes-each bytes found at n e h = fill_by_all (λ i. oneAt bytes (at + i)) found n 0 e h

-- ---- the number that they make

two-le : (bytes : List ℕ) (at : ℕ) → from_le_bytes w16 (bytesAt bytes at 2) ≡ twoAt bytes at
unfolding twoAt
two-le bytes at = ap (λ i. oneAt bytes i + oneAt bytes (at + 1) * 256) (add-zero at)

-- eight bytes as two fours
eight-parts : (l a b c d : ℕ) → l + a * 4294967296 + b * 1099511627776 + c * 281474976710656 + d * 72057594037927936
    ≡ l + (a + b * 256 + (c + d * 256) * 65536) * 4294967296
eight-parts l a b c d = omega arith

four-le : (bytes : List ℕ) (at : ℕ) → from_le_bytes w32 (bytesAt bytes at 4) ≡ fourAt bytes at
unfolding fourAt twoAt
four-le bytes at = grind arith

upper-four : (l : List ℕ) (i : ℕ) → oneAt l (i + 4) + oneAt l (i + 5) * 256 + (oneAt l (i + 6) + oneAt l (i + 7) * 256) * 65536 ≡ fourAt l (i + 4)
unfolding fourAt twoAt
upper-four l i = simp add_assoc

eight-le : (bytes : List ℕ) (at : ℕ) → from_le_bytes w64 (bytesAt bytes at 8) ≡ eightAt bytes at
unfolding eightAt
eight-le bytes at =
    let b = oneAt bytes in
    eight-parts (from_le_bytes w32 (bytesAt bytes at 4)) (b (at + 4)) (b (at + 5)) (b (at + 6)) (b (at + 7))
    ∙ ap (λ n. n + (b (at + 4) + b (at + 5) * 256 + (b (at + 6) + b (at + 7) * 256) * 65536) * 4294967296) (four-le bytes at)
    ∙ ap (λ n. fourAt bytes at + n * 4294967296) (upper-four bytes at)

module _ (bytes found : List ℕ) (at n r : ℕ) where
  pub two-made : found ≡ bytesAt bytes at 2 → n ≡ from_le_bytes w16 found → r ≡ n → r ≡ twoAt bytes at
  two-made p q e = e ∙ q ∙ ap (from_le_bytes w16) p ∙ two-le bytes at

  pub four-made : found ≡ bytesAt bytes at 4 → n ≡ from_le_bytes w32 found → r ≡ n → r ≡ fourAt bytes at
  four-made p q e = e ∙ q ∙ ap (from_le_bytes w32) p ∙ four-le bytes at

pub eight-made : (bytes found : List ℕ) (at r : ℕ) → found ≡ bytesAt bytes at 8 → r ≡ from_le_bytes w64 found → r ≡ eightAt bytes at
eight-made bytes found at r p q = q ∙ ap (from_le_bytes w64) p ∙ eight-le bytes at

pub ruleset readings = (two-made, four-made, eight-made, joins)
