-- What a reader may rely on: reading undoes writing, and writing undoes reading. The contract of `read::eight` asks for it.
use Rattle.std.specs.Prelude.{ℕ, ◌≤◌, ◌<◌, ◌≡◌, List, ◌++◌, slice_index, length, take, drop}
use Rattle.words.specs.Words.{le2, le4, le8, twoAt, fourAt, eightAt}

-- Every number of the list is a byte. Past the end stands 0, so that no place need be shown to be inside: so it is known of a lent slice too.
abbrev pub Bytes : List ℕ → Type 0
Bytes l = (i : ℕ) → slice_index l i < 256

pub record Joins : Type 0 where
  -- a number that fits its bytes is read back as it was written, whatever follows
  pub two-le2 : (x : ℕ) (l : List ℕ) → x < 65536 → twoAt (le2 x ++ l) 0 ≡ x
  pub four-le4 : (x : ℕ) (l : List ℕ) → x < 4294967296 → fourAt (le4 x ++ l) 0 ≡ x
  pub eight-le8 : (x : ℕ) (l : List ℕ) → x < 18446744073709551616 → eightAt (le8 x ++ l) 0 ≡ x
  -- the bytes of a number that is read are the bytes that it was read from, where there are enough of them
  pub le2-two : (l : List ℕ) → Bytes l → 2 ≤ length l → le2 (twoAt l 0) ≡ take 2 l
  pub le4-four : (l : List ℕ) → Bytes l → 4 ≤ length l → le4 (fourAt l 0) ≡ take 4 l
  pub le8-eight : (l : List ℕ) → Bytes l → 8 ≤ length l → le8 (eightAt l 0) ≡ take 8 l
  -- what bytes make fits
  pub two-fits : (l : List ℕ) (i : ℕ) → Bytes l → twoAt l i < 65536
  pub four-fits : (l : List ℕ) (i : ℕ) → Bytes l → fourAt l i < 4294967296
  pub eight-fits : (l : List ℕ) (i : ℕ) → Bytes l → eightAt l i < 18446744073709551616
  -- the number at a place is the first of what stands from there on
  pub two-drop : (l : List ℕ) (i : ℕ) → twoAt l i ≡ twoAt (drop i l) 0
  pub four-drop : (l : List ℕ) (i : ℕ) → fourAt l i ≡ fourAt (drop i l) 0
  pub eight-drop : (l : List ℕ) (i : ℕ) → eightAt l i ≡ eightAt (drop i l) 0
