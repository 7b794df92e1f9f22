-- What stands at a byte offset, the longest valid prefix, and what is written for a code.
use Rattle.std.specs.Prelude.{ℕ, ◌+◌, ◌≤◌, ◌<◌, ◌≡◌, Bool, IsTrue, not, ◌&&◌, None, List, ◌++◌, length, drop, slice_index, nat_le}
use Rattle.chars.specs.paper.Quoted.{between}
use Rattle.chars.specs.paper.Utf8.{WellFormed, LongestValid, width, codeOf}
use Rattle.chars.specs.computed.Valid.{validPrefix}
use Rattle.chars.specs.computed.Encoded.{encoded}
use Rattle.chars.specs.code.Utf8.{decoded, decodeAt}
use Rattle.chars.specs.code.Text.{charEnd, codeAt}

pub record Decoding (s : List ℕ) (i : ℕ) : Type 0 where
  -- a character is 1 to 4 bytes wide and ends within the slice
  pub widths : (c w : ℕ) → decoded c w ≡ decodeAt s i → (1 ≤ w) × (w ≤ 4) × (i + w ≤ length s)
  -- a byte below 0x80 is itself
  pub ascii : i < length s → slice_index s i < 0x80 → decodeAt s i ≡ decoded (slice_index s i) 1
  -- a byte of 0x80 to 0xBF starts nothing, nor does 0xC0, 0xC1 or a byte of 0xF5 and above
  pub no-first : i < length s → 0x80 ≤ slice_index s i → slice_index s i ≤ 0xC1 → decodeAt s i ≡ None
  pub high : i < length s → 0xF5 ≤ slice_index s i → decodeAt s i ≡ None
  -- past the end nothing stands
  pub past : length s ≤ i → decodeAt s i ≡ None
  -- the text there begins with it
  pub in-text : (c w : ℕ) → decoded c w ≡ decodeAt s i → (codeAt s i ≡ c) × (charEnd s i ≡ i + w)

pub record ValidLaws : Type 0 where
  -- what is computed is the longest valid prefix, and a text has one
  pub valid : (s : List ℕ) → LongestValid s (validPrefix s)
  pub longest-one : {s : List ℕ} {m n : ℕ} → LongestValid s m → LongestValid s n → m ≡ n
  -- a text is well-formed exactly where that prefix is all of it
  pub valid-all : (s : List ℕ) → WellFormed s → validPrefix s ≡ length s
  pub all-valid : (s : List ℕ) → length s ≤ validPrefix s → WellFormed s
  -- well-formed text begins with no byte of 0x80 to 0xBF, and behind its first character it is well-formed
  pub next-valid : (s : List ℕ) (i : ℕ) → i < length s → WellFormed (drop i s)
      → (0x80 ≤ slice_index s i → 0xBF < slice_index s i) × WellFormed (drop (charEnd s i) s)

-- a code that UTF-8 can carry: a Unicode scalar value, at most U+10FFFF and no surrogate
abbrev pub isScalar : ℕ → Bool
isScalar c = nat_le c 0x10FFFF && not (between 0xD800 0xDFFF c)

-- the bytes that are written for a code
pub record EncodingLaws : Type 0 where
  -- what is written for a scalar value is one well-formed character of Table 3-7, whatever follows it, and decodes to the code again
  pub decodes : (c : ℕ) (rest : List ℕ) → IsTrue (isScalar c)
      → (width (encoded c ++ rest) ≡ length (encoded c)) × (codeOf (length (encoded c)) (encoded c ++ rest) ≡ c)
  -- put before well-formed text it gives well-formed text
  pub encodes-valid : (c : ℕ) → IsTrue (isScalar c) → (rest : List ℕ) → WellFormed rest → WellFormed (encoded c ++ rest)
