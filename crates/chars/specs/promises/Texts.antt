-- The text from a place on, the suffixes of a text, runs of characters.
use Rattle.std.specs.Prelude.{ℕ, ◌+◌, ◌-◌, ◌≤◌, ◌<◌, ◌≡◌, Bool, IsTrue, IsFalse, Some, None, List, [], ◌∷◌, length, drop, slice_index}
use Rattle.chars.specs.paper.Text.{Char, Text, from, place, headIs}
use Rattle.chars.specs.computed.Runs.{afterRun}
use Rattle.chars.specs.code.Utf8.{decoded}
use Rattle.chars.specs.declared.utf8.Decoded.{Decoded}
use Rattle.chars.specs.code.Text.{codeAt, charEnd, stepAt}

-- r is what is left of s after some characters
pub record Suffix (r s : Text) : Type 0 where
  pub within : length r ≤ length s
  pub rest-is : r ≡ drop (length s - length r) s

-- s is the script's text from some place on
abbrev pub ScriptText : List ℕ → Text → Type 0
ScriptText script s = (i : ℕ) × (from script i ≡ s)

-- a class of ASCII characters without NUL
pub record AsciiClass (p : ℕ → Bool) : Type 0 where
  pub nul : IsFalse (p 0)
  pub wide : (c : ℕ) → 0x80 ≤ c → IsFalse (p c)

-- r is what is left of s after some characters past ASCII
pub data PastWide : Text → Text → Type 0 where
  stays : {s : Text} → PastWide s s
  passes : {c : Char} {s r : Text} → 0x80 ≤ c.code → PastWide s r → PastWide (c ∷ s) r

pub record TextLaws : Type 0 where
  -- ---- at a place: the first character and the text from where it ends, which is further on and within the script; nothing past the end
  pub at-char : (s : List ℕ) (i : ℕ) → i < length s → from s i ≡ record { code = codeAt s i; at = i } ∷ from s (charEnd s i)
  pub next-on : (s : List ℕ) (i : ℕ) → i < length s → (i < charEnd s i) × (charEnd s i ≤ length s)
  pub at-end : (s : List ℕ) (i : ℕ) → length s ≤ i → from s i ≡ []
  -- the text from i on starts at i
  pub place-from : (s : List ℕ) (i : ℕ) → i ≤ length s → place (length s) (from s i) ≡ i
  -- an ASCII byte is a character
  pub at-ascii : (s : List ℕ) (i : ℕ) → i < length s → slice_index s i < 0x80 → from s i ≡ record { code = slice_index s i; at = i } ∷ from s (i + 1)
  pub ascii-code : (s : List ℕ) (i : ℕ) → i < length s → slice_index s i < 0x80 → codeAt s i ≡ slice_index s i
  pub ascii-next : (s : List ℕ) (i : ℕ) → i < length s → slice_index s i < 0x80 → charEnd s i ≡ i + 1
  -- what begins past ASCII has a code past ASCII; the other bytes of a character are 0x80 to 0xBF
  pub wide-code : (s : List ℕ) (i : ℕ) → 0x80 ≤ slice_index s i → 0x80 ≤ codeAt s i
  pub wide-tail : (s : List ℕ) (i : ℕ) → i < length s → (j : ℕ) → i < j → j < charEnd s i → (0x80 ≤ slice_index s j) × (slice_index s j ≤ 0xBF)
  -- from such a byte, and from one byte further, only characters past ASCII lie before the character's end
  pub wide-past : (s : List ℕ) (i : ℕ) → i < length s → 0x80 ≤ slice_index s i
      → PastWide (from s i) (from s (charEnd s i)) × PastWide (from s (i + 1)) (from s (charEnd s i))
  -- ---- a class of ASCII characters is seen by the byte there, which counts as 0 past the end
  pub head-byte : (p : ℕ → Bool) → AsciiClass p → (s : List ℕ) (i : ℕ) → headIs p (from s i) ≡ p (slice_index s i)
  -- ---- one step
  pub step-text : (s : List ℕ) (i c w : ℕ) → decoded c w ≡ stepAt s i → (i < length s) × (codeAt s i ≡ c) × (charEnd s i ≡ i + w)
  -- what is handed back has the classes of its code
  pub step-classes : (s : List ℕ) (i : ℕ) (d : Decoded) → Some d ≡ stepAt s i → Some d ≡ decoded d.code d.width
  pub step-none : (s : List ℕ) (i : ℕ) → None ≡ stepAt s i → length s ≤ i
  -- ---- suffixes
  pub suffix-refl : (s : Text) → Suffix s s
  pub suffix-cons : {r s : Text} (c : Char) → Suffix r s → Suffix r (c ∷ s)
  pub suffix-trans : {q r s : Text} → Suffix q r → Suffix r s → Suffix q s
  pub suffix-same : {q r s : Text} → Suffix q s → Suffix r s → length q ≡ length r → q ≡ r
  pub drop-suffix : (k : ℕ) (s : Text) → Suffix (drop k s) s
  -- ---- texts of the script: what is left of one is one too, and each is the script's text from its own place on
  pub text-at : (script : List ℕ) (c : Char) (s : Text) → ScriptText script (c ∷ s) → (from script c.at ≡ c ∷ s) × ScriptText script s
  pub text-drop : (script : List ℕ) (k : ℕ) (s : Text) → ScriptText script s → ScriptText script (drop k s)
  pub text-suffix : (script : List ℕ) (r s : Text) → Suffix r s → ScriptText script s → ScriptText script r
  pub text-place : (script : List ℕ) (s : Text) → ScriptText script s → from script (place (length script) s) ≡ s
  -- a script has no more characters than bytes
  pub from-length : (script : List ℕ) → length (from script 0) ≤ length script
  -- ---- runs: past a character of it the run is the same; where the test fails at once nothing is passed
  pub run-next : (p : Text → Bool) (s : List ℕ) (i : ℕ) → i < length s → IsTrue (p (from s i)) → afterRun p (from s (charEnd s i)) ≡ afterRun p (from s i)
  pub run-stays : (p : Text → Bool) (t : Text) → IsFalse (p t) → afterRun p t ≡ t
  -- it ends within the script, not before its start, and what stands there fails the test
  pub run-place : (p : Text → Bool) (s : List ℕ) (i r : ℕ) → i ≤ length s → r ≡ place (length s) (afterRun p (from s i))
      → (i ≤ r) × (r ≤ length s) × (from s r ≡ afterRun p (from s i))
  pub run-done : (p : Text → Bool) → IsFalse (p []) → (t : Text) → IsFalse (p (afterRun p t))
