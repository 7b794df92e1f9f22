-- RULES, "Refusals of a piece", declared: numbers 1 to 16, and which comes first.
use Rattle.std.specs.Prelude.{ℕ, ◌≤◌, ◌<◌, ◌≡◌, Bool, true, IsTrue, false, IsFalse, not, ◌||◌, ◌⊎◌, List, [], ◌∷◌, length}
use Rattle.chars.specs.paper.Quoted.{between}
use Rattle.chars.specs.paper.Text.{Char, Text, from, place}
use Rattle.token.specs.paper.Tests.{isAny, opensBlock, endsLine, quote, threeQuotes, backslash, dollarBrace, digit, hexDigit, notBacktick, apostrophe}
use Rattle.token.specs.paper.Kinds.{Kind}
use Rattle.token.specs.paper.Shapes.{One, Run, Times, ◌then◌, Block, NumberText, limit, Escape, Prefix, Character, Symbol, HasShape, Stands}
use Rattle.token.specs.paper.Reading.{Piece, Pieces}

-- RULES, "No shape begins": "Refusal 3 is met by a character with which no text of any kind begins, whatever follows." One begins with the character of
-- code x: some list of characters that begins with it, of this script or not, has a kind's shape. Any text may follow, so what is said of the text
-- after a piece excludes no first character.
pub data StartsShape (x : ℕ) : Type 0 where
  shape : (k : Kind) (c : Char) (s r : Text) → c.code ≡ x → HasShape k (c ∷ s) r → StartsShape x

-- a string opens at o for the piece that starts at s; p: it is prefixed
abbrev pub Opens : Bool → Text → Text → Type 0
Opens true s o = Prefix s o × IsTrue (quote o)
Opens false s o = (s ≡ o) × IsTrue (quote o)

-- RULES, "In a string": q is reached inside a single string, from "behind the opening quote, without passing the closing one." "All other characters are
-- passed, also what a string must not hold", since it is named by its place. In `"\` LF both 8 and 14 are met at the LF: if a wrong escape hid what
-- follows, 7 and 8 would never be met where 12 to 14 are, and that these go first there would say nothing.
pub data WithinSingle : Bool → Text → Text → Type 0 where
  here : {p : Bool} {s : Text} → WithinSingle p s s
  -- "In a prefixed one a backslash is content."
  char : {p : Bool} {c : Char} {s r : Text} → IsFalse (quote (c ∷ s)) → IsTrue (p || not (backslash (c ∷ s))) → WithinSingle p s r
      → WithinSingle p (c ∷ s) r
  -- "In a plain one a valid escape is passed as a whole; of a wrong one the backslash alone is passed, so that what stands behind it is reached too."
  escape : {s m r : Text} → Escape s m → WithinSingle false m r → WithinSingle false s r
  wrong-escape : {c : Char} {s r : Text} → IsTrue (backslash (c ∷ s)) → ((m : Text) → Escape (c ∷ s) m → ⊥) → WithinSingle false s r
      → WithinSingle false (c ∷ s) r

-- q is reached inside a single string of the piece that starts at s
abbrev pub InSingle : Bool → Text → Text → Type 0
InSingle p s q = (o : Text) × Opens p s o × IsFalse (threeQuotes o) × (One quote then WithinSingle p) o q

-- q is reached inside a triple string: "behind the three opening quotes, without passing three in a row."
abbrev pub InTriple : Bool → Text → Text → Type 0
InTriple p s q = (o : Text) × Opens p s o × IsTrue (threeQuotes o) × (Times quote 3 then Run (λ t. not (threeQuotes t))) o q

-- RULES, "Escapes that count": "12 to 14 concern only a backslash that opens an escape: one in a plain single string, or one directly behind the `'`
-- that starts a piece."
abbrev pub Slash : Text → Text → Type 0
Slash s b = (InSingle false s b ⊎ One apostrophe s b) × IsTrue (backslash b)

-- the escape that the backslash b opens is wrong, and q is the text from the refusal's place on
pub data BadEscape (b : Text) : ℕ → Text → Type 0 where
  -- "the script ends directly behind an escape's backslash"
  e12 : One backslash b [] → BadEscape b 12 []
  -- "fewer than four hexadecimal digits follow `\u`"; q is "where the next should be"
  e13 : {q : Text} (n : ℕ) → n < 4 → (One backslash then One (isAny "u") then Times hexDigit n) b q → IsFalse (hexDigit q) → BadEscape b 13 q
  -- "behind an escape's backslash stands a character that no escape has there"
  e14 : {c : Char} {r : Text} → One backslash b (c ∷ r) → IsFalse (isAny "btnfr'\"]" (c ∷ r) || digit (c ∷ r) || isAny "u" (c ∷ r))
      → BadEscape b 14 (c ∷ r)

-- For the piece that starts at s the refusal of this number is met, and q is the text from its place on.
pub data Met (s : Text) : ℕ → Text → Type 0 where
  -- "the start is a CR, and no LF follows directly"
  m1 : IsTrue (isAny "\r" s) → IsFalse (endsLine s) → Met s 1 s
  -- "a block comment begins at the start and is open at the script's end"
  m2 : IsTrue (opensBlock s) → ((r : Text) → Block s r → ⊥) → Met s 2 s
  -- "no shape begins with the character at the start, CR aside"
  m3 : {c : Char} {r : Text} → s ≡ c ∷ r → IsFalse (isAny "\r" s) → (StartsShape c.code → ⊥) → Met s 3 s
  -- "a backtick stands at the start, and none behind it closes it"
  m4 : (One (isAny "`") then Run notBacktick) s [] → Met s 4 s
  -- "two backticks stand at the start"
  m5 : {r : Text} → Times (isAny "`") 2 s r → Met s 5 s
  -- "the number at the start is above its kind's limit"
  m6 : (long : Bool) {v : ℕ} {r : Text} → NumberText long v s r → limit long < v → Met s 6 s
  -- "the script ends in a single string"
  m7 : (p : Bool) → InSingle p s [] → Met s 7 []
  -- "an LF stands in a single string"
  m8 : (p : Bool) {q : Text} → InSingle p s q → IsTrue (isAny "\n" q) → Met s 8 q
  -- "the script ends in a triple string"
  m9 : (p : Bool) → InTriple p s [] → Met s 9 []
  -- "a backslash stands in a triple string"
  m10 : (p : Bool) {q : Text} → InTriple p s q → IsTrue (backslash q) → Met s 10 q
  -- "`${` stands in a prefixed string"
  m11 : {q : Text} → InSingle true s q ⊎ InTriple true s q → IsTrue (dollarBrace q) → Met s 11 q
  -- 12 to 14
  m12 : {b q : Text} {j : ℕ} → Slash s b → BadEscape b j q → Met s j q
  -- "`'` and an escape stand at the start, and no `'` follows"
  m15 : {q : Text} → (One apostrophe then Escape) s q → IsFalse (apostrophe q) → Met s 15 q
  -- "behind a `'` at the start stands no backslash, and there is neither a character nor a symbol"
  m16 : {q : Text} → One apostrophe s q → IsFalse (backslash q) → ((r : Text) → Character s r → ⊥) → ((r : Text) → Symbol s r → ⊥) → Met s 16 q

-- RULES, "The first refusal": "Where two are met at that place, 12 to 14 go before 7 and 8": the refusal i gives way to j.
abbrev pub GivesWay : ℕ → ℕ → Type 0
GivesWay i j = IsTrue (between 7 8 i) × IsTrue (between 12 14 j)

-- "The script is refused by the first from the left: by what is met at the smallest place."; what else is met there gives way to it
pub record First (s : Text) (j : ℕ) (q : Text) : Type 0 where
  pub met : Met s j q
  pub left : (i : ℕ) (u : Text) → Met s i u → length u ≤ length q
  pub before : (i : ℕ) → Met s i q → (i ≡ j) ⊎ GivesWay i j

-- RULES, "Refusals of a piece": "Where no piece stands at a place that pieces lead up to, the script is refused by one of these": pieces lead up to
-- `text`, none stands there, and the first refusal that is met is j at the place a. "A character inside a piece that stands meets nothing"
pub record Refused (script : List ℕ) (j a : ℕ) : Type 0 where
  pub pieces : List Piece
  pub text : Text
  pub up : Pieces (length script) (from script 0) pieces text
  pub no-piece : (k : Kind) (r : Text) → Stands k text r → ⊥
  pub rest : Text
  pub first : First text j rest
  pub place-is : place (length script) rest ≡ a
