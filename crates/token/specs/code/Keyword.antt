-- What `keyword` answers, and `keyword_of` of `kinds`.
use Rattle.std.specs.Prelude.{ℕ, ◌+◌, Bool, true, if◌then◌else◌, ◌&&◌, List, [], ◌∷◌, ◌++◌, length, slice_index, ◌==◌, Option, Some, None}
use Rattle.std.proofs.Math.Option as math
use Rattle.std.proofs.Math.Option.{none, some}
use Rattle.chars.specs.paper.Quoted.{codes}
use Rattle.token.specs.paper.Kinds.{Word, word, kwNumber, wordKeywords, symbolKeywords}
use Rattle.token.specs.declared.kinds.Kw.{Kw}

-- a keyword, or none, as the code's type
unfoldable pub keywordOf : math.Option Kw → Option Kw
keywordOf none = None
keywordOf (some k) = Some k

-- the number of a keyword's kind; where there is no keyword, the number n
unfoldable pub numberOr : ℕ → math.Option Kw → ℕ
numberOr n none = n
numberOr n (some k) = kwNumber k

-- the keyword among these whose kind has the number n, or none
unfoldable pub keywordAmong : List Word → ℕ → Option Kw
keywordAmong [] n = None
keywordAmong (word w k ∷ ws) n = if n == kwNumber k then Some k else keywordAmong ws n

-- the keyword whose kind has the number n, or none
unfoldable pub keywordBy : ℕ → Option Kw
keywordBy n = keywordAmong (wordKeywords ++ symbolKeywords) n

-- these bytes stand at the place i
unfoldable pub standsAt : List ℕ → List ℕ → ℕ → Bool
standsAt [] s i = true
standsAt (x ∷ w) s i = slice_index s i == x && standsAt w s (i + 1)

-- the keyword of n bytes whose text stands at the place i
unfoldable pub keywordAt : List Word → ℕ → List ℕ → ℕ → math.Option Kw
keywordAt [] n s i = none
keywordAt (word w k ∷ ws) n s i = if n == length (codes w) && standsAt (codes w) s i then some k else keywordAt ws n s i
