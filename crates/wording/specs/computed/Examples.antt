-- The examples of REQUESTS, "Comment wording".
use Rattle.std.specs.Prelude.{ℕ, ◌≡◌, ◌≢◌, List, [], ◌∷◌, map, replicate}
use Rattle.chars.specs.paper.Quoted.{codes}
use Rattle.chars.specs.computed.Encoded.{script}
use Rattle.entry.specs.paper.Limits.{compiler}
use Rattle.entry.specs.paper.Host.{numberSeen}
use Rattle.entry.specs.computed.Listing.{entered, hosted}
use Rattle.wording.specs.paper.Wording.{SameButComments}

-- `{ //nn`, LF, `/*ab*/}`, and with other comments of as many bytes, in other letters
abbrev pub original : List ℕ
original = script "{ //nn\n/*ab*/}"

abbrev pub translated : List ℕ
translated = script "{ //ж\n/*я*/}"

pub record Examples : Type 0 where
  -- They differ, are the same but for comments, and both are accepted where 100 bytes are lent: there is something that the theorems speak of.
  pub differ : original ≢ translated
  pub same : SameButComments original translated
  pub accepted : map (λ s. numberSeen (hosted compiler s (replicate 100 7) (replicate 16 9))) (original ∷ translated ∷ []) ≡ 0 ∷ 0 ∷ []
  -- Line comments and block comments are two kinds: at one place, behind a line end, the one leaves Eof the cut 0, the other gives it the cut 1.
  pub two-kinds : SameButComments (script "a\n//**") (script "a\n/**/") → ⊥
  pub two-cuts : map entered (script "a\n//**" ∷ script "a\n/**/" ∷ [])
      ≡ map codes ("1 0 1 0\n17 1 2 0 0\n18 6 6 0\n" ∷ "1 0 1 0\n17 1 2 0 0\n18 6 6 1\n" ∷ [])
  -- Other parts can have other values: two numbers.
  pub other-parts : SameButComments (script "1") (script "2") → ⊥
  pub other-values : map entered (script "1" ∷ script "2" ∷ []) ≡ map codes ("4 0 1 0 1\n18 1 1 0\n" ∷ "4 0 1 0 2\n18 1 1 0\n" ∷ [])
  -- A comment of more bytes moves what stands behind it: `/*n*/x` and `/*ж*/x`.
  pub other-length : SameButComments (script "/*n*/x") (script "/*ж*/x") → ⊥
  pub other-places : map entered (script "/*n*/x" ∷ script "/*ж*/x" ∷ []) ≡ map codes ("1 5 6 0\n18 6 6 0\n" ∷ "1 6 7 0\n18 7 7 0\n" ∷ [])
