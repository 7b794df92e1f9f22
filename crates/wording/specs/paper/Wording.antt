-- REQUESTS, "Same but for comments".
use Rattle.std.specs.Prelude.{ℕ, ◌-◌, ◌≡◌, IsFalse, All, List, take, drop}
use Rattle.token.specs.paper.Kinds.{isComment}
use Rattle.token.specs.paper.Reading.{Piece, Reading}

-- "The part of a script at a piece is its bytes from the piece's start to its end."
abbrev pub partAt : List ℕ → Piece → List ℕ
partAt script p = take (p.end - p.start) (drop p.start script)

-- at a piece that is no comment the parts are equal
abbrev pub SamePart : List ℕ → List ℕ → Piece → Type 0
SamePart a b p = IsFalse (isComment p.kind) → partAt a p ≡ partAt b p

-- "Two scripts are the same but for comments where one list of pieces is a reading of both, and at each piece of it that is no comment their parts are
-- equal."
pub record SameButComments (a b : List ℕ) : Type 0 where
  pub pieces : List Piece
  pub first : Reading a pieces
  pub second : Reading b pieces
  pub parts : All (SamePart a b) pieces
