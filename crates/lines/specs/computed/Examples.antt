-- Scripts with their line starts, and places with line and column.
use Rattle.std.specs.Prelude.{ℕ, ◌≡◌, List, [], ◌∷◌, map, replicate}
use Rattle.words.specs.Words.{blockOf, told}
use Rattle.entry.specs.paper.Host.{seen}
use Rattle.lines.specs.computed.Lines.{startsOf, lineAt, columnAt}
use Rattle.lines.specs.computed.Host.{indexSeen, positionTold}

-- `a` CR LF `b` LF
abbrev pub twoEnds : List ℕ
twoEnds = 0x61 ∷ 0x0D ∷ 0x0A ∷ 0x62 ∷ 0x0A ∷ []

-- `"ж` LF `я` CR `"x`: a line end in a string, letters of two bytes, a CR that ends no line
abbrev pub inString : List ℕ
inString = 0x22 ∷ 0xD0 ∷ 0xB6 ∷ 0x0A ∷ 0xD1 ∷ 0x8F ∷ 0x0D ∷ 0x22 ∷ 0x78 ∷ []

-- line and column of places, by counting
abbrev pub positions : List ℕ → List ℕ → List (List ℕ)
positions script places = map (λ a. lineAt script a ∷ columnAt script a ∷ []) places

-- a block as it is lent
abbrev pub block : List ℕ
block = replicate 16 165

pub record LineExamples : Type 0 where
  -- the empty script has one line; a script that ends in a line end has a last, empty one
  pub empty-script : startsOf [] ≡ 0 ∷ []
  pub last-empty : startsOf twoEnds ≡ 0 ∷ 3 ∷ 5 ∷ []
  pub string-lines : startsOf inString ≡ 0 ∷ 4 ∷ []
  -- `a`, CR and LF are in the first line, `b` and LF in the second, the script's end is in the third
  pub by-counting : positions twoEnds (0 ∷ 1 ∷ 2 ∷ 3 ∷ 4 ∷ 5 ∷ [])
      ≡ (1 ∷ 1 ∷ []) ∷ (1 ∷ 2 ∷ []) ∷ (1 ∷ 3 ∷ []) ∷ (2 ∷ 1 ∷ []) ∷ (2 ∷ 2 ∷ []) ∷ (3 ∷ 1 ∷ []) ∷ []
  -- `x` behind `я`, CR and `"`
  pub in-characters : positions inString (3 ∷ 8 ∷ 9 ∷ []) ≡ (1 ∷ 3 ∷ []) ∷ (2 ∷ 4 ∷ []) ∷ (2 ∷ 5 ∷ []) ∷ []
  -- built into four numbers, the last of which stays; two numbers are too few
  pub built-index : indexSeen twoEnds (7 ∷ 7 ∷ 7 ∷ 7 ∷ []) block ≡ seen 0 (0 ∷ 3 ∷ 5 ∷ 7 ∷ []) (blockOf 0 0 3 0)
  pub too-short : indexSeen twoEnds (7 ∷ 7 ∷ []) block ≡ seen 26 (7 ∷ 7 ∷ []) (blockOf 26 0 3 0)
  pub wrong-block : indexSeen twoEnds (7 ∷ 7 ∷ []) (7 ∷ []) ≡ seen 20 (7 ∷ 7 ∷ []) (7 ∷ [])
  -- C0 80 is no character
  pub not-utf8 : indexSeen (0x61 ∷ 0xC0 ∷ 0x80 ∷ []) (7 ∷ []) block ≡ seen 18 (7 ∷ []) (blockOf 18 1 0 0)
  -- a query, with a number behind the index; the script's end is a good place, one past it is none, nor is one inside `ж`: 25 before 26
  pub asked : positionTold twoEnds (0 ∷ 3 ∷ 5 ∷ 1 ∷ []) 4 block ≡ told 0 (blockOf 0 0 2 2)
  pub asked-end : positionTold twoEnds (0 ∷ 3 ∷ 5 ∷ []) 5 block ≡ told 0 (blockOf 0 0 3 1)
  pub past-end : positionTold twoEnds [] 6 block ≡ told 25 (blockOf 25 0 0 0)
  pub within-character : positionTold inString [] 2 block ≡ told 25 (blockOf 25 0 0 0)
  -- two numbers for three lines
  pub short-index : positionTold twoEnds (0 ∷ 3 ∷ []) 4 block ≡ told 26 (blockOf 26 0 0 0)
  -- other numbers: some line of the three, and some column
  pub other-numbers : positionTold twoEnds (9 ∷ 9 ∷ 9 ∷ []) 4 block ≡ told 0 (blockOf 0 0 1 1)
