-- Rolls whole and damaged, with their answers: the roll of the script `7`, an IntLit at 0 and Eof at 17, and changes of it; rolls of a LongLit, a Str and a
-- line end; and what a host is told.
use Rattle.std.specs.Prelude.{ℕ, ◌≡◌, List, [], ◌∷◌, ◌++◌, map, length, take, set, replicate}
use Rattle.words.specs.Words.{told}
use Rattle.rolls.specs.paper.Roll.{Outcome, tokens, refused}
use Rattle.rolls.specs.computed.Roll.{readRoll}
use Rattle.rolls.specs.computed.Host.{rollTold, recordTold}

-- Eof, of a script of n bytes
abbrev pub eofOf : ℕ → List ℕ
eofOf n = 13 ∷ 0 ∷ 18 ∷ 0 ∷ n ∷ 0 ∷ 0 ∷ 0 ∷ n ∷ 0 ∷ 0 ∷ 0 ∷ 0 ∷ []

-- `7`, `7L`, `"a"` and LF
abbrev pub seven : List ℕ
seven = (17 ∷ 0 ∷ 4 ∷ 0 ∷ 0 ∷ 0 ∷ 0 ∷ 0 ∷ 1 ∷ 0 ∷ 0 ∷ 0 ∷ 0 ∷ 7 ∷ 0 ∷ 0 ∷ 0 ∷ []) ++ eofOf 1

abbrev pub sevenLong : List ℕ
sevenLong = (21 ∷ 0 ∷ 5 ∷ 0 ∷ 0 ∷ 0 ∷ 0 ∷ 0 ∷ 2 ∷ 0 ∷ 0 ∷ 0 ∷ 0 ∷ 7 ∷ 0 ∷ 0 ∷ 0 ∷ 0 ∷ 0 ∷ 0 ∷ 0 ∷ []) ++ eofOf 2

abbrev pub string : List ℕ
string = (21 ∷ 0 ∷ 6 ∷ 0 ∷ 0 ∷ 0 ∷ 0 ∷ 0 ∷ 3 ∷ 0 ∷ 0 ∷ 0 ∷ 0 ∷ 1 ∷ 0 ∷ 0 ∷ 0 ∷ 2 ∷ 0 ∷ 0 ∷ 0 ∷ []) ++ eofOf 3

abbrev pub lineEnd : List ℕ
lineEnd = (14 ∷ 0 ∷ 17 ∷ 0 ∷ 0 ∷ 0 ∷ 0 ∷ 0 ∷ 1 ∷ 0 ∷ 0 ∷ 0 ∷ 0 ∷ 0 ∷ []) ++ eofOf 1

-- 0 and the token count, or number and place
abbrev pub inShort : Outcome → List ℕ
inShort (tokens ts) = 0 ∷ length ts ∷ []
inShort (refused j a) = j ∷ a ∷ []

abbrev pub read : List (List ℕ) → List (List ℕ)
read rolls = map (λ roll. inShort (readRoll roll)) rolls

pub record RollExamples : Type 0 where
  -- two tokens each
  pub whole-rolls : read (seven ∷ sevenLong ∷ string ∷ lineEnd ∷ []) ≡ (0 ∷ 2 ∷ []) ∷ (0 ∷ 2 ∷ []) ∷ (0 ∷ 2 ∷ []) ∷ (0 ∷ 2 ∷ []) ∷ []
  -- cut short: no byte, at the end of the first record, inside the second, inside its first four bytes
  pub cut-short : read (map (λ n. take n seven) (0 ∷ 17 ∷ 29 ∷ 19 ∷ [])) ≡ (24 ∷ 0 ∷ []) ∷ (24 ∷ 17 ∷ []) ∷ (22 ∷ 17 ∷ []) ∷ (22 ∷ 17 ∷ []) ∷ []
  -- 22 before 23: an unknown kind, cut short
  pub few-first : read (take 29 (set seven 19 19) ∷ []) ≡ (22 ∷ 17 ∷ []) ∷ []
  -- 23: no kind 19; an Ident of 17 bytes; a length of 0
  pub no-such : read (set seven 2 19 ∷ set seven 2 1 ∷ set seven 0 0 ∷ []) ≡ (23 ∷ 0 ∷ []) ∷ (23 ∷ 0 ∷ []) ∷ (23 ∷ 0 ∷ []) ∷ []
  -- 24: a cut or after-comment byte of 2; a negative IntLit or LongLit
  pub byte-range : read (set seven 12 2 ∷ set lineEnd 13 2 ∷ set seven 16 128 ∷ set sevenLong 20 128 ∷ [])
      ≡ (24 ∷ 0 ∷ []) ∷ (24 ∷ 0 ∷ []) ∷ (24 ∷ 0 ∷ []) ∷ (24 ∷ 0 ∷ []) ∷ []
  -- 24: a start past the end; a start before the previous end
  pub out-of-order : read (set seven 4 2 ∷ set seven 21 0 ∷ []) ≡ (24 ∷ 0 ∷ []) ∷ (24 ∷ 17 ∷ []) ∷ []
  -- 24: content that starts before its token, ends past it, or ends before it starts
  pub content-range : read (set string 4 2 ∷ set string 17 4 ∷ set string 17 0 ∷ []) ≡ (24 ∷ 0 ∷ []) ∷ (24 ∷ 0 ∷ []) ∷ (24 ∷ 0 ∷ []) ∷ []
  -- 24: one byte after Eof, or a second roll
  pub joined-rolls : read ((seven ++ (0 ∷ [])) ∷ (seven ++ seven) ∷ []) ≡ (24 ∷ 30 ∷ []) ∷ (24 ∷ 30 ∷ []) ∷ []
  -- a host is told: of the roll, 2 tokens and 30 bytes; of its first record, kind 4, 0 to 1, the next at 17, the value 7; past its end, 24 at 30
  pub told-roll : rollTold seven (replicate 16 165) ≡ told 0 (replicate 8 0 ++ (2 ∷ 0 ∷ 0 ∷ 0 ∷ 30 ∷ 0 ∷ 0 ∷ 0 ∷ []))
  pub told-record : recordTold seven 0 0 (replicate 40 165)
      ≡ told 0
      (replicate 8 0
      ++ ((4 ∷ 0 ∷ 0 ∷ 0 ∷ [])
      ++ (replicate 4 0 ++ ((1 ∷ 0 ∷ 0 ∷ 0 ∷ []) ++ (replicate 8 0 ++ ((17 ∷ 0 ∷ 0 ∷ 0 ∷ []) ++ (7 ∷ 0 ∷ 0 ∷ 0 ∷ 0 ∷ 0 ∷ 0 ∷ 0 ∷ [])))))))
  pub told-past : recordTold seven 30 1 (replicate 40 165) ≡ told 24 ((24 ∷ 0 ∷ 0 ∷ 0 ∷ 30 ∷ 0 ∷ 0 ∷ 0 ∷ []) ++ replicate 32 0)
  -- a block of another length keeps its bytes
  pub told-roll-twenty : rollTold seven (replicate 15 165) ≡ told 20 (replicate 15 165)
  pub told-twenty : recordTold seven 0 0 (replicate 16 165) ≡ told 20 (replicate 16 165)
