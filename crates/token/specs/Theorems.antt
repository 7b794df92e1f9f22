-- What is proved for every script: the computed answer is what is declared (`paper`). Proved: proofs/theorems.
use Rattle.std.specs.Prelude.{ℕ, ◌+◌, ◌≤◌, ◌≡◌, ◌⊎◌, ◌↔◌, List, [], length}
use Rattle.chars.specs.paper.Utf8.{LongestValid}
use Rattle.chars.specs.computed.Valid.{validPrefix}
use Rattle.token.specs.paper.Kinds.{Token}
use Rattle.token.specs.paper.Reading.{Piece, Reading, Tokens, TokensOf}
use Rattle.token.specs.paper.Refusals.{Refused}
use Rattle.token.specs.paper.Records.{mostNeed, records, tokenCount, recordBytes, countsOf, exactNeed}
use Rattle.token.specs.computed.Answer.{answer, tokenized, refused}

-- Of a script.
pub record Theorems (script : List ℕ) : Type 0 where
  -- Refusal 18: the prefix that is measured is the longest valid one.
  pub longest-valid : LongestValid script (validPrefix script)
  -- RULES, "Reading": the script has one exactly when the computed answer has tokens.
  pub read-exactly : ((ps : List Piece) × Reading script ps) ↔ ((ts : List Token) × (answer script ≡ tokenized ts))
  -- "A script has at most one reading.": two are the same, in every kind, start and end.
  pub one-reading : (ps qs : List Piece) → Reading script ps → Reading script qs → ps ≡ qs
  -- RULES, "Records of a script": the tokens of a reading, with their values, marks and cuts, are those of the answer, and it has one list of them.
  pub tokens : (ps : List Piece) (ts : List Token) → Reading script ps → (Tokens script [] ps ts ↔ (answer script ≡ tokenized ts))
  pub one-tokens : (ps : List Piece) (ts us : List Token) → Tokens script [] ps ts → Tokens script [] ps us → ts ≡ us
  -- RULES, "Refusals of a piece": the answer refuses with this number and place exactly where the table does.
  pub refuses : (j a : ℕ) → (answer script ≡ refused j a) ↔ Refused script j a
  pub one-refusal : (i j a b : ℕ) → Refused script i a → Refused script j b → (i ≡ j) × (a ≡ b)
  -- No answer is left open: a reading, or a refusal; never both.
  pub decided : ((ps : List Piece) × Reading script ps) ⊎ ((j : ℕ) × (a : ℕ) × Refused script j a)
  pub never-both : (ps : List Piece) (j a : ℕ) → Reading script ps → Refused script j a → ⊥
  -- Its record bytes are the sum of the records' lengths.
  pub bytes : (ts : List Token) → length (records ts) ≡ recordBytes ts
  -- REQUESTS, "Exact need", of every list of tokens: "13 times the token count, plus 4 for each IntLit, 8 for each LongLit and Str, 1 for each
  -- Newline."
  pub exact : (ts : List Token) → recordBytes ts ≡ exactNeed (tokenCount ts) (countsOf ts)
  -- Why the bound follows: "every token but Eof takes at least one byte of the script, a LongLit and a Str at least two; no token is of two of the
  -- four kinds, and Eof is of none."
  pub spread : (ts : List Token) → TokensOf script ts → tokenCount ts + (countsOf ts).long_lits + (countsOf ts).strs ≤ length script + 1
  pub one-kind-each : (ts : List Token) → TokensOf script ts
      → (countsOf ts).int_lits + (countsOf ts).long_lits + (countsOf ts).strs + (countsOf ts).newlines + 1 ≤ tokenCount ts
  -- RULES, "Record bound": "A script of n bytes that has a reading needs at most 17 times n plus 13 record bytes."
  pub need : (ts : List Token) → TokensOf script ts → recordBytes ts ≤ mostNeed (length script)
