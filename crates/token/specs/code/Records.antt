-- What measuring and writing make of the answer.
use Rattle.std.specs.Prelude.{ℕ, zero, suc, ◌+◌, ◌-◌, ◌*◌, ◌≤◌, ◌≡◌, Bool, true, IsTrue, false, if◌then◌else◌, List, [], ◌∷◌, length, take, nat_le, Result, Ok}
use Rattle.std.proofs.lemmas.List.Edits.{sets}
use Rattle.chars.specs.paper.Text.{Text, from, place}
use Rattle.token.specs.paper.Kinds.{Token}
use Rattle.token.specs.declared.kinds.TokenKind.TheVariants as tk
use Rattle.token.specs.computed.Flags.{Gap, GapKind, fresh, push, cutOf}
use Rattle.token.specs.computed.Answer.{Found, scan, Answer, tokenized, refused, prepend}
use Rattle.token.specs.paper.Records.{recordLength, recordOf, records, tokenCount, recordBytes, countsOf}
use Rattle.token.specs.code.Form.{mostLength}
use Rattle.token.specs.declared.counts.Counts.{Counts}
use Rattle.token.specs.declared.counts.Need.{Need}
use Rattle.token.specs.declared.kinds.TokenKind.{TokenKind}
use Rattle.token.specs.declared.refusal.Refused.{Refused}
use Rattle.token.specs.code.Refusal.{refusedBy}

-- a buffer with these bytes stored at w, where they fit
unfoldable pub storedIf : List ℕ → ℕ → List ℕ → List ℕ
storedIf out w bytes = if nat_le (w + length bytes) (length out) then sets out w bytes else out

-- a line end's token, and the end's
abbrev pub lineEndAt : ℕ → ℕ → Bool → Token
lineEndAt start end mark = record { kind = tk.Newline mark; start = start; end = end; cut = false }

abbrev pub eofAt : ℕ → Bool → Token
eofAt last cut = record { kind = tk.Eof; start = last; end = last; cut = cut }

-- what the records of these tokens need
abbrev pub needFor : List Token → Need
needFor ts = record { tokens = tokenCount ts; bytes = recordBytes ts; counts = countsOf ts }

-- what is needed, or the refusal
unfoldable pub measuredOf : Answer → Result Need Refused
measuredOf (tokenized ts) = Ok (needFor ts)
measuredOf (refused j a) = refusedBy j a

abbrev pub isTokenized : Answer → Bool
isTokenized (tokenized ts) = true
isTokenized (refused j a) = false

abbrev pub tokensIn : Answer → List Token
tokensIn (tokenized ts) = ts
tokensIn (refused j a) = []

-- the answer has tokens, and this is what their records need
pub record Needs (w : Answer) (n : Need) : Type 0 where
  pub is-tokenized : IsTrue (isTokenized w)
  pub need : n ≡ needFor (tokensIn w)

-- where the records fit into a buffer, they stand at its start
abbrev pub Held : Answer → Need → List ℕ → Type 0
Held w n out = n.bytes ≤ length out → take n.bytes out ≡ records (tokensIn w)

-- the answer has tokens, and their records fit into so many bytes
pub record Fits (w : Answer) (room : ℕ) : Type 0 where
  pub is-tokenized : IsTrue (isTokenized w)
  pub fits : recordBytes (tokensIn w) ≤ room

-- ---- the walk, token by token

-- What a walk comes over: a token or line end and what follows it, the end of script with its token, or a refusal's number and place. The answer
-- forgets the tokens before a refusal; a buffer that they were stored in does not.
pub data Trail : Type 0 where
  goes : Token → Trail → Trail
  ends : Token → Trail
  stops : ℕ → ℕ → Trail

-- only a line end has a token
abbrev pub gapGoes : GapKind → ℕ → ℕ → Bool → Trail → Trail
gapGoes GapKind.blank a e mark w = w
gapGoes GapKind.lineEnd a e mark w = Trail.goes (lineEndAt a e mark) w
gapGoes GapKind.lineComment a e mark w = w
gapGoes GapKind.blockComment a e mark w = w

-- the trail from the text on, after k characters that are passed, in a script of n bytes: what `walk` goes over
unfoldable pub trail : ℕ → ℕ → Gap → Text → Trail
trail n k g [] = Trail.ends (eofAt n (cutOf g))
trail n (suc k) g (c ∷ s) = trail n k g s
trail n zero g (c ∷ s) =
    elim (scan n (c ∷ s)) [
      | Found.gap p r ↦ gapGoes p c.at (place n r) g.comment (trail n (length s - length r) (push p g) s)
      | Found.token t r ↦ Trail.goes (record { kind = t; start = c.at; end = place n r; cut = cutOf g }) (trail n (length s - length r) fresh s)
      | Found.stuck j q ↦ Trail.stops j (place n q)
    ]

-- what it comes to
abbrev pub answerOf : Trail → Answer
answerOf (Trail.goes t w) = prepend t (answerOf w)
answerOf (Trail.ends t) = tokenized (t ∷ [])
answerOf (Trail.stops j a) = refused j a

-- the tokens that it comes over, before a refusal too
abbrev pub tokensOn : Trail → List Token
tokensOn (Trail.goes t w) = t ∷ tokensOn w
tokensOn (Trail.ends t) = t ∷ []
tokensOn (Trail.stops j a) = []

-- a buffer with the records of these tokens stored from w on, each where it fits
unfoldable pub stores : List ℕ → ℕ → List Token → List ℕ
stores out w [] = out
stores out w (t ∷ ts) = stores (storedIf out w (recordOf t)) (w + recordLength t.kind) ts

-- ---- what is counted, token by token

-- of no token
abbrev pub noneCounted : Counts
noneCounted = record { int_lits = 0; long_lits = 0; strs = 0; newlines = 0 }

-- one more, of this kind
unfoldable pub counting : Counts → TokenKind → Counts
counting c (tk.IntLit v) = record { int_lits = c.int_lits + 1; long_lits = c.long_lits; strs = c.strs; newlines = c.newlines }
counting c (tk.LongLit v) = record { int_lits = c.int_lits; long_lits = c.long_lits + 1; strs = c.strs; newlines = c.newlines }
counting c (tk.Str a e) = record { int_lits = c.int_lits; long_lits = c.long_lits; strs = c.strs + 1; newlines = c.newlines }
counting c (tk.Newline mark) = record { int_lits = c.int_lits; long_lits = c.long_lits; strs = c.strs; newlines = c.newlines + 1 }
counting c _ = c

unfoldable pub countingAll : Counts → List Token → Counts
countingAll c [] = c
countingAll c (t ∷ ts) = countingAll (counting c t.kind) ts

-- what is needed with one token more, and with these behind those that were counted before
abbrev pub withToken : Need → Token → Need
withToken n t = record { tokens = n.tokens + 1; bytes = n.bytes + recordLength t.kind; counts = counting n.counts t.kind }

unfoldable pub needAfter : Need → List Token → Need
needAfter n [] = n
needAfter n (t ∷ ts) = needAfter (withToken n t) ts

unfoldable pub measuredAfter : Need → Answer → Result Need Refused
measuredAfter n (tokenized ts) = Ok (needAfter n ts)
measuredAfter n (refused j a) = refusedBy j a

-- ---- where a walk stands

-- its place, the gap there, and what the tokens before it need
pub record State : Type 0 where
  pub at : ℕ
  pub gap : Gap
  pub need : Need

-- at the script's start
abbrev pub begun : State
begun = record { at = 0; gap = fresh; need = record { tokens = 0; bytes = 0; counts = noneCounted } }

abbrev pub trailFrom : List ℕ → State → Trail
trailFrom s x = trail (length s) 0 x.gap (from s x.at)

-- what is needed in the end
abbrev pub measuredFrom : List ℕ → State → Result Need Refused
measuredFrom s x = measuredAfter x.need (answerOf (trailFrom s x))

-- what the buffer and the counts are brought to, on a refusal too
abbrev pub storedFrom : List ℕ → State → List ℕ → List ℕ
storedFrom s x out = stores out x.need.bytes (tokensOn (trailFrom s x))

abbrev pub countedFrom : List ℕ → State → Counts
countedFrom s x = countingAll x.need.counts (tokensOn (trailFrom s x))

-- within the script, with no more tokens and record bytes than may stand before its place
pub record Standing (s : List ℕ) (x : State) : Type 0 where
  pub within : x.at ≤ length s
  pub count : x.need.tokens ≤ x.at
  pub size : x.need.bytes ≤ mostLength * x.at

-- A walk over the script s that stands at x, with the buffer out, comes to y, with the buffer next: what is needed in the end stays the same, and
-- so does what the buffer and the counts are brought to.
pub record Reaches (s : List ℕ) (x : State) (out : List ℕ) (y : State) (next : List ℕ) : Type 0 where
  pub on : x.at ≤ y.at
  pub stands : Standing s y
  pub same : length next ≡ length out
  pub measured : measuredFrom s y ≡ measuredFrom s x
  pub stored : storedFrom s y next ≡ storedFrom s x out
  pub counted : countedFrom s y ≡ countedFrom s x
