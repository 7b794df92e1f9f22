-- Of two scripts that are the same but for comments: their lengths, their tokens, and what a host sees.
use Rattle.std.proofs.Common.{ℕ, ◌≤◌, ◌≡◌, refl, sym, ◌∙◌, ap, inl, inr, List, [], ◌∷◌, ◌++◌, length, drop, arith}
use Rattle.std.proofs.lemmas.List.Elements.{All-weaker}
use Rattle.words.specs.Words.{blockOf}
use Rattle.chars.specs.paper.Utf8.{WellFormed}
use Rattle.chars.specs.paper.Marks.{Unmarked}
use Rattle.token.specs.paper.Records.{tokenCount}
use Rattle.token.proofs.theorems.Words.{Text, text-laws, place, from, Token, Piece, Pieces, Reading, Tokens, TokensOf, records, recordBytes}
use Rattle.token.proofs.theorems.Theorems.{theorems}
use Rattle.token.proofs.theorems.Flags.{knows-fresh}
use Rattle.entry.specs.declared.limits.Limits.{Limits}
use Rattle.entry.specs.paper.Host.{Seen, seen, numberSeen, Read, Sees}
use Rattle.entry.specs.computed.Host.{hostFor}
use Rattle.entry.proofs.theorems.Hosts.{number-of, keeps-read, host-theorems}
use Rattle.wording.specs.paper.Wording.{SamePart, SameButComments}
use Rattle.wording.proofs.Texts.{text-start}
use Rattle.wording.proofs.Tokens.{tokens-from}
open text-laws use {place-from}

-- ---- of the scripts alone

-- where the last piece ends; where there is none, the place i
abbrev lastEnd : ℕ → List Piece → ℕ
lastEnd i [] = i
lastEnd i (p ∷ ps) = lastEnd p.end ps

ends-last : {n : ℕ} {s : Text} {ps : List Piece} → Pieces n s ps [] → lastEnd (place n s) ps ≡ n
ends-last Pieces.done = refl
ends-last (Pieces.piece w v) = ends-last v

-- a script is as long as its reading
reading-length : (script : List ℕ) (ps : List Piece) → Reading script ps → lastEnd 0 ps ≡ length script
reading-length script ps h = ap (λ i. lastEnd i ps) (sym (place-from script 0 (omega arith))) ∙ ends-last h

pub symmetric : (a b : List ℕ) → SameButComments a b → SameButComments b a
symmetric a b same = record {
  pieces = same.pieces;
  first = same.second;
  second = same.first;
  parts = All-weaker (SamePart a b) (SamePart b a) (λ p h e. sym (h e)) same.pieces same.parts;
}

module _ (a b : List ℕ) (same : SameButComments a b) where
  same-length : length a ≡ length b
  same-length = sym (reading-length a same.pieces same.first) ∙ reading-length b same.pieces same.second

  pub same-tokens : (ts : List Token) → WellFormed a → TokensOf a ts → TokensOf b ts
  same-tokens ts utf8 h =
      let t : Tokens a [] same.pieces ts = rw (← (theorems a).one-reading h.pieces same.pieces h.reading same.first) h.tokens in
      record {
        pieces = same.pieces;
        reading = same.second;
        tokens = tokens-from a b utf8 same-length same.first same.second refl same.parts ts [] _
            (knows-fresh a (from a 0)) (knows-fresh b (from b 0)) (text-start a utf8) (0, refl) t;
      }

  pub one-tokens : (ts us : List Token) → WellFormed a → TokensOf a ts → TokensOf b us → ts ≡ us
  one-tokens ts us utf8 h k =
      let t = same-tokens ts utf8 h in
      (theorems b).one-tokens t.pieces ts us t.tokens (rw ((theorems b).one-reading k.pieces t.pieces k.reading t.reading) at k.tokens)

  -- what is not met by the one is not met by the other
  read-too : (limits : Limits) {ts : List Token} → WellFormed b → Unmarked b → Read limits a ts → Read limits b ts
  read-too limits {ts} utf8 unmarked r =
      let sized = r.clean.valid.sized in
      keeps-read limits b utf8 unmarked (rw (← same-length) sized.in-limit) (rw (← same-length) sized.within) ts
      (same-tokens ts r.clean.valid.utf8 r.tokensOf) r.few

-- ---- of what a host sees

record Accepted (limits : Limits) (script buffer block : List ℕ) (x : Seen) : Type 0 where
  tokens : List Token
  sixteen : length block ≡ 16
  read : Read limits script tokens
  room : recordBytes tokens ≤ length buffer
  seen-is : x ≡ seen 0 (records tokens ++ drop (recordBytes tokens) buffer) (blockOf 0 0 (tokenCount tokens) (recordBytes tokens))

accepted-by : (limits : Limits) (script buffer block : List ℕ) {x : Seen} → Sees limits script buffer block x → numberSeen x ≡ 0
    → Accepted limits script buffer block x
accepted-by limits script buffer block (Sees.twenty n) h = absurd (omega arith)
accepted-by limits script buffer block (Sees.rejected e k) h =
    elim (number-of limits script k) [ inl r ↦ absurd (omega (arith, r.0)) | inr r ↦ absurd (omega (arith, r.0)) ]
accepted-by limits script buffer block (Sees.nineteen e r m) h = absurd (omega arith)
accepted-by limits script buffer block (Sees.accepted e r m) h = record { tokens = _; sixteen = e; read = r; room = m; seen-is = refl }

module _ (limits : Limits) (a b buffer block : List ℕ) (same : SameButComments a b) where
  accepted : (script : List ℕ) → numberSeen (hostFor limits script buffer block) ≡ 0
      → Accepted limits script buffer block (hostFor limits script buffer block)
  accepted script = accepted-by limits script buffer block (((host-theorems limits script buffer block).sees _).0 refl)

  pub stays : numberSeen (hostFor limits a buffer block) ≡ 0 → WellFormed b → Unmarked b
      → hostFor limits b buffer block ≡ hostFor limits a buffer block
  stays h utf8 unmarked =
      let k = accepted a h in
      ((host-theorems limits b buffer block).sees _).1 (Sees.accepted k.sixteen (read-too a b same limits utf8 unmarked k.read) k.room)
      ∙ sym k.seen-is

  pub same-seen : numberSeen (hostFor limits a buffer block) ≡ 0 → numberSeen (hostFor limits b buffer block) ≡ 0
      → hostFor limits a buffer block ≡ hostFor limits b buffer block
  same-seen h k = let c = (accepted b k).read.clean in sym (stays h c.valid.utf8 c.unmarked)
