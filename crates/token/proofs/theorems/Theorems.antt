-- The computed answer is what is declared, for every script: specs/Theorems.
use Rattle.std.proofs.Common.{ℕ, ◌≤◌, ◌≡◌, sym, ◌∙◌, ap, ◌⊎◌, inl, inr, ◌↔◌, List, [], ◌∷◌, length}
use Rattle.token.proofs.theorems.Words.{place, valid-laws, Token, Piece, Reading, Tokens, TokensOf, First, Refused, tokenized, refused, answer, mostNeed, recordBytes}
use Rattle.token.specs.Theorems.{Theorems}
use Rattle.token.proofs.theorems.Unique.{none-end, together, one-reading}
use Rattle.token.proofs.theorems.Alone.{tokens-one, records-length}
use Rattle.token.proofs.theorems.Mets.{met-end, first-of, first-only}
use Rattle.token.proofs.theorems.Walks.{Walked, answer-finds}
use Rattle.token.proofs.records.Counts.{exact}
use Rattle.token.proofs.theorems.Spread.{spread, one-kind-each, bound}
open valid-laws use {valid}

module _ (script : List ℕ) where
  -- where the answer has tokens, there is a reading, and these are its tokens
  pub sound : (ts : List Token) → answer script ≡ tokenized ts → (ps : List Piece) × Reading script ps × Tokens script [] ps ts
  sound ts e = elim (answer-finds script) [
    | Walked.reads ps us f x y ↦ let q : us ≡ ts = cc in (ps, x, rw (← q) y)
    | Walked.stops ps c t z f x y ↦ cc
  ]

  -- where there is a reading, the answer has its tokens
  pub complete : (ps : List Piece) → Reading script ps → (ts : List Token) × (answer script ≡ tokenized ts) × Tokens script [] ps ts
  complete ps h = elim (answer-finds script) [
    | Walked.reads qs ts f x y ↦ (ts, f, rw (one-reading script ps qs h x) y)
    | Walked.stops qs c t z f x y ↦ let e = (together h none-end x y).1 in cc
  ]

  -- the refusal is the first that is met
  pub refusal : (j a : ℕ) → (answer script ≡ refused j a) ↔ Refused script j a
  refusal j a = (
    (λ e. elim (answer-finds script) [
      | Walked.reads ps ts f x y ↦ cc
      | Walked.stops ps c t z f x y ↦
          let k : z.number ≡ j = cc in
          let p : place (length script) z.rest ≡ a = cc in
          record { pieces = ps; text = c ∷ t; up = x; no-piece = y; rest = z.rest; first = rw (← k) (first-of (length script) (c ∷ t) z); place-is = p }
    ]),
    λ h. elim (answer-finds script) [
      | Walked.reads ps ts f x y ↦
          let e = (together x none-end h.up h.no-piece).1 in
          absurd (met-end j h.rest (rw (← e) at h.first.met))
      | Walked.stops ps c t z f x y ↦
          let m : First (c ∷ t) j h.rest = rw (together x y h.up h.no-piece).1 h.first in
          let o = first-only (length script) (c ∷ t) z j h.rest m in
          let p = h.place-is in
          cc
    ],
  )

  -- the tokens of a reading are the answer's
  pub answer-tokens : (ts : List Token) → TokensOf script ts → answer script ≡ tokenized ts
  answer-tokens ts h = let c = complete h.pieces h.reading in c.1 ∙ ap tokenized (tokens-one c.2 h.tokens)

  pub tokens-answer : (ts : List Token) → answer script ≡ tokenized ts → TokensOf script ts
  tokens-answer ts e = let h = sound ts e in record { pieces = h.0; reading = h.1; tokens = h.2 }

  -- a script of n bytes needs at most 17 times n plus 13 bytes
  pub need : (ts : List Token) → TokensOf script ts → recordBytes ts ≤ mostNeed (length script)
  need = bound script

  tokens : (ps : List Piece) (ts : List Token) → Reading script ps → (Tokens script [] ps ts ↔ (answer script ≡ tokenized ts))
  tokens ps ts h = (
    (λ t. answer-tokens ts (record { pieces = ps; reading = h; tokens = t })),
    λ e. let k = sound ts e in rw (one-reading script ps k.0 h k.1) k.2,
  )

  one-refusal : (i j a b : ℕ) → Refused script i a → Refused script j b → (i ≡ j) × (a ≡ b)
  one-refusal i j a b h k = let e = sym ((refusal i a).1 h) ∙ (refusal j b).1 k in (cc, cc)

  pub decided : ((ps : List Piece) × Reading script ps) ⊎ ((j : ℕ) × (a : ℕ) × Refused script j a)
  decided = elim (answer-finds script) [
    | Walked.reads ps ts f x y ↦ inl (ps, x)
    | Walked.stops ps c t z f x y ↦ inr (_, _, (refusal z.number (place (length script) z.rest)).0 f)
  ]

  never-both : (ps : List Piece) (j a : ℕ) → Reading script ps → Refused script j a → ⊥
  never-both ps j a h k = let e = sym ((refusal j a).1 k) ∙ (complete ps h).1 in cc

  pub theorems : Theorems script
  theorems =
      record {
        longest-valid = valid script;
        read-exactly = ((λ h. let c = complete h.0 h.1 in (c.0, c.1)), λ h. let c = sound h.0 h.1 in (c.0, c.1));
        one-reading = one-reading script;
        tokens = tokens;
        one-tokens = λ ps ts us h k. tokens-one h k;
        refuses = refusal;
        one-refusal = one-refusal;
        decided = decided;
        never-both = never-both;
        bytes = records-length;
        exact = exact;
        spread = spread script;
        one-kind-each = one-kind-each script;
        need = need;
      }
