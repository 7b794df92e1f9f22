-- The whole script: the computed answer is what is declared.
use Rattle.std.proofs.Common.{ℕ, zero, suc, ◌≤◌, ◌-◌, ◌≡◌, refl, sym, ◌∙◌, ap, Bool, true, false, ◌⊎◌, inl, inr, ◌↔◌, List, [], ◌∷◌, ◌++◌, length, drop, arith}
use Rattle.token.proofs.theorems.Words.{Char, Text, from, place, ScriptText, text-laws, Kind, TokenType, isComment, Token, Stands, Piece, Pieces, Valued, Tokens, AfterComment, Cut, Gap, GapKind, fresh, push, cutOf, Found, scan, Answer, tokenized, refused, prepend, gapBefore, walk, answer, TokenKind}
use Rattle.token.specs.declared.kinds.TokenKind.TheVariants as tk
use Rattle.token.proofs.theorems.Operators.{Fell}
use Rattle.token.proofs.theorems.Dispatch.{Hit, Scanned, scan-stands}
use Rattle.token.proofs.theorems.Unique.{fell-none}
use Rattle.token.proofs.theorems.Shorter.{Strict, stands-strict}
use Rattle.token.proofs.theorems.Flags.{Knows, cut-here, knows-fresh, knows-blank, knows-end, knows-line, knows-block, spaces, end-ends, blank-same, line-end-ends, other-ends}
open text-laws use {text-suffix, text-place}

-- ---- one step of the walk

walk-skip : (n k : ℕ) (f : Gap) (s : Text) → walk n k f s ≡ walk n 0 f (drop k s)
unfolding walk
walk-skip n zero f s = refl
walk-skip n (suc k) f [] = refl
walk-skip n (suc k) f (c ∷ s) = walk-skip n k f s

walk-rest : (n : ℕ) (f : Gap) (c : Char) (s r : Text) → Strict r (c ∷ s) → walk n (length s - length r) f s ≡ walk n 0 f r
walk-rest n f c s r (h, l) =
    let e : suc (length s) - length r ≡ suc (length s - length r) = omega arith in
    let q : r ≡ drop (length s - length r) s = h.rest-is ∙ ap (λ k. drop k (c ∷ s)) e in
    walk-skip n (length s - length r) f s ∙ ap (walk n 0 f) (sym q)

pub walk-gap : (n : ℕ) (f : Gap) (c : Char) (s r : Text) (g : GapKind) → scan n (c ∷ s) ≡ Found.gap g r → Strict r (c ∷ s)
    → walk n 0 f (c ∷ s) ≡ gapBefore g c.at (place n r) f.comment (walk n 0 (push g f) r)
unfolding walk
walk-gap n f c s r g e h = rw (e, walk) (ap (gapBefore g c.at (place n r) f.comment) (walk-rest n (push g f) c s r h))

pub walk-token : (n : ℕ) (f : Gap) (c : Char) (s r : Text) (t : TokenKind) → scan n (c ∷ s) ≡ Found.token t r → Strict r (c ∷ s)
    → walk n 0 f (c ∷ s) ≡ prepend (record { kind = t; start = c.at; end = place n r; cut = cutOf f }) (walk n 0 fresh r)
unfolding walk
walk-token n f c s r t e h =
    rw (e, walk) (ap (prepend (record { kind = t; start = c.at; end = place n r; cut = cutOf f })) (walk-rest n fresh c s r h))

pub walk-stuck : (n : ℕ) (f : Gap) (c : Char) (s q : Text) (j : ℕ) → scan n (c ∷ s) ≡ Found.stuck j q → walk n 0 f (c ∷ s) ≡ refused j (place n q)
unfolding walk
walk-stuck n f c s q j e = rw (e, walk)

pub walk-end : (n : ℕ) (f : Gap) → walk n 0 f [] ≡ tokenized (record { kind = tk.Eof; start = n; end = n; cut = cutOf f } ∷ [])
unfolding walk
walk-end n f = refl

-- ---- the answer from a text on

-- the rest is read, and its tokens are the answer; or it is refused where nothing stands
pub data Walked (script : List ℕ) (gap : List Piece) (s : Text) (w : Answer) : Type 0 where
  reads : (ps : List Piece) (ts : List Token) → w ≡ tokenized ts → Pieces (length script) s ps [] → Tokens script gap ps ts → Walked script gap s w
  stops : (ps : List Piece) (c : Char) (t : Text) (h : Fell (c ∷ t) (scan (length script) (c ∷ t)))
      → w ≡ refused h.number (place (length script) h.rest)
      → Pieces (length script) s ps (c ∷ t) → ((k : Kind) (r : Text) → Stands k (c ∷ t) r → ⊥) → Walked script gap s w

module _ (script : List ℕ) where
  -- a piece in front that has no token
  skipped : (gap : List Piece) (k : Kind) (s r : Text) (v w : Answer) → v ≡ w → (k ≡ Kind.blank) ⊎ (isComment k ≡ true) → Stands k s r
      → Walked script (gap ++ (record { kind = k; start = place (length script) s; end = place (length script) r } ∷ [])) r w → Walked script gap s v
  skipped gap k s r v w e o h (Walked.reads ps ts f x y) = Walked.reads _ ts (e ∙ f) (Pieces.piece h x) (Tokens.skip o y)
  skipped gap k s r v w e o h (Walked.stops ps c a z f x y) = Walked.stops _ c a z (e ∙ f) (Pieces.piece h x) y

  ended : (gap : List Piece) (mark : Bool) (s r : Text) (v w : Answer)
      → v ≡ prepend (record { kind = tk.Newline mark; start = place (length script) s; end = place (length script) r; cut = false }) w
      → mark ≡ true ↔ AfterComment gap → Stands Kind.lineEnd s r
      → Walked script (gap ++ (record { kind = Kind.lineEnd; start = place (length script) s; end = place (length script) r } ∷ [])) r w
      → Walked script gap s v
  ended gap mark s r v w e o h (Walked.reads ps ts f x y) =
      Walked.reads _ _ (e ∙ ap (prepend _) f) (Pieces.piece h x) (Tokens.lineEnd refl o y)
  ended gap mark s r v w e o h (Walked.stops ps c a z f x y) = Walked.stops _ c a z (e ∙ ap (prepend _) f) (Pieces.piece h x) y

  tokened : (gap : List Piece) (k : TokenType) (t : TokenKind) (cut : Bool) (s r : Text) (v w : Answer)
      → v ≡ prepend (record { kind = t; start = place (length script) s; end = place (length script) r; cut = cut }) w
      → cut ≡ true ↔ Cut script gap → Valued (length script) (from script (place (length script) s)) (from script (place (length script) r)) k t
      → Stands (Kind.token k) s r → Walked script [] r w → Walked script gap s v
  tokened gap k t cut s r v w e o u h (Walked.reads ps ts f x y) =
      Walked.reads _ _ (e ∙ ap (prepend _) f) (Pieces.piece h x) (Tokens.token refl u o y)
  tokened gap k t cut s r v w e o u h (Walked.stops ps c a z f x y) = Walked.stops _ c a z (e ∙ ap (prepend _) f) (Pieces.piece h x) y

  pub walk-finds : (fuel : ℕ) (s : Text) (gap : List Piece) (f : Gap) → length s ≤ fuel → ScriptText script s → Knows script gap f s
      → Walked script gap s (walk (length script) 0 f s)
  walk-finds zero (c ∷ s) gap f l t K = absurd (omega arith)
  walk-finds (suc fuel) (c ∷ s) gap f l t K = elim (scan-stands (length script) c s) [
    | Scanned.hit {k} {r} h e ↦
        let m = stands-strict k (c ∷ s) r h in
        let u = text-suffix script r (c ∷ s) m.0 t in
        let a = m.1 in
        by k r h m u e (λ gap f K. walk-finds fuel r gap f (omega arith) u K)
    | Scanned.fell h ↦ Walked.stops [] c s h (walk-stuck (length script) f c s h.rest h.number h.found) Pieces.done (fell-none (length script) (c ∷ s) h)
  ]
    where
      by : (k : Kind) (r : Text) → Stands k (c ∷ s) r → Strict r (c ∷ s) → ScriptText script r → Hit (length script) (c ∷ s) r (scan (length script) (c ∷ s)) k
          → ((gap : List Piece) (f : Gap) → Knows script gap f r → Walked script gap r (walk (length script) 0 f r))
          → Walked script gap (c ∷ s) (walk (length script) 0 f (c ∷ s))
      by k r h m u (Hit.blank e) below =
          skipped gap Kind.blank (c ∷ s) r _ _ (walk-gap _ f c s r GapKind.blank e m) (inl refl) h
          (below _ f (knows-blank script gap f (c ∷ s) K _ r refl (blank-same (c ∷ s) r h)))
      by k r h m u (Hit.lineEnd e) below =
          ended gap f.comment (c ∷ s) r _ _ (walk-gap _ f c s r GapKind.lineEnd e m) K.comment h
          (below _ (push GapKind.lineEnd f) (knows-end script gap f (c ∷ s) K _ r refl (line-end-ends (c ∷ s) r h)))
      by k r h m u (Hit.lineComment e) below =
          skipped gap Kind.lineComment (c ∷ s) r _ _ (walk-gap _ f c s r GapKind.lineComment e m) (inr refl) h
          (below _ (push GapKind.lineComment f) (knows-line script gap f (c ∷ s) K _ r refl (other-ends _ (c ∷ s) (ap spaces e))))
      by k r h m u (Hit.blockComment e) below =
          skipped gap Kind.blockComment (c ∷ s) r _ _ (walk-gap _ f c s r GapKind.blockComment e m) (inr refl) h
          (below _ (push GapKind.blockComment f)
          (knows-block script gap f (c ∷ s) K _ r refl (other-ends _ (c ∷ s) (ap spaces e)) (text-place script r u)))
      by k r h m u (Hit.token {y} {t = x} e v) below =
          tokened gap y x (cutOf f) (c ∷ s) r _ _ (walk-token _ f c s r x e m) (cut-here K (other-ends _ (c ∷ s) (ap spaces e)))
          (rw (text-place script (c ∷ s) t, text-place script r u) v) h (below [] fresh (knows-fresh script r))
  walk-finds _ [] gap f l t K =
      Walked.reads [] _ (walk-end (length script) f) Pieces.done (Tokens.eof (cut-here K end-ends))

  pub answer-finds : Walked script [] (from script 0) (answer script)
  unfolding answer
  answer-finds = walk-finds (length (from script 0)) (from script 0) [] fresh (omega arith) (0, refl) (knows-fresh script (from script 0))
