-- Scripts that are the same but for comments have the same tokens.
use Rattle.std.proofs.Common.{ℕ, ◌≤◌, ◌≡◌, refl, sym, ◌∙◌, ap, subst, Bool, true, false, ◌⊎◌, inl, inr, ◌↔◌, List, [], ◌∷◌, length, arith}
use Rattle.std.specs.Prelude.{All}
use Rattle.std.proofs.lemmas.List.Elements.{All-head, All-tail}
use Rattle.chars.specs.paper.Utf8.{WellFormed}
use Rattle.token.proofs.theorems.Words.{Text, place, from, ScriptText, text-laws, clash, Kind, isComment, Token, Stands, textOf, Piece, Pieces, Valued, Tokens, Cut, Gap, fresh}
use Rattle.token.specs.declared.kinds.TokenKind.TheVariants as tk
use Rattle.token.proofs.theorems.Shorter.{Strict, stands-strict}
use Rattle.token.proofs.theorems.Flags.{Knows, cut-here, knows-fresh, lineEnds, end-ends}
use Rattle.wording.specs.paper.Wording.{partAt, SamePart}
use Rattle.wording.proofs.Texts.{between-is, TextAt, text-left, utf8-between}
use Rattle.wording.proofs.Values.{same-values}
use Rattle.wording.proofs.Gaps.{no-end, isSpace, isGap, after, knows-on}
open text-laws use {text-suffix, text-place}

-- the piece of the kind k from the text s to the text m
abbrev pieceAt : ℕ → Kind → Text → Text → Piece
pieceAt n k s m = record { kind = k; start = place n s; end = place n m }

gap-kind : {k : Kind} → (k ≡ Kind.blank) ⊎ (isComment k ≡ true) → isGap k ≡ true
gap-kind {k} (inl e) = rw e refl
gap-kind {k = Kind.blank} (inr e) = refl
gap-kind {k = Kind.lineEnd} (inr e) = refl
gap-kind {k = Kind.lineComment} (inr e) = refl
gap-kind {k = Kind.blockComment} (inr e) = refl
gap-kind {k = Kind.token y} (inr e) = clash e

module _ (a b : List ℕ) (utf8 : WellFormed a) (lengths : length a ≡ length b) where
  -- of a gap by what is kept of it, the cut is that of both
  same-cut : {gap : List Piece} {g : Gap} {s t : Text} {cut : Bool} → Knows a gap g s → Knows b gap g t → lineEnds s ≡ false → lineEnds t ≡ false
      → cut ≡ true ↔ Cut a gap → cut ≡ true ↔ Cut b gap
  same-cut K J e f c =
      let x = cut-here K e in
      let y = cut-here J f in
      (λ h. y.0 (x.1 (c.0 h)), λ h. c.1 (x.0 (y.1 h)))

  -- a piece from s to m in the one script, and from t to o in the other
  record Twins (k : Kind) (s m t o : Text) : Type 0 where
    shorter : Strict m s
    shape : Stands k t o
    behind : TextAt a utf8 m
    text : ScriptText b o
    start : place (length a) s ≡ place (length b) t
    end : place (length a) m ≡ place (length b) o
    inside : place (length a) s ≤ place (length a) m

  twins : {k l : Kind} {s m t o : Text} → TextAt a utf8 s → ScriptText b t → Stands k s m → Stands l t o
      → pieceAt (length a) k s m ≡ pieceAt (length b) l t o → Twins k s m t o
  twins {k} {l} {s} {m} {t} {o} S T w x q =
      let h = stands-strict k s m w in
      let f = text-left a utf8 h.0 S in
      record {
        shorter = h;
        shape = rw (ap (λ (p : Piece). p.kind) q) x;
        behind = f.1;
        text = text-suffix b o t (stands-strict l t o x).0 T;
        start = ap (λ (p : Piece). p.start) q;
        end = ap (λ (p : Piece). p.end) q;
        inside = f.0;
      }

  -- what follows it in the other script, by its end in the one
  end-there : {k : Kind} {s m t o : Text} → Twins k s m t o → from b (place (length a) m) ≡ o
  end-there {o} w = ap (from b) w.end ∙ text-place b o w.text

  -- equal parts have one text
  same-text : {k : Kind} {s m t o : Text} → TextAt a utf8 s → ScriptText b t → Twins k s m t o
      → partAt a (pieceAt (length a) k s m) ≡ partAt b (pieceAt (length a) k s m) → textOf s m ≡ textOf t o
  same-text {s} {m} {t} {o} S T w e =
      let i = place (length a) s in
      let j = place (length a) m in
      let u = utf8-between a utf8 S w.behind w.inside in
      let l = w.behind.begins.inside in
      let x = between-is a i j u.0 w.inside l u.1.0 u.1.1 in
      let y = between-is b i j u.0 w.inside (omega (arith, lengths, l)) u.1.0 (u.1.1 ∙ e) in
      let p : textOf (from a i) (from a j) ≡ textOf s m = rw (S.text, w.behind.text) refl in
      let q : textOf (from b i) (from b j) ≡ textOf t o = rw (end-there w, w.start, text-place b t T) refl in
      sym p ∙ x ∙ sym y ∙ q

  -- the same pieces with the same parts, from two texts on
  pub tokens-from : {ps qs : List Piece} {s t : Text} → Pieces (length a) s ps [] → Pieces (length b) t qs [] → ps ≡ qs → All (SamePart a b) ps
      → (ts : List Token) (gap : List Piece) (g : Gap) → Knows a gap g s → Knows b gap g t → TextAt a utf8 s → ScriptText b t
      → Tokens a gap ps ts → Tokens b gap ps ts
  tokens-from Pieces.done Pieces.done e h ts gap g K L S T (Tokens.eof {cut} c) =
      subst (λ n. Tokens b gap [] (record { kind = tk.Eof; start = n; end = n; cut = cut } ∷ [])) (sym lengths) (Tokens.eof (same-cut K L end-ends end-ends c))
  tokens-from Pieces.done (Pieces.piece x u) e h ts gap g K L S T y = cc
  tokens-from (Pieces.piece w v) Pieces.done e h ts gap g K L S T y = cc
  tokens-from (Pieces.piece {k} {s} {m} {ps} w v) (Pieces.piece {k = l} {s = t} {m = o} {ps = us} x u) e h ts gap g K L S T y =
      let q : pieceAt (length a) k s m ≡ pieceAt (length b) l t o = cc in
      let r : ps ≡ us = cc in
      by (twins S T w x q) (All-head (SamePart a b) _ ps h) gap g K L S T w (tokens-from v u r (All-tail (SamePart a b) _ ps h)) y
    where
      -- at the first piece; rest: what is known from the next one on
      by : {k : Kind} {s m t o : Text} {ps : List Piece} {ts : List Token} → Twins k s m t o → SamePart a b (pieceAt (length a) k s m)
          → (gap : List Piece) (g : Gap) → Knows a gap g s → Knows b gap g t → TextAt a utf8 s → ScriptText b t → Stands k s m
          → ((ts : List Token) (gap : List Piece) (g : Gap) → Knows a gap g m → Knows b gap g o → TextAt a utf8 m → ScriptText b o
          → Tokens a gap ps ts → Tokens b gap ps ts)
          → Tokens a gap (pieceAt (length a) k s m ∷ ps) ts → Tokens b gap (pieceAt (length a) k s m ∷ ps) ts
      by {k} {s} {m} {t} {o} z h gap g K L S T w rest (Tokens.skip {p} d y) =
          let f = gap-kind d in
          let K' = knows-on a gap g s K p k m refl w z.behind.text f in
          let L' = knows-on b gap g t L p k o refl z.shape (end-there z) f in
          Tokens.skip d (rest _ _ (after k g) K' L' z.behind z.text y)
      by {k} {s} {m} {t} {o} z h gap g K L S T w rest (Tokens.lineEnd {p} d mark y) =
          let f : isGap k ≡ true = rw d refl in
          let K' = knows-on a gap g s K p k m refl w z.behind.text f in
          let L' = knows-on b gap g t L p k o refl z.shape (end-there z) f in
          Tokens.lineEnd d mark (rest _ _ (after k g) K' L' z.behind z.text y)
      by {k} {s} {m} {t} {o} z h gap g K L S T w rest (Tokens.token {p} {t = y} {k = c} d v cut r) =
          let i : isSpace k ≡ false = rw d refl in
          let shape : Stands (Kind.token y) t o = rw (← d) z.shape in
          let here : Valued (length a) s m y c = rw (← S.text, ← z.behind.text) v in
          let same = same-values z.shorter (stands-strict k t o z.shape).0 (same-text S T z (h cc)) z.start z.end shape here in
          let there : Valued (length b) (from b p.start) (from b p.end) y c = rw (end-there z, z.start, text-place b t T) same in
          Tokens.token d there (same-cut K L (no-end k s m w i) (no-end k t o z.shape i) cut)
          (rest _ [] fresh (knows-fresh a m) (knows-fresh b o) z.behind z.text r)
