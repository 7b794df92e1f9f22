-- The gap's flags: what the walk keeps is what is declared of the gap's pieces.
use Rattle.std.proofs.Common.{ℕ, ◌≡◌, refl, sym, ◌∙◌, ap, Bool, true, false, not, ◌&&◌, ◌||◌, ◌⊎◌, inl, inr, ◌↔◌, List, [], ◌∷◌, ◌++◌, append-nil, append_assoc, length, eqb, arith, length-append}
use Rattle.token.proofs.theorems.Words.{Text, from, afterRun, oneOf, clash, isAny, begins, endsLine, Kind, isComment, isLineEnd, One, both, HasShape, Stands, Piece, hasPiece, AfterComment, NoEndAfter, Cut, Gap, GapKind, fresh, push, cutOf, Found, Start, scan, scanReturn, by-test, or-true, or-false, or_assoc, and-true, and-false, snoc, snoc-same, code-is}
use Rattle.token.proofs.theorems.Runs.{after-next, after-stop, run-after, after-least, apart, run-found}
use Rattle.token.proofs.theorems.Dispatch.{clear-head, scan-by, starts-blank, starts-lf, starts-cr}

-- ---- lists that end in p

-- a longer gap in two parts: its last piece ends the second, unless that is empty
split2 : (gap : List Piece) (p : Piece) (front back : List Piece) → gap ++ (p ∷ []) ≡ front ++ back
    → (back ≡ []) ⊎ ((b : List Piece) × (back ≡ b ++ (p ∷ [])) × (gap ≡ front ++ b))
split2 gap p front [] e = inl refl
split2 gap p front (x ∷ l) e =
    let s = snoc x l in
    let q = e ∙ ap (λ z. front ++ z) s.split ∙ sym (append_assoc front s.front (s.last ∷ [])) in
    let h = snoc-same gap (front ++ s.front) p s.last q in
    inr (s.front, s.split ∙ rw h.1, h.0)

has-snoc : (t : Kind → Bool) (l : List Piece) (p : Piece) → hasPiece t (l ++ (p ∷ [])) ≡ hasPiece t l || t p.kind
has-snoc t [] p = or-false (t p.kind)
has-snoc t (x ∷ l) p = ap (λ z. t x.kind || z) (has-snoc t l p) ∙ sym (or_assoc (t x.kind) (hasPiece t l) (t p.kind))

-- ---- after-comment marks

marked : {gap : List Piece} (f b : List Piece) → gap ≡ f ++ b → hasPiece isComment b ≡ true → hasPiece isLineEnd b ≡ false → AfterComment gap
marked f b s c n = record { front = f; back = b; split = s; comment = c; noEnd = n }

mark-end : (gap : List Piece) (p : Piece) → isLineEnd p.kind ≡ true → AfterComment (gap ++ (p ∷ [])) → ⊥
mark-end gap p y h = elim (split2 gap p h.front h.back h.split) [
  | inl e ↦ clash (sym (ap (hasPiece isComment) e) ∙ h.comment)
  | inr (b, e, k) ↦ clash (sym (rw (e, has-snoc, y, or-true) at h.noEnd))
]

mark-blank : (gap : List Piece) (p : Piece) → isComment p.kind ≡ false → isLineEnd p.kind ≡ false
    → AfterComment gap ↔ AfterComment (gap ++ (p ∷ []))
mark-blank gap p z y = (
  (λ h. marked h.front (h.back ++ (p ∷ [])) (ap (λ l. l ++ (p ∷ [])) h.split ∙ append_assoc h.front h.back (p ∷ []))
      (has-snoc isComment h.back p ∙ rw h.comment) (has-snoc isLineEnd h.back p ∙ rw (h.noEnd, y))),
  λ h. elim (split2 gap p h.front h.back h.split) [
    | inl e ↦ clash (sym (ap (hasPiece isComment) e) ∙ h.comment)
    | inr (b, e, k) ↦ marked h.front b k (rw (e, has-snoc, z, or-false) at h.comment) (rw (e, has-snoc, y, or-false) at h.noEnd)
  ],
)

mark-comment : (gap : List Piece) (p : Piece) → isComment p.kind ≡ true → isLineEnd p.kind ≡ false → AfterComment (gap ++ (p ∷ []))
mark-comment gap p z y = marked gap (p ∷ []) refl (rw z) (rw y)

-- ---- cuts

abbrev block : ℕ → ℕ → Piece
block a e = record { kind = Kind.blockComment; start = a; end = e }

cut-at : {script : List ℕ} {gap : List Piece} (f b : List Piece) (a e : ℕ) → gap ≡ f ++ (block a e ∷ b) → hasPiece isLineEnd f ≡ true
    → NoEndAfter (from script e) → Cut script gap
cut-at f b a e s x y = record { front = f; back = b; start = a; end = e; split = s; after = x; unended = y }

-- a cut of the longer gap is one of the gap, or p's own
cut-back : (script : List ℕ) (gap : List Piece) (p : Piece) → Cut script (gap ++ (p ∷ []))
    → Cut script gap ⊎ ((p.kind ≡ Kind.blockComment) × (hasPiece isLineEnd gap ≡ true) × NoEndAfter (from script p.end))
cut-back script gap p h = elim (split2 gap p h.front (block h.start h.end ∷ h.back) h.split) [
  | inl e ↦ cc
  | inr (c, e, k) ↦ by c e k
]
  where
    by : (c : List Piece) → (block h.start h.end ∷ h.back) ≡ c ++ (p ∷ []) → gap ≡ h.front ++ c
        → Cut script gap ⊎ ((p.kind ≡ Kind.blockComment) × (hasPiece isLineEnd gap ≡ true) × NoEndAfter (from script p.end))
    by [] e k =
        let q : block h.start h.end ≡ p = cc in
        inr (sym (ap (λ (x : Piece). x.kind) q), ap (hasPiece isLineEnd) (k ∙ append-nil h.front) ∙ h.after, rw (← q) h.unended)
    by (x ∷ c) e k =
        let q : x ≡ block h.start h.end = cc in
        inl (cut-at h.front c h.start h.end (k ∙ ap (λ y. h.front ++ (y ∷ c)) q) h.after h.unended)

cut-keep : (script : List ℕ) (gap : List Piece) (p : Piece) → Cut script gap → Cut script (gap ++ (p ∷ []))
cut-keep script gap p h =
    cut-at h.front (h.back ++ (p ∷ [])) h.start h.end
    (ap (λ l. l ++ (p ∷ [])) h.split ∙ append_assoc h.front (block h.start h.end ∷ h.back) (p ∷ [])) h.after h.unended

-- ---- past spaces and tabs

abbrev blanks : Text → Bool
blanks s = isAny " \t" s

-- does LF or CR LF follow there?
abbrev pub lineEnds : Text → Bool
lineEnds s = endsLine (afterRun blanks s)

pub end-ends : lineEnds [] ≡ false
unfolding afterRun begins
end-ends = refl

plain-ends : (s : Text) → isAny " \t" s ≡ false → isAny "\n" s ≡ false → isAny "\r" s ≡ false → lineEnds s ≡ false
unfolding begins
plain-ends [] a b d = end-ends
plain-ends (c ∷ s) a b d =
    ap endsLine (after-stop blanks c s a) ∙ by-test (eqb c.code 10) (λ p. clash (sym b ∙ rw p))
    (λ p. by-test (eqb c.code 13) (λ q. clash (sym d ∙ rw q)) (λ q. rw (p, q)))

-- what the scanner finds where a blank, LF or CR stands
abbrev pub spaces : Found → Bool
spaces (Found.gap GapKind.lineComment r) = false
spaces (Found.gap GapKind.blockComment r) = false
spaces (Found.token t r) = false
spaces _ = true

return-spaces : (s : Text) → spaces (scanReturn s) ≡ true
unfolding scanReturn
return-spaces s = by-test (begins "\r\n" s) (λ e. rw e) (λ e. rw e)

-- where it finds a comment or a token, no line end follows
pub other-ends : (n : ℕ) (s : Text) → spaces (scan n s) ≡ false → lineEnds s ≡ false
other-ends n s e =
    by-test (isAny " \t" s) (λ p. clash (sym e ∙ ap spaces (scan-by n s Start.blank (starts-blank s (clear-head (oneOf " \t") refl s p) p)))) (λ p.
    by-test (isAny "\n" s) (λ q. clash (sym e ∙ ap spaces (scan-by n s Start.lf (starts-lf s (clear-head (oneOf "\n") refl s q) q)))) (λ q.
    by-test (isAny "\r" s)
    (λ r. clash (sym e ∙ ap spaces (scan-by n s Start.cr (starts-cr s (clear-head (oneOf "\r") refl s r) r)) ∙ return-spaces s))
    (λ r. plain-ends s p q r)))

pub blank-same : (s r : Text) → Stands Kind.blank s r → lineEnds s ≡ lineEnds r
unfolding Stands HasShape
blank-same s r (One.one {c} {s = t} e, h) = ap endsLine (after-next blanks c t e)

pub line-end-ends : (s r : Text) → Stands Kind.lineEnd s r → lineEnds s ≡ true
unfolding Stands HasShape begins
line-end-ends s r (inl (One.one {c} {s = t} e), h) =
    ap endsLine (after-stop blanks c t (apart " \t" (oneOf "\n") refl (c ∷ t) e)) ∙ rw (code-is 10 c.code e)
line-end-ends s r (inr (both (One.one {c} {s = t} e) (One.one {c = d} f)), h) =
    ap endsLine (after-stop blanks c t (apart " \t" (oneOf "\r") refl (c ∷ t) e)) ∙ rw (code-is 13 c.code e, code-is 10 d.code f)

no-end-is : (s : Text) → NoEndAfter s → lineEnds s ≡ false
no-end-is s (r, l, e) = rw (← run-found blanks l) e

-- ---- the flags

-- what they say of the gap, where the text s follows
pub record Knows (script : List ℕ) (gap : List Piece) (g : Gap) (s : Text) : Type 0 where
  pub newline : g.newline ≡ hasPiece isLineEnd gap
  pub comment : g.comment ≡ true ↔ AfterComment gap
  pub cut : g.cut || g.pending && not (lineEnds s) ≡ true ↔ Cut script gap

knows : {script : List ℕ} {gap : List Piece} {g : Gap} {s : Text} → g.newline ≡ hasPiece isLineEnd gap → g.comment ≡ true ↔ AfterComment gap
    → g.cut || g.pending && not (lineEnds s) ≡ true ↔ Cut script gap → Knows script gap g s
knows n c x = record { newline = n; comment = c; cut = x }

iff-of : {P : Type 0} {a b : Bool} → a ≡ b → a ≡ true ↔ P → b ≡ true ↔ P
iff-of e h = ((λ q. h.0 (e ∙ q)), λ p. sym e ∙ h.1 p)

-- the cut, where no line end follows
pub cut-here : {script : List ℕ} {gap : List Piece} {g : Gap} {s : Text} → Knows script gap g s → lineEnds s ≡ false → cutOf g ≡ true ↔ Cut script gap
cut-here {g} {s} K h = iff-of (let e : g.cut || g.pending && not (lineEnds s) ≡ cutOf g = rw h (rw and-true) in e) K.cut

pub knows-fresh : (script : List ℕ) (s : Text) → Knows script [] fresh s
knows-fresh script s =
    knows refl ((λ e. clash e), λ h. clash (nothing h.front h.back h.split h.comment))
    ((λ e. clash e), λ h. absurd (omega (arith, length-append {A = Piece}, ap length h.split)))
  where
    nothing : (f b : List Piece) → [] ≡ f ++ b → hasPiece isComment b ≡ true → false ≡ true
    nothing [] b e c = ap (hasPiece isComment) e ∙ c
    nothing (x ∷ f) b e c = cc

-- a cut that p, which is no block comment, leaves as it is
same-cut : (script : List ℕ) (gap : List Piece) (p : Piece) {b : Bool} → b ≡ true ↔ Cut script gap → (p.kind ≡ Kind.blockComment → ⊥)
    → b ≡ true ↔ Cut script (gap ++ (p ∷ []))
same-cut script gap p k n = ((λ e. cut-keep script gap p (k.0 e)), λ h. elim (cut-back script gap p h) [ inl h ↦ k.1 h | inr h ↦ absurd (n h.0) ])

module _ (script : List ℕ) (gap : List Piece) (g : Gap) (s : Text) (K : Knows script gap g s) (p : Piece) (r : Text) where
  keep-newline : isLineEnd p.kind ≡ false → g.newline ≡ hasPiece isLineEnd (gap ++ (p ∷ []))
  keep-newline y = rw (has-snoc, y, or-false) K.newline

  pub knows-blank : p.kind ≡ Kind.blank → lineEnds s ≡ lineEnds r → Knows script (gap ++ (p ∷ [])) g r
  knows-blank q h =
      let m = mark-blank gap p (rw q) (rw q) in
      knows (keep-newline (rw q)) ((λ e. m.0 (K.comment.0 e)), λ h. K.comment.1 (m.1 h))
      (iff-of (ap (λ x. g.cut || g.pending && not x) h) (same-cut script gap p K.cut (λ e. cc)))

  pub knows-end : p.kind ≡ Kind.lineEnd → lineEnds s ≡ true → Knows script (gap ++ (p ∷ [])) (push GapKind.lineEnd g) r
  knows-end q h =
      let y : isLineEnd p.kind ≡ true = rw q in
      let e : g.cut || g.pending && not (lineEnds s) ≡ g.cut || false = rw h (rw and-false) in
      knows (rw (has-snoc, y, or-true)) ((λ e. clash e), λ h. absurd (mark-end gap p y h)) (iff-of e (same-cut script gap p K.cut (λ e. cc)))

  pub knows-line : p.kind ≡ Kind.lineComment → lineEnds s ≡ false → Knows script (gap ++ (p ∷ [])) (push GapKind.lineComment g) r
  knows-line q h =
      knows (keep-newline (rw q)) ((λ e. mark-comment gap p (rw q) (rw q)), λ h. refl)
      (iff-of (sym (or-false (cutOf g))) (same-cut script gap p (cut-here K h) (λ e. cc)))

  pub knows-block : p.kind ≡ Kind.blockComment → lineEnds s ≡ false → from script p.end ≡ r
      → Knows script (gap ++ (p ∷ [])) (push GapKind.blockComment g) r
  knows-block q h t = knows (keep-newline (rw q)) ((λ e. mark-comment gap p (rw q) (rw q)), λ h. refl) (there, back)
    where
      there : cutOf g || g.newline && not (lineEnds r) ≡ true → Cut script (gap ++ (p ∷ []))
      there e =
          by-test (cutOf g) (λ x. cut-keep script gap p ((cut-here K h).0 x)) (λ x.
          by-test g.newline (λ y. by-test (lineEnds r) (λ z. clash (rw (x, y, z) at e))
          (λ z. cut-at gap [] p.start p.end (ap (λ k. gap ++ (record { kind = k; start = p.start; end = p.end } ∷ [])) q) (sym K.newline ∙ y)
          (rw t (afterRun blanks r, (run-after blanks r, λ q w. after-least blanks w), z)))) (λ y. clash (rw (x, y) at e)))

      back : Cut script (gap ++ (p ∷ [])) → cutOf g || g.newline && not (lineEnds r) ≡ true
      back d = elim (cut-back script gap p d) [
        | inl c ↦ rw ((cut-here K h).1 c)
        | inr (k, l, n) ↦ rw (K.newline ∙ l, no-end-is r (rw t at n)) (or-true (cutOf g))
      ]
