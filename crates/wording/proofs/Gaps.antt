-- What is kept of a gap goes by the kinds of its pieces, and so does what is kept behind one more.
use Rattle.std.proofs.Common.{ℕ, ◌≡◌, refl, sym, ap, Bool, true, false, List, [], ◌∷◌, ◌++◌}
use Rattle.token.proofs.theorems.Words.{Text, Kind, clash, from, Piece, Stands, Gap, GapKind, push, Found}
use Rattle.token.proofs.theorems.Dispatch.{Hit}
use Rattle.token.proofs.theorems.Complete.{scan-hits}
use Rattle.token.proofs.theorems.Flags.{Knows, knows-blank, knows-end, knows-line, knows-block, lineEnds, spaces, blank-same, line-end-ends, other-ends}

abbrev pub isSpace : Kind → Bool
isSpace Kind.blank = true
isSpace Kind.lineEnd = true
isSpace _ = false

hit-other : {n : ℕ} {s r : Text} {f : Found} {k : Kind} → Hit n s r f k → isSpace k ≡ false → spaces f ≡ false
hit-other (Hit.blank e) h = clash (sym h)
hit-other (Hit.lineEnd e) h = clash (sym h)
hit-other (Hit.lineComment e) h = ap spaces e
hit-other (Hit.blockComment e) h = ap spaces e
hit-other (Hit.token e v) h = ap spaces e

-- no line end follows where a comment or a token stands
pub no-end : (k : Kind) (s r : Text) → Stands k s r → isSpace k ≡ false → lineEnds s ≡ false
no-end k s r h e = other-ends 0 s (hit-other (scan-hits 0 k s r h) e)

abbrev pub isGap : Kind → Bool
isGap (Kind.token t) = false
isGap _ = true

-- what is kept behind a piece of the kind
abbrev pub after : Kind → Gap → Gap
after Kind.lineEnd g = push GapKind.lineEnd g
after Kind.lineComment g = push GapKind.lineComment g
after Kind.blockComment g = push GapKind.blockComment g
after _ g = g

pub knows-on : (script : List ℕ) (gap : List Piece) (g : Gap) (s : Text) → Knows script gap g s → (p : Piece) (k : Kind) (r : Text)
    → p.kind ≡ k → Stands k s r → from script p.end ≡ r → isGap k ≡ true → Knows script (gap ++ (p ∷ [])) (after k g) r
knows-on script gap g s K p Kind.blank r e h t q = knows-blank script gap g s K p r e (blank-same s r h)
knows-on script gap g s K p Kind.lineEnd r e h t q = knows-end script gap g s K p r e (line-end-ends s r h)
knows-on script gap g s K p Kind.lineComment r e h t q = knows-line script gap g s K p r e (no-end Kind.lineComment s r h refl)
knows-on script gap g s K p Kind.blockComment r e h t q = knows-block script gap g s K p r e (no-end Kind.blockComment s r h refl) t
knows-on script gap g s K p (Kind.token y) r e h t q = clash q
