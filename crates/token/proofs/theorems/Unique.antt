-- One reading at most; and where the scanner refuses nothing stands.
use Rattle.std.proofs.Common.{ℕ, ◌≡◌, refl, sym, ◌∙◌, ap, List, []}
use Rattle.token.proofs.theorems.Words.{Option, none, some, Text, begins, Kind, TokenType, withoutValues, Stands, Piece, Pieces, Reading, Valued, valuesOf, GapKind, Found, startOf, scan, TokenKind}
use Rattle.token.specs.declared.kinds.TokenKind.TheVariants as tk
use Rattle.token.proofs.theorems.Operators.{Fell}
use Rattle.token.proofs.theorems.Dispatch.{Hit}
use Rattle.token.proofs.theorems.Complete.{scan-hits}

abbrev pub kindOf : TokenKind → Kind
kindOf tk.Ident = Kind.token TokenType.ident
kindOf tk.OpId = Kind.token TokenType.opId
kindOf tk.BacktickId = Kind.token TokenType.backtickId
kindOf (tk.IntLit v) = Kind.token TokenType.intLit
kindOf (tk.LongLit v) = Kind.token TokenType.longLit
kindOf (tk.Str a e) = Kind.token TokenType.str
kindOf tk.CharSym = Kind.token TokenType.charSym
kindOf tk.LParen = Kind.token TokenType.lParen
kindOf tk.RParen = Kind.token TokenType.rParen
kindOf tk.LBracket = Kind.token TokenType.lBracket
kindOf tk.RBracket = Kind.token TokenType.rBracket
kindOf tk.LBrace = Kind.token TokenType.lBrace
kindOf tk.RBrace = Kind.token TokenType.rBrace
kindOf tk.Comma = Kind.token TokenType.comma
kindOf tk.Semi = Kind.token TokenType.semi
kindOf tk.Dot = Kind.token TokenType.dot
kindOf (tk.Newline b) = Kind.lineEnd
kindOf tk.Eof = Kind.blank
kindOf (tk.Kw k) = Kind.token (TokenType.key k)

-- the table of the kinds without values: each is its own kind's, and has none
abbrev Bare : TokenType → Option TokenKind → Type 0
Bare y none = Unit {0}
Bare y (some t) = (Kind.token y ≡ kindOf t) × (valuesOf t ≡ [])

bare-all : (y : TokenType) → Bare y (withoutValues y)
bare-all TokenType.intLit = tt
bare-all TokenType.longLit = tt
bare-all TokenType.str = tt
bare-all _ = (refl, refl)

pub bare-kind : (y : TokenType) (t : TokenKind) → withoutValues y ≡ some t → (Kind.token y ≡ kindOf t) × (valuesOf t ≡ [])
bare-kind y t e = rw e at (bare-all y)

valued-kind : {n : ℕ} {s r : Text} {y : TokenType} {t : TokenKind} → Valued n s r y t → Kind.token y ≡ kindOf t
valued-kind {y} {t} (Valued.bare e) = (bare-kind y t e).0
valued-kind (Valued.intLit h) = refl
valued-kind (Valued.longLit h) = refl
valued-kind (Valued.prefixed e) = refl
valued-kind (Valued.plain e c) = refl

-- the piece that is found
abbrev pieceFound : Found → Option (Kind × Text)
pieceFound (Found.gap GapKind.blank r) = some (Kind.blank, r)
pieceFound (Found.gap GapKind.lineEnd r) = some (Kind.lineEnd, r)
pieceFound (Found.gap GapKind.lineComment r) = some (Kind.lineComment, r)
pieceFound (Found.gap GapKind.blockComment r) = some (Kind.blockComment, r)
pieceFound (Found.token t r) = some (kindOf t, r)
pieceFound (Found.stuck j q) = none

exact : {n : ℕ} {s r : Text} {f : Found} {k : Kind} → Hit n s r f k → pieceFound f ≡ some (k, r)
exact (Hit.blank e) = ap pieceFound e
exact (Hit.lineEnd e) = ap pieceFound e
exact (Hit.lineComment e) = ap pieceFound e
exact (Hit.blockComment e) = ap pieceFound e
exact {r} (Hit.token e v) = ap pieceFound e ∙ rw (valued-kind v)

-- one piece at most stands at a start
pub one-kind : (k l : Kind) (s q r : Text) → Stands k s q → Stands l s r → (k ≡ l) × (q ≡ r)
one-kind k l s q r a b =
    let e = sym (exact (scan-hits 0 k s q a)) ∙ exact (scan-hits 0 l s r b) in
    let p : ◌≡◌ {A = Kind × Text} (k, q) (l, r) = cc in
    (ap (λ w. w.0) p, ap (λ w. w.1) p)

-- where the scanner refuses nothing stands
pub fell-none : (n : ℕ) (s : Text) → Fell s (scan n s) → (k : Kind) (r : Text) → Stands k s r → ⊥
fell-none n s f k r h = let e = sym (exact (scan-hits n k s r h)) ∙ ap pieceFound f.found in cc

-- nothing stands at the end
pub end-scan : scan 0 [] ≡ Found.stuck 3 []
unfolding scan startOf begins
end-scan = refl

pub none-end : (k : Kind) (r : Text) → Stands k [] r → ⊥
none-end k r h = let e = sym (exact (scan-hits 0 k [] r h)) ∙ ap pieceFound end-scan in cc

-- the same pieces lead to where no piece stands, and these to one place
pub together : {n : ℕ} {s r q : Text} {ps qs : List Piece} → Pieces n s ps r → ((k : Kind) (o : Text) → Stands k r o → ⊥) → Pieces n s qs q
    → ((k : Kind) (o : Text) → Stands k q o → ⊥) → (ps ≡ qs) × (r ≡ q)
together Pieces.done a Pieces.done b = (refl, refl)
together Pieces.done a (Pieces.piece {k} {m} g v) b = absurd (a k m g)
together (Pieces.piece {k} {m} h w) a Pieces.done b = absurd (b k m h)
together {n} (Pieces.piece {k} {s} {m} {ps} h w) a (Pieces.piece {k = l} {m = o} {r = z} {ps = qs} g v) b =
    let j = one-kind k l s m o h g in
    let v' : Pieces n m qs z = rw j.1 v in
    let t = together w a v' b in
    (rw (j.0, j.1, t.0), t.1)

pub one-reading : (script : List ℕ) (ps qs : List Piece) → Reading script ps → Reading script qs → ps ≡ qs
one-reading script ps qs h k = (together h none-end k none-end).0
