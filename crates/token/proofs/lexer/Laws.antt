-- One token at a place of a script, by its first byte.
use Rattle.token.proofs.cursor.Bytes.{past, any-byte}
use Rattle.token.proofs.theorems.Families.{one-found, line-found, block-found}
use Rattle.token.proofs.lexer.Words.{ℕ, zero, suc, ◌+◌, ◌-◌, ◌≤◌, ◌<◌, String, ◌≡◌, refl, sym, ◌∙◌, ap, Bool, true, false, not, ◌&&◌, List, [], ◌∷◌, length, drop, get_or, eqb, leb, ltb, arith, ltb-true, ltb-false, lt-leb, codes, oneOf, isIdStart, Char, Text, from, place, headIs, idStart, charEnd, afterRun, clash, and-both, every, code_laws, text-laws, isAny, begins, digit, isDigit, opSign, opensLine, opensBlock, opensComment, endOfLine, GapKind, Found, Start, startOf, scan, scanAs, scanReturn, scanLine, scanBlock, blockOr, close, cursorAt, pieceOf, PieceAnswer, tokenTo, TokenKind, ◌⊎◌, inl, inr, Cursor, zero-one, ok-parts, refusalBy, Refused, Err, by-test, and-false, Stands, HasShape, both, or-true}
use Rattle.token.proofs.gap.Laws.{Pair, crlf-bytes}
use Rattle.token.proofs.theorems.Dispatch.{Hit, Scanned, scan-stands, clear, clear-head, scan-by, digit-one, quote-any, starts-lf, starts-cr, starts-number, starts-word, starts-operator, starts-backtick, starts-line, starts-block}
use Rattle.token.proofs.theorems.Shorter.{Strict}
open code_laws use {carry}
open text-laws use {head-byte, at-char, at-end, at-ascii, place-from, next-on}

-- the ASCII characters with which a piece other than an identifier or an operator starts
abbrev pub wordless : String
wordless = " \t\n\r()[]{},;.0123456789`\"'"

-- ---- digits

pub digit-byte : (s : List ℕ) (i : ℕ) → digit (from s i) ≡ isDigit (get_or s i 0)
unfolding isDigit
digit-byte s i = head-byte isDigit (record { nul = refl; wide = λ c h. rw (lt-leb c 0x39 (omega arith)) (and-false (leb 0x30 c)) }) s i

-- ---- what a first byte says of the scanner's answer

module _ (s : List ℕ) (i : ℕ) (h : i < length s) where
  abbrev n : ℕ
  n = length s

  abbrev t : Text
  t = from s i

  pub number_at : isDigit (get_or s i 0) ≡ true → scan n t ≡ scanAs n Start.number t
  unfolding isDigit
  number_at e = let d = digit-byte s i ∙ e in scan-by n t Start.number (starts-number t (clear-head isDigit refl t d) d)

  pub backtick-at : isAny "`" t ≡ true → scan n t ≡ scanAs n Start.backtick t
  backtick-at e = scan-by n t Start.backtick (starts-backtick t (clear-head (oneOf "`") refl t e) e)

  pub word-at : opensComment t ≡ false → idStart t ≡ true → scan n t ≡ scanAs n Start.word t
  word-at z e = scan-by n t Start.word (starts-word t (clear t z) e)

  pub operator-at : opensComment t ≡ false → opSign t ≡ true → scan n t ≡ scanAs n Start.operator t
  operator-at z e = scan-by n t Start.operator (starts-operator t (clear t z) e)

-- ---- ASCII, recognised from its byte

module _ (s : List ℕ) (i : ℕ) (h : i < length s) where
  pub ascii-head : (p : ℕ → Bool) → get_or s i 0 < 0x80 → headIs p (from s i) ≡ p (get_or s i 0)
  ascii-head p l = ap (headIs p) (at-ascii s i h l)

  -- an identifier's first character, and the text behind it
  pub ascii-start : ltb (get_or s i 0) 0x80 && isIdStart (get_or s i 0) ≡ true
      → (idStart (from s i) ≡ true) × (i + 1 ≤ length s) × (from s (i + 1) ≡ drop 1 (from s i))
  ascii-start e =
      let k = and-both (ltb (get_or s i 0) 0x80) (isIdStart (get_or s i 0)) e in
      let t = at-ascii s i h (ltb-true (get_or s i 0) 0x80 k.0) in
      (ap idStart t ∙ k.1, omega arith, sym (ap (drop 1) t))

-- a sub-list of codes of which none stands there
none-of : (a b : String) → every (oneOf a) (codes b) ≡ true → (s : Text) → isAny a s ≡ false → isAny b s ≡ false
none-of a b h [] e = refl
none-of a b h (c ∷ s) e = by-test (oneOf b c.code) (λ q. clash (sym e ∙ carry (oneOf a) (codes b) c.code h q)) (λ q. q)

no-digit : (s : Text) → isAny wordless s ≡ false → digit s ≡ false
no-digit [] e = refl
no-digit (c ∷ s) e = by-test (isDigit c.code) (λ q. clash (sym e ∙ carry (oneOf wordless) (codes "0123456789") c.code refl (digit-one c.code q))) (λ q. q)

-- nothing starts there
pub other-at : (n : ℕ) (s : Text) → opensComment s ≡ false → isAny wordless s ≡ false → idStart s ≡ false → opSign s ≡ false → scan n s ≡ Found.stuck 3 s
unfolding startOf
other-at n s z e a b =
    let k = clear s z in
    scan-by n s Start.other
    (rw (k.line, k.block, none-of wordless " \t" refl s e, none-of wordless "\n" refl s e, none-of wordless "\r" refl s e, none-of wordless "()[]{},;." refl s e, no-digit s e, a, b, none-of wordless "`" refl s e, quote-any s ∙ none-of wordless "\"" refl s e, none-of wordless "'" refl s e))

-- ---- gap pieces

-- one that is found is a comment, unless a blank or a line end stands there
pub gap-kind : (n : ℕ) (c : Char) (s : Text) (k : GapKind) (r : Text) → isAny " \t\n\r" (c ∷ s) ≡ false → scan n (c ∷ s) ≡ Found.gap k r
    → ((k ≡ GapKind.lineComment) ⊎ (k ≡ GapKind.blockComment)) × (opensComment (c ∷ s) ≡ true)
unfolding Stands HasShape
gap-kind n c s k r w e = go (scan-stands n c s)
  where
    off : {A : Type 0} (b : String) → every (oneOf " \t\n\r") (codes b) ≡ true → isAny b (c ∷ s) ≡ true → A
    off b h q = clash (sym (none-of " \t\n\r" b h (c ∷ s) w) ∙ q)

    go : Scanned n (c ∷ s) (scan n (c ∷ s)) → ((k ≡ GapKind.lineComment) ⊎ (k ≡ GapKind.blockComment)) × (opensComment (c ∷ s) ≡ true)
    go (Scanned.hit {r = q} h (Hit.blank f)) = off " \t" refl (one-found (isAny " \t") (c ∷ s) q h.0).0
    go (Scanned.hit {r = q} h (Hit.lineEnd f)) = elim h.0 [
      | inl o ↦ off "\n" refl (one-found (isAny "\n") (c ∷ s) q o).0
      | inr (both {m} a b) ↦ off "\r" refl (one-found (isAny "\r") (c ∷ s) m a).0
    ]
    go (Scanned.hit {r = q} h (Hit.lineComment f)) = (inl (cc), rw (line-found (c ∷ s) q h.0).0)
    go (Scanned.hit {r = q} h (Hit.blockComment f)) = (inr (cc), rw ((block-found (c ∷ s) q h.0).0, or-true))
    go (Scanned.hit h (Hit.token f v)) = zero-one (cc)
    go (Scanned.fell h) = let f = h.found in zero-one (cc)

-- what is left of a text starts no earlier, and later where something is taken
pub drop-place : (k : ℕ) (s : List ℕ) (i : ℕ) → i ≤ length s → (i ≤ place (length s) (drop k (from s i))) × (place (length s) (drop k (from s i)) ≤ length s)
drop-place zero s i l = let e = place-from s i l in (omega arith, omega arith)
drop-place (suc k) s i l =
    by-test (ltb i (length s)) (λ e.
    let h = ltb-true i (length s) e in
    let n = next-on s i h in
    let w = drop-place k s (charEnd s i) n.1 in
    rw (at-char s i h) (omega arith, omega arith)) (λ e. rw (at-end s i (ltb-false i (length s) e)) (omega arith, omega arith))

pub strict-rest : (c : Char) (s r : Text) → Strict r (c ∷ s) → r ≡ drop (length s - length r) s
strict-rest c s r (h, l) =
    let e : suc (length s) - length r ≡ suc (length s - length r) = omega arith in
    h.rest-is ∙ ap (λ k. drop k (c ∷ s)) e

pub later-place : (s : List ℕ) (i : ℕ) (r : Text) → i < length s → Strict r (from s i) → (i < place (length s) r) × (place (length s) r ≤ length s)
later-place s i r h v =
    let n = next-on s i h in
    let w = drop-place (length (from s (charEnd s i)) - length r) s (charEnd s i) n.1 in
    let e = ap (place (length s)) (strict-rest _ _ r (rw (at-char s i h) at v)) in
    (omega arith, omega arith)

-- ---- gap pieces

module _ (s : List ℕ) (i : ℕ) where
  pub lf-scan : i < length s → get_or s i 0 ≡ 0x0A → scan (length s) (from s i) ≡ Found.gap GapKind.lineEnd (from s (i + 1))
  lf-scan h e =
      let b : isAny "\n" (from s i) ≡ true = any-byte "\n" refl s i ∙ rw e in
      scan-by (length s) (from s i) Start.lf (starts-lf (from s i) (clear-head (oneOf "\n") refl (from s i) b) b) ∙ ap (Found.gap GapKind.lineEnd) (past s i h (omega arith))

  return-scan : isAny "\r" (from s i) ≡ true → scan (length s) (from s i) ≡ scanReturn (from s i)
  return-scan b = scan-by (length s) (from s i) Start.cr (starts-cr (from s i) (clear-head (oneOf "\r") refl (from s i) b) b)

  pub crlf-scan : Pair s i 0x0D 0x0A → scan (length s) (from s i) ≡ Found.gap GapKind.lineEnd (from s (i + 2))
  unfolding scanReturn begins
  crlf-scan p = return-scan (ap (isAny "\r") p.text) ∙ ap scanReturn p.text

  -- a CR without an LF
  pub lone-scan : isAny "\r" (from s i) ≡ true → eqb (get_or s i 0) 0x0D && eqb (get_or s (i + 1) 0) 0x0A ≡ false → scan (length s) (from s i) ≡ Found.stuck 1 (from s i)
  unfolding scanReturn
  lone-scan b e = return-scan b ∙ rw (crlf-bytes s i ∙ e)

  pub line-scan : (j : ℕ) → opensLine (from s i) ≡ true → from s j ≡ afterRun (λ u. not (endOfLine u)) (drop 2 (from s i))
      → scan (length s) (from s i) ≡ Found.gap GapKind.lineComment (from s j)
  unfolding scanLine
  line-scan j o q = scan-by (length s) (from s i) Start.line (starts-line (from s i) o) ∙ ap (Found.gap GapKind.lineComment) (sym q)

  pub block-scan : opensBlock (from s i) ≡ true → scan (length s) (from s i) ≡ blockOr (from s i) (close 0 0 (drop 2 (from s i)))
  unfolding scanBlock
  block-scan o = scan-by (length s) (from s i) Start.block (starts-block (from s i) o)

-- ---- pieces by their places

module _ (s : List ℕ) (i : ℕ) (h : i < length s) where
  abbrev m : ℕ
  m = length s

  -- where a piece is a token, the scanner finds it
  pub piece-token : (k : TokenKind) (e : Cursor) → tokenTo k e ≡ pieceOf m (scan m (from s i)) → (r : Text) × (scan m (from s i) ≡ Found.token k r) × (cursorAt (place m r) ≡ e)
  unfolding pieceOf
  piece-token k e q = go (scan m (from s i)) refl q
    where
      go : (f : Found) → scan m (from s i) ≡ f → tokenTo k e ≡ pieceOf m f → (r : Text) × (scan m (from s i) ≡ Found.token k r) × (cursorAt (place m r) ≡ e)
      go (Found.token x r) p q =
          let o = ok-parts q in
          (r, p ∙ ap (λ z. Found.token z r) (sym o.0), sym o.1)
      go (Found.stuck j r) p q = zero-one (cc)
      go (Found.gap j r) p q = zero-one (cc)

  -- where it is refused and no gap piece stands there, the scanner is stuck
  pub piece-stuck : (e : Refused) → opensComment (from s i) ≡ false → isAny " \t\n\r" (from s i) ≡ false → ◌≡◌ {A = PieceAnswer} (Err e) (pieceOf m (scan m (from s i)))
      → (j : ℕ) × (q : Text) × (scan m (from s i) ≡ Found.stuck j q) × (e ≡ record { what = refusalBy j; place = place m q })
  unfolding pieceOf
  piece-stuck e z w q = go (scan m (from s i)) refl q
    where
      go : (f : Found) → scan m (from s i) ≡ f → ◌≡◌ {A = PieceAnswer} (Err e) (pieceOf m f)
          → (j : ℕ) × (q : Text) × (scan m (from s i) ≡ Found.stuck j q) × (e ≡ record { what = refusalBy j; place = place m q })
      go (Found.token x r) p q = zero-one (cc)
      go (Found.stuck j r) p q = (j, r, p, cc)
      go (Found.gap x r) p q =
          let t = at-char s i h in
          clash (sym z ∙ ap opensComment t ∙ (gap-kind m _ _ x r (sym (ap (isAny " \t\n\r") t) ∙ w) (ap (scan m) (sym t) ∙ p)).1)
