-- Line ends and comments by where they end: the scanner finds them there.
use Rattle.token.proofs.cursor.Words.{ℕ, ◌+◌, ◌≤◌, ◌<◌, ◌≡◌, sym, ◌∙◌, ap, true, not, ◌&&◌, List, length, drop, get_or, eqb, arith, Text, from, place, afterRun, text-laws, endOfLine, opensLine, opensBlock, GapKind, Found, scan, close, closedOf, Some, None, Cursor}
use Rattle.token.proofs.cursor.Bytes.{inside}
use Rattle.token.proofs.gap.Laws.{pair-at, line-opens, block-opens}
use Rattle.token.proofs.lexer.Found.{gap-strict, left-at}
use Rattle.token.proofs.lexer.Laws.{later-place, lf-scan, crlf-scan, line-scan, block-scan}
open text-laws use {at-char, place-from}

-- a gap piece stands at the place i, and the place j is right behind it
pub record GapTo (s : List ℕ) (p : GapKind) (i j : ℕ) : Type 0 where
  pub found : scan (length s) (from s i) ≡ Found.gap p (from s j)
  pub on : i < j
  pub within : j ≤ length s

module _ (s : List ℕ) (i : ℕ) where
  -- from what the scanner finds
  gap-to : (p : GapKind) (r : Text) → i < length s → scan (length s) (from s i) ≡ Found.gap p r → GapTo s p i (place (length s) r)
  gap-to p r h e =
      let t = at-char s i h in
      let y = gap-strict (length s) _ _ p r (ap (scan (length s)) (sym t) ∙ e) in
      let w = later-place s i r h (rw t y) in
      record { found = e ∙ ap (Found.gap p) (sym (left-at s i r (rw t y.0))); on = w.0; within = w.1 }

  -- ---- line ends

  pub lf-found : eqb (get_or s i 0) 0x0A ≡ true → GapTo s GapKind.lineEnd i (i + 1)
  lf-found e = grind (arith, inside, lf-scan)

  pub crlf-found : eqb (get_or s i 0) 0x0D && eqb (get_or s (i + 1) 0) 0x0A ≡ true → GapTo s GapKind.lineEnd i (i + 2)
  crlf-found e = let p = pair-at s i 0x0D 0x0A (omega arith) (omega arith) (omega arith) (omega arith) e in record { found = crlf-scan s i p; on = omega arith; within = p.within }

  -- ---- comments

  -- a line comment, from the text at its end
  pub line-comment-found : (j : ℕ) → opensLine (from s i) ≡ true → j ≤ length s → from s j ≡ afterRun (λ t. not (endOfLine t)) (drop 2 (from s i)) → GapTo s GapKind.lineComment i j
  line-comment-found j o l q =
      let p = line-opens s i o in
      rw (place-from s j l) at (gap-to GapKind.lineComment (from s j) (omega (arith, p.within)) (line-scan s i j o q))

  -- a block comment, where it is closed; and where it is open at the end of script
  pub block-found : (e : Cursor) → opensBlock (from s i) ≡ true → Some e ≡ closedOf (length s) (close 0 0 (drop 2 (from s i))) → GapTo s GapKind.blockComment i e.at
  unfolding closedOf
  block-found e o q =
      let b = block-scan s i o in
      let g = λ (r : Text) (f : scan (length s) (from s i) ≡ Found.gap GapKind.blockComment r). gap-to GapKind.blockComment r (omega (arith, (block-opens s i o).within)) f in
      grind arith

  pub block-open : opensBlock (from s i) ≡ true → None ≡ closedOf (length s) (close 0 0 (drop 2 (from s i))) → scan (length s) (from s i) ≡ Found.stuck 2 (from s i)
  unfolding closedOf
  block-open o q = let b = block-scan s i o in grind arith
