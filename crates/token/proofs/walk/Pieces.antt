-- What stands where a walk stands, by the class of its byte and by what the readers found there: the step past it.
use Rattle.token.proofs.lexer.Words.{ℕ, ◌+◌, ◌*◌, ◌≤◌, ◌<◌, ◌≡◌, refl, sym, ◌∙◌, ap, subst, Bool, true, false, not, ◌||◌, List, [], append-nil, length, drop, get_or, eqb, arith, oneOf, from, afterRun, text-laws, isAny, opensLine, opensBlock, opensComment, Token, kindNumber, values, headLength, recordLength, Gap, GapKind, fresh, push, scan, close, classAt, blankClass, lfClass, crClass, upToBlank, inLineEnd, cursorAt, headNumber, headBytes, formOf, plainForm, byForm, hereOf, pieceOf, PieceAnswer, tokenTo, storedIf, lineEndAt, gapGoes, trail, gapOf, gapAt, Counted, Counts, counting, Good, movedTo, tokenBehind, lineBehind, commentBehind, blockBehind, Refuses, Steps, TokenKind, Stand, eqb-true, eq-eqb, ne_eqb, Cursor, Form, Refused, closedOf, refusalBy, None, Err, and-both, ap₂, signOf}
use Rattle.words.specs.Words.{le4, le8}
use Rattle.token.specs.declared.kinds.TokenKind.TheVariants as tk
use Rattle.token.proofs.names.Ascii.{sign-bare, sign-found, bare-length, bare-record, sign-low, sign-number}
use Rattle.token.proofs.byte_class.Laws.{class-signs, class-blank, class-lf, class-cr, class-slash, class-number}
use Rattle.token.proofs.cursor.Blanks.{one-blank, two-blanks}
use Rattle.token.proofs.cursor.Bytes.{inside, any-byte}
use Rattle.token.proofs.form.Laws.{form-record, length-by}
use Rattle.token.proofs.form.Stores.{head-fields}
use Rattle.token.proofs.gap.Scans.{GapTo, lf-found, crlf-found, block-open}
use Rattle.token.proofs.gap.Laws.{opens-line, opens-block, block-opens}
use Rattle.token.proofs.ident.Laws.{comment_bytes}
use Rattle.token.specs.declared.refusal.Refusal.TheVariants as refusal
use Rattle.token.proofs.lexer.Laws.{lone-scan, piece-stuck}
use Rattle.token.proofs.lexer.Found.{gap-strict}
use Rattle.token.proofs.lexer.Trails.{trail-gap, trail-blanks}
use Rattle.token.proofs.lexer.Turns.{Turn, turn-token, or-false, settled}
use Rattle.token.proofs.walk.Laws.{step-token, step-line, step-same, step-comment, steps-to, stands-at, refuses, refuses-here}
use Rattle.token.proofs.records.Reach.{reach-start, reach-same}
use Rattle.token.specs.code.ByteClass.{slashClass}
use Rattle.token.specs.code.Records.{State, measuredAfter, answerOf, tokensOn, stores, countingAll}
use Rattle.token.specs.code.Walk.{needAt, stateAt}
use Rattle.token.specs.paper.Records.{exactNeed}
open text-laws use {run-done, at-char, place-from}

-- ---- gap pieces

-- the walk goes on behind one, with the gap that it makes
pub gap-trail : (s : List ℕ) (p : GapKind) (i j : ℕ) (g : Gap) → GapTo s p i j
    → trail (length s) 0 g (from s i) ≡ gapGoes p i j g.comment (trail (length s) 0 (push p g) (from s j))
gap-trail s p i j g f =
    let o = f.on in
    let w = f.within in
    let h : i < length s = omega arith in
    let t = at-char s i h in
    let e = ap (scan (length s)) (sym t) ∙ f.found in
    ap (trail (length s) 0 g) t ∙ trail-gap (length s) g _ _ (from s j) p e (gap-strict (length s) _ _ p (from s j) e)
    ∙ ap (λ k. gapGoes p i k g.comment (trail (length s) 0 (push p g) (from s j))) (place-from s j w)

-- ---- tokens

pub found-here : (s : List ℕ) (x : Stand) (e : ℕ) (k : TokenKind) → x.at < length s → tokenTo k (cursorAt e) ≡ pieceOf (length s) (scan (length s) (from s x.at))
    → Turn s x.at (gapAt x) (record { kind = k; start = x.at; end = e; cut = x.cut }) e fresh
found-here s x e k h f =
    subst (λ c. Turn s x.at (gapAt x) (record { kind = k; start = x.at; end = e; cut = c }) e fresh) (or-false x.cut)
    (turn-token s x.at (gapAt x) h k (cursorAt e) f)

-- a kind without values is not counted beside the tokens
bare-counts : (c : Counts) (k : TokenKind) → values k ≡ [] → counting c k ≡ c
unfolding counting values le4 le8
bare-counts c (tk.IntLit v) e = cc
bare-counts c (tk.LongLit v) e = cc
bare-counts c (tk.Str a b) e = cc
bare-counts c (tk.Newline mark) e = cc
bare-counts c _ e = refl

module _ {s : List ℕ} {x : Stand} (g : Good s x) {c : Counts} (u : Counted x c) (h : x.at < length s) where
  -- with values
  pub step-valued : (k : TokenKind) (e : ℕ) → tokenTo k (cursorAt e) ≡ pieceOf (length s) (scan (length s) (from s x.at)) → (l : ℕ) → l ≡ recordLength k
      → (out next : List ℕ) → next ≡ storedIf out x.bytes (byForm (formOf k) x.at e x.cut) → Steps s x c out (tokenBehind x (hereOf s e) l) (counting c k) next
  step-valued k e f l p out next q =
      let t : Token = record { kind = k; start = x.at; end = e; cut = x.cut } in
      step-token g u (found-here s x e k h f) l p out next (q ∙ ap (storedIf out x.bytes) (form-record t))

  -- without values, by the kind's number
  pub step-bare : (k : TokenKind) (e : ℕ) → tokenTo k (cursorAt e) ≡ pieceOf (length s) (scan (length s) (from s x.at)) → values k ≡ []
      → (out next : List ℕ) → next ≡ storedIf out x.bytes (byForm (plainForm (kindNumber k)) x.at e x.cut) → Steps s x c out (tokenBehind x (hereOf s e) headLength) c next
  step-bare k e f v out next q =
      let t : Token = record { kind = k; start = x.at; end = e; cut = x.cut } in
      subst (λ d. Steps s x c out (tokenBehind x (hereOf s e) headLength) d next) (bare-counts c k v)
      (step-token g u (found-here s x e k h f) headLength (bare-length k v) out next (q ∙ ap (storedIf out x.bytes) (sym (bare-record t v))))

-- ---- block comments one after another

-- From x the walk comes to y past pieces of a gap with no line end among them: what it comes to from y is what it comes to from x.
pub record Past (s : List ℕ) (x y : Stand) : Type 0 where
  pub good : Good s y
  pub on : x.at < y.at
  pub bytes : y.bytes ≡ x.bytes
  pub line : y.line ≡ x.line
  pub walked : trail (length s) 0 (gapAt y) (from s y.at) ≡ trail (length s) 0 (gapAt x) (from s x.at)

module _ {s : List ℕ} {x y : Stand} (p : Past s x y) where
  pub past-trans : {z : Stand} → Past s y z → Past s x z
  past-trans q =
      let o = p.on in
      let t = q.on in
      record { good = q.good; on = omega (arith, o, t); bytes = q.bytes ∙ p.bytes; line = q.line ∙ p.line; walked = q.walked ∙ p.walked }

  pub past-waits : eqb x.line x.bytes ≡ true → eqb y.line y.bytes ≡ true
  past-waits e = ap₂ eqb p.line p.bytes ∙ e

  -- a refusal there
  pub past-refuses : {c : Counts} {out : List ℕ} {e : Refused} → Refuses s y c out e → Refuses s x c out e
  past-refuses {c} {out} r =
      record {
        measured = sym (ap₂ (λ b w. measuredAfter (needAt b c) (answerOf w)) p.bytes p.walked) ∙ r.measured;
        stored = sym (ap₂ (λ b w. stores out b (tokensOn w)) p.bytes p.walked) ∙ r.stored;
        counted = sym (ap (λ w. countingAll c (tokensOn w)) p.walked) ∙ r.counted;
      }

-- ---- by the class

-- an LF or CR, by its class
line-class : (s : List ℕ) (k : ℕ) → isAny "\n\r" (from s k) ≡ inLineEnd (classAt s k)
line-class s k =
    any-byte "\n\r" refl s k ∙ ap₂ ◌||◌ (sym (or-false (eqb (get_or s k 0) 0x0A)) ∙ sym (class-lf (get_or s k 0))) (sym (class-cr (get_or s k 0)))

module _ {s : List ℕ} {x : Stand} (g : Good s x) where
  -- one of the nine signs
  pub sign-here : upToBlank x.class.number ≡ true → eqb x.class.number blankClass ≡ false → oneOf "()[]{},;." (get_or s x.at 0) ≡ true
  sign-here a b =
      let u = sym (class-signs (get_or s x.at 0)) ∙ ap upToBlank (sym g.class) ∙ a in
      let v = sym (class-blank (get_or s x.at 0)) ∙ ap (λ e. eqb e blankClass) (sym g.class) ∙ b in
      sym (or-false _) ∙ ap (λ z. oneOf "()[]{},;." (get_or s x.at 0) || z) (sym v) ∙ u

  pub step-sign : {c : Counts} → Counted x c → upToBlank x.class.number ≡ true → eqb x.class.number blankClass ≡ false → (out next : List ℕ)
      → next ≡ storedIf out x.bytes (headBytes (headLength + 32768 * x.class.number) x.at (x.at + 1) x.cut) → Steps s x c out (tokenBehind x (hereOf s (x.at + 1)) headLength) c next
  unfolding byForm
  step-sign {c} u a b out next q =
      let o = sign-here a b in
      let h = inside s x.at (sign-low (get_or s x.at 0) o).0 in
      let n = class-number (get_or s x.at 0) o in
      let c = g.class in
      let m = sign-number s x.at h o in
      let k = signOf (from s x.at) in
      let z : headLength + 32768 * x.class.number ≡ headNumber headLength (kindNumber k) = omega (arith, n, c, m) in
      step-bare g u h k (x.at + 1) (sign-found s x.at h o) (sign-bare _) out next (q ∙ ap (storedIf out x.bytes) (head-fields _ headLength (kindNumber k) x.at (x.at + 1) x.cut (omega arith) z ∙ sym (append-nil _)))

  -- blanks
  pub step-blanks : {c : Counts} → Counted x c → (k : ℕ) → x.at ≤ k → k ≤ length s → from s k ≡ afterRun (isAny " \t") (from s x.at) → (out : List ℕ) → Steps s x c out (movedTo x (hereOf s k)) c out
  step-blanks {c} u k l w e out = step-same g u k l w (ap (trail (length s) 0 (gapAt x)) e ∙ trail-blanks (length s) (gapAt x) (from s x.at)) out

  -- a line end
  pub step-line-end : {c : Counts} → Counted x c → (e : ℕ) → GapTo s GapKind.lineEnd x.at e → (out next : List ℕ)
      → next ≡ storedIf out x.bytes (byForm (formOf (tk.Newline (eqb x.mark x.bytes))) x.at e false) → Steps s x c out (lineBehind s x e) (counting c (tk.Newline (eqb x.mark x.bytes))) next
  step-line-end {c} u e f out next q =
      let t = lineEndAt x.at e (eqb x.mark x.bytes) in
      step-line g u (record { walked = gap-trail s GapKind.lineEnd x.at e (gapAt x) f; on = f.on; within = f.within }) out next (q ∙ ap (storedIf out x.bytes) (form-record t))

  -- a line comment
  pub step-line-comment : {c : Counts} → Counted x c → (e : ℕ) → GapTo s GapKind.lineComment x.at e → (out : List ℕ) → Steps s x c out (commentBehind s x e) c out
  step-line-comment {c} u e f out =
      let o = f.on in
      step-comment g u e x.cut (omega arith) f.within
      (sym (gap-trail s GapKind.lineComment x.at e (gapAt x) f ∙ ap (λ c. trail (length s) 0 (gapOf (eqb x.line x.bytes) true c) (from s e)) (or-false x.cut))) out

  -- a block comment, where no line end of its gap came
  pub step-block : {c : Counts} → Counted x c → (e : ℕ) → GapTo s GapKind.blockComment x.at e → eqb x.line x.bytes ≡ false → (out : List ℕ) → Steps s x c out (commentBehind s x e) c out
  step-block {c} u e f n out =
      let o = f.on in
      let y : push GapKind.blockComment (gapAt x) ≡ gapOf (eqb x.line x.bytes) true x.cut = rw (n, or-false x.cut) in
      step-comment g u e x.cut (omega arith) f.within (sym (gap-trail s GapKind.blockComment x.at e (gapAt x) f ∙ ap (λ z. trail (length s) 0 z (from s e)) y)) out

  -- a block comment and the blanks behind it, where one came: what follows decides on the cut
  block-walked : (e k : ℕ) → GapTo s GapKind.blockComment x.at e → eqb x.line x.bytes ≡ true → e ≤ k → k ≤ length s → from s k ≡ afterRun (isAny " \t") (from s e)
      → trail (length s) 0 (gapOf (eqb x.line x.bytes) true (x.cut || not (inLineEnd (classAt s k)))) (from s k) ≡ trail (length s) 0 (gapAt x) (from s x.at)
  block-walked e k f n l w b =
      let v = x.cut || not (isAny "\n\r" (from s k)) in
      let y : push GapKind.blockComment (gapAt x) ≡ record { newline = true; comment = true; pending = true; cut = x.cut } = rw (n, or-false x.cut) in
      let z = settled (length s) true true x.cut (from s k) (ap (isAny " \t") b ∙ run-done (isAny " \t") refl (from s e)) in
      let p : gapOf true true v ≡ gapOf (eqb x.line x.bytes) true v = ap (λ d. gapOf d true v) (sym n) in
      subst (λ d. trail (length s) 0 (gapOf (eqb x.line x.bytes) true (x.cut || not d)) (from s k) ≡ trail (length s) 0 (gapAt x) (from s x.at)) (line-class s k)
      (sym (gap-trail s GapKind.blockComment x.at e (gapAt x) f ∙ ap (λ d. trail (length s) 0 d (from s e)) y
      ∙ sym (ap (trail (length s) 0 (record { newline = true; comment = true; pending = true; cut = x.cut })) b ∙ trail-blanks (length s) _ (from s e))
      ∙ z ∙ ap (λ d. trail (length s) 0 d (from s k)) p))

  pub past-block : (e k : ℕ) → GapTo s GapKind.blockComment x.at e → eqb x.line x.bytes ≡ true → e ≤ k → k ≤ length s → from s k ≡ afterRun (isAny " \t") (from s e) → Past s x (blockBehind s x k)
  past-block e k f n l w b =
      let o = f.on in
      let z = g.size in
      let cut = x.cut || not (inLineEnd (classAt s k)) in
      record {
        good = record { within = w; size = omega (arith, o, z); class = refl; line = g.line; mark = omega arith };
        on = omega (arith, o);
        bytes = refl;
        line = refl;
        walked = ap (λ m. trail (length s) 0 (gapOf (eqb x.line x.bytes) m cut) (from s k)) (eq-eqb x.bytes x.bytes refl) ∙ block-walked e k f n l w b;
      }

  pub past-steps : {y : Stand} → Past s x y → (c : Counts) (out : List ℕ) → Counted x c → Steps s x c out y c out
  past-steps {y} p c out u =
      let w : State = record { at = y.at; gap = gapAt y; need = needAt x.bytes c } in
      let o = p.on in
      let i = p.good in
      let e : stateAt y c ≡ w = ap (λ b. record { at = y.at; gap = gapAt y; need = needAt b c }) p.bytes in
      steps-to (reach-same (reach-start (stands-at g u)) y.at (gapAt y) (omega arith) i.within p.walked) y c e i.class
      (subst (λ b. b ≡ exactNeed (needAt b c).tokens c) (sym p.bytes) u.whole) i.line i.mark (λ z. refl) (λ z. refl)

  -- the byte, from a test of its class
  pub by-class : (f : ℕ → Bool) {b : Bool} → f x.class.number ≡ b → f (classAt s x.at) ≡ b
  by-class f e = sym (ap f g.class) ∙ e

  blank-here : eqb x.class.number blankClass ≡ true → oneOf " \t" (get_or s x.at 0) ≡ true
  blank-here e = sym (class-blank (get_or s x.at 0)) ∙ by-class (λ z. eqb z blankClass) e

  pub step-one-blank : {c : Counts} → Counted x c → eqb x.class.number blankClass ≡ true → eqb (classAt s (x.at + 1)) blankClass ≡ false → (out : List ℕ) → Steps s x c out (movedTo x (hereOf s (x.at + 1))) c out
  step-one-blank {c} u e n out =
      let o = one-blank s x.at (blank-here e) (sym (class-blank (get_or s (x.at + 1) 0)) ∙ n) in
      step-blanks u (x.at + 1) (omega arith) o.0 o.1 out

  pub two-here : eqb x.class.number blankClass ≡ true → eqb (classAt s (x.at + 1)) blankClass ≡ true → x.at + 2 ≤ length s
  two-here e f = (two-blanks s x.at (blank-here e) (sym (class-blank (get_or s (x.at + 1) 0)) ∙ f)).0

  pub step-more-blanks : {c : Counts} → Counted x c → eqb x.class.number blankClass ≡ true → eqb (classAt s (x.at + 1)) blankClass ≡ true → (k : ℕ) → k ≤ length s → x.at + 2 ≤ k
      → from s k ≡ afterRun (isAny " \t") (from s (x.at + 2)) → (out : List ℕ) → Steps s x c out (movedTo x (hereOf s k)) c out
  step-more-blanks {c} u e f k w l q out = step-blanks u k (omega arith) w (q ∙ (two-blanks s x.at (blank-here e) (sym (class-blank (get_or s (x.at + 1) 0)) ∙ f)).1) out

  -- line ends
  pub lf-here : eqb x.class.number lfClass ≡ true → GapTo s GapKind.lineEnd x.at (x.at + 1)
  lf-here e = lf-found s x.at (sym (or-false _) ∙ sym (class-lf (get_or s x.at 0)) ∙ by-class (λ z. eqb z lfClass) e)

  cr-byte-here : eqb x.class.number crClass ≡ true → eqb (get_or s x.at 0) 0x0D ≡ true
  cr-byte-here e = sym (or-false _) ∙ sym (class-cr (get_or s x.at 0)) ∙ by-class (λ z. eqb z crClass) e

  pub cr-here : eqb x.class.number crClass ≡ true → get_or s (x.at + 1) 0 ≡ 0x0A → GapTo s GapKind.lineEnd x.at (x.at + 2)
  cr-here e n = crlf-found s x.at (rw (cr-byte-here e, eq-eqb (get_or s (x.at + 1) 0) 0x0A n))

  -- a CR without an LF
  pub refuses-lone : eqb x.class.number crClass ≡ true → (get_or s (x.at + 1) 0 ≡ 0x0A → ⊥) → (c : Counts) (out : List ℕ) → Refuses s x c out (record { what = refusal.LoneCr; place = x.at })
  unfolding refusalBy
  refuses-lone e n d out =
      let c = cr-byte-here e in
      let z : get_or s x.at 0 ≡ 0x0D = eqb-true (get_or s x.at 0) 0x0D c in
      let h = inside s x.at (omega (arith, z)) in
      let r : isAny "\r" (from s x.at) ≡ true = any-byte "\r" refl s x.at ∙ rw c in
      refuses-here h 1 (lone-scan s x.at r (rw (c, ne_eqb (get_or s (x.at + 1) 0) 0x0A n))) d out

  -- a block comment's opening, by the class of its first byte
  pub opens-by-class : eqb x.class.number slashClass ≡ true → get_or s (x.at + 1) 0 ≡ 0x2A → opensBlock (from s x.at) ≡ true
  opens-by-class e n =
      let z : eqb (get_or s x.at 0) 0x2F ≡ true = sym (or-false _) ∙ sym (class-slash (get_or s x.at 0)) ∙ by-class (λ z. eqb z slashClass) e in
      opens-block s x.at ∙ rw (z, eq-eqb (get_or s (x.at + 1) 0) 0x2A n)

  -- a block comment that is open at the end of script
  pub refuses-open : opensBlock (from s x.at) ≡ true → None ≡ closedOf (length s) (close 0 0 (drop 2 (from s x.at))) → (c : Counts) (out : List ℕ) → Refuses s x c out (record { what = refusal.OpenComment; place = x.at })
  unfolding refusalBy
  refuses-open o q c out =
      let h : x.at < length s = omega (arith, (block-opens s x.at o).within) in
      refuses-here h 2 (block-open s x.at o q) c out

-- ---- comments

-- which comment is opened, by its second byte
module _ (s : List ℕ) (i : ℕ) (o : opensComment (from s i) ≡ true) where
  slash-byte : (eqb (get_or s i 0) 0x2F ≡ true) × (oneOf "*/" (get_or s (i + 1) 0) ≡ true)
  slash-byte = and-both (eqb (get_or s i 0) 0x2F) (oneOf "*/" (get_or s (i + 1) 0)) (sym (comment_bytes s i) ∙ o)

  pub opens-line-here : get_or s (i + 1) 0 ≡ 0x2F → opensLine (from s i) ≡ true
  opens-line-here e = opens-line s i ∙ rw (slash-byte.0, eq-eqb (get_or s (i + 1) 0) 0x2F e)

  pub opens-block-here : (get_or s (i + 1) 0 ≡ 0x2F → ⊥) → opensBlock (from s i) ≡ true
  opens-block-here n = opens-block s i ∙ rw (slash-byte.0, sym (or-false _) ∙ (rw (ne_eqb (get_or s (i + 1) 0) 0x2F n) at slash-byte.1))

-- ---- a piece that was read

module _ {s : List ℕ} {x : Stand} (g : Good s x) (h : x.at < length s) where
  -- a token
  pub step-piece : {c : Counts} → Counted x c → (k : TokenKind) (e : Cursor) → tokenTo k e ≡ pieceOf (length s) (scan (length s) (from s x.at)) → (f : Form) → f ≡ formOf k → (out next : List ℕ)
      → next ≡ storedIf out x.bytes (byForm f x.at e.at x.cut) → Steps s x c out (tokenBehind x (hereOf s e.at) f.length) (counting c k) next
  step-piece u k e q f r out next z =
      step-valued g u h k e.at q f.length (length-by f k r) out next (z ∙ ap (λ y. storedIf out x.bytes (byForm y x.at e.at x.cut)) r)

  pub piece-on : (k : TokenKind) (e : Cursor) → tokenTo k e ≡ pieceOf (length s) (scan (length s) (from s x.at)) → x.at < e.at
  piece-on k e q = (turn-token s x.at (gapAt x) h k e q).on

  -- a refusal
  pub refuses-piece : (e : Refused) → opensComment (from s x.at) ≡ false → isAny " \t\n\r" (from s x.at) ≡ false → ◌≡◌ {A = PieceAnswer} (Err e) (pieceOf (length s) (scan (length s) (from s x.at)))
      → (c : Counts) (out : List ℕ) → Refuses s x c out e
  refuses-piece e a b q c out = let p = piece-stuck s x.at h e a b q in refuses h p.0 p.1 p.2 e p.3 c out
