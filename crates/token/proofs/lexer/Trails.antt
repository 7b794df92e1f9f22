-- The walk token by token: one step of it, what it comes to, and the records of what it comes over.
use Rattle.token.proofs.lexer.Laws.{strict-rest}
use Rattle.token.proofs.theorems.Runs.{after-next, after-stop}
use Rattle.token.proofs.lexer.Words.{ℕ, zero, suc, ◌+◌, ◌-◌, ◌≤◌, ◌≡◌, refl, sym, ◌∙◌, ap, Bool, List, [], ◌∷◌, length, drop, sets, length-sets, arith, Char, Text, place, afterRun, isAny, Token, recordLength, recordOf, records, recordBytes, Gap, GapKind, fresh, push, cutOf, Found, scan, Answer, tokenized, refused, prepend, gapBefore, walk, Trail, gapGoes, trail, answerOf, tokensOn, stores, storedIf, eofAt, Counts, counting, countingAll, TokenKind, zero-one, sets-append, by-test, ap₂}
use Rattle.token.proofs.theorems.Shorter.{Strict}
use Rattle.token.proofs.lexer.Found.{blank-scan, gap-strict}
use Rattle.token.proofs.form.Stores.{length-record, stored-in}

-- ---- one step

trail-skip : (n k : ℕ) (f : Gap) (s : Text) → trail n k f s ≡ trail n 0 f (drop k s)
unfolding trail
trail-skip n zero f s = refl
trail-skip n (suc k) f [] = refl
trail-skip n (suc k) f (c ∷ s) = trail-skip n k f s

trail-rest : (n : ℕ) (f : Gap) (c : Char) (s r : Text) → Strict r (c ∷ s) → trail n (length s - length r) f s ≡ trail n 0 f r
trail-rest n f c s r v = trail-skip n (length s - length r) f s ∙ ap (trail n 0 f) (sym (strict-rest c s r v))

pub trail-gap : (n : ℕ) (f : Gap) (c : Char) (s r : Text) (g : GapKind) → scan n (c ∷ s) ≡ Found.gap g r → Strict r (c ∷ s)
    → trail n 0 f (c ∷ s) ≡ gapGoes g c.at (place n r) f.comment (trail n 0 (push g f) r)
unfolding trail
trail-gap n f c s r g e h = rw (e, trail) (ap (gapGoes g c.at (place n r) f.comment) (trail-rest n (push g f) c s r h))

pub trail-token : (n : ℕ) (f : Gap) (c : Char) (s r : Text) (t : TokenKind) → scan n (c ∷ s) ≡ Found.token t r → Strict r (c ∷ s)
    → trail n 0 f (c ∷ s) ≡ Trail.goes (record { kind = t; start = c.at; end = place n r; cut = cutOf f }) (trail n 0 fresh r)
unfolding trail
trail-token n f c s r t e h =
    rw (e, trail) (ap (Trail.goes (record { kind = t; start = c.at; end = place n r; cut = cutOf f })) (trail-rest n fresh c s r h))

pub trail-stuck : (n : ℕ) (f : Gap) (c : Char) (s q : Text) (j : ℕ) → scan n (c ∷ s) ≡ Found.stuck j q → trail n 0 f (c ∷ s) ≡ Trail.stops j (place n q)
unfolding trail
trail-stuck n f c s q j e = rw (e, trail)

pub trail-end : (n : ℕ) (f : Gap) → trail n 0 f [] ≡ Trail.ends (eofAt n (cutOf f))
unfolding trail
trail-end n f = refl

-- two gaps of which whatever is found makes the same
pub trail-alike : (n : ℕ) (g h : Gap) (c : Char) (s : Text) → g.comment ≡ h.comment → ((p : GapKind) (r : Text) → scan n (c ∷ s) ≡ Found.gap p r → push p g ≡ push p h)
    → ((t : TokenKind) (r : Text) → scan n (c ∷ s) ≡ Found.token t r → cutOf g ≡ cutOf h) → trail n 0 g (c ∷ s) ≡ trail n 0 h (c ∷ s)
unfolding trail
trail-alike n g h c s m gaps cuts = go (scan n (c ∷ s)) refl
  where
    go : (f : Found) → scan n (c ∷ s) ≡ f → trail n 0 g (c ∷ s) ≡ trail n 0 h (c ∷ s)
    go (Found.gap p r) e = rw (e, trail) (ap₂ (λ y z. gapGoes p c.at (place n r) y (trail n (length s - length r) z s)) m (gaps p r e))
    go (Found.token t r) e =
        rw (e, trail) (ap (λ y. Trail.goes (record { kind = t; start = c.at; end = place n r; cut = y }) (trail n (length s - length r) fresh s)) (cuts t r e))
    go (Found.stuck j q) e = rw (e, trail)

pub trail-blanks : (n : ℕ) (g : Gap) (s : Text) → trail n 0 g (afterRun (isAny " \t") s) ≡ trail n 0 g s
unfolding afterRun
trail-blanks n g [] = refl
trail-blanks n g (c ∷ s) =
    by-test (isAny " \t" (c ∷ s)) (λ e.
    let f = blank-scan n c s e in
    ap (trail n 0 g) (after-next (isAny " \t") c s e) ∙ trail-blanks n g s ∙ sym (trail-gap n g c s s GapKind.blank f (gap-strict n c s GapKind.blank s f)))
    (λ e. ap (trail n 0 g) (after-stop (isAny " \t") c s e))

-- ---- what it comes to

gap-answer : (p : GapKind) (a e : ℕ) (mark : Bool) (w : Trail) → answerOf (gapGoes p a e mark w) ≡ gapBefore p a e mark (answerOf w)
gap-answer GapKind.blank a e mark w = refl
gap-answer GapKind.lineEnd a e mark w = refl
gap-answer GapKind.lineComment a e mark w = refl
gap-answer GapKind.blockComment a e mark w = refl

pub trail-answer : (n k : ℕ) (g : Gap) (s : Text) → answerOf (trail n k g s) ≡ walk n k g s
unfolding trail walk
trail-answer n zero g [] = refl
trail-answer n (suc k) g [] = refl
trail-answer n (suc k) g (c ∷ s) = trail-answer n k g s
trail-answer n zero g (c ∷ s) = go (scan n (c ∷ s)) refl (λ k h. trail-answer n k h s)
  where
    go : (f : Found) → scan n (c ∷ s) ≡ f → ((k : ℕ) (h : Gap) → answerOf (trail n k h s) ≡ walk n k h s) → answerOf (trail n 0 g (c ∷ s)) ≡ walk n 0 g (c ∷ s)
    go (Found.gap p r) e i =
        rw (e, trail, walk) (gap-answer p c.at (place n r) g.comment _ ∙ ap (gapBefore p c.at (place n r) g.comment) (i (length s - length r) (push p g)))
    go (Found.token t r) e i = rw (e, trail, walk) (ap (prepend (record { kind = t; start = c.at; end = place n r; cut = cutOf g })) (i (length s - length r) fresh))
    go (Found.stuck j q) e i = rw (e, trail, walk)

-- where it comes to tokens, it came over these
pub tokens-on : (v : Trail) (ts : List Token) → answerOf v ≡ tokenized ts → tokensOn v ≡ ts
tokens-on (Trail.goes t w) ts e = go (answerOf w) refl e (tokens-on w)
  where
    go : (x : Answer) → answerOf w ≡ x → prepend t x ≡ tokenized ts → ((us : List Token) → answerOf w ≡ tokenized us → tokensOn w ≡ us) → t ∷ tokensOn w ≡ ts
    go (tokenized us) f q i = let b : t ∷ us ≡ ts = cc in ap (λ z. t ∷ z) (i us f) ∙ b
    go (refused j a) f q i = zero-one (cc)
tokens-on (Trail.ends t) ts e = cc
tokens-on (Trail.stops j a) ts e = zero-one (cc)

-- ---- records that are stored one after another

-- where all fit, all are stored
pub stores-fit : (ts : List Token) (out : List ℕ) (w : ℕ) → w + recordBytes ts ≤ length out → stores out w ts ≡ sets out w (records ts)
unfolding stores recordBytes records
stores-fit [] out w h = refl
stores-fit (t ∷ ts) out w h =
    let l = length-record t in
    let e = sym (stored-in out w (recordLength t.kind) (recordOf t) (length-record t) _ (omega arith) refl) in
    let k = length-sets out w (recordOf t) in
    ap (λ z. stores z (w + recordLength t.kind) ts) e
    ∙ stores-fit ts (sets out w (recordOf t)) (w + recordLength t.kind) (omega arith)
    ∙ ap (λ z. sets (sets out w (recordOf t)) (w + z) (records ts)) (sym l)
    ∙ sym (sets-append out w (recordOf t) (records ts))

pub stores-turn : (v w : Trail) (t : Token) (out next : List ℕ) (b l : ℕ) → v ≡ Trail.goes t w → next ≡ storedIf out b (recordOf t) → l ≡ recordLength t.kind
    → stores next (b + l) (tokensOn w) ≡ stores out b (tokensOn v)
unfolding stores
stores-turn v w t out next b l e q p =
    ap (λ z. stores z (b + l) (tokensOn w)) q ∙ ap (λ z. stores (storedIf out b (recordOf t)) (b + z) (tokensOn w)) p ∙ sym (ap (λ z. stores out b (tokensOn z)) e)

pub stores-end : (v : Trail) (t : Token) (out next : List ℕ) (b : ℕ) → v ≡ Trail.ends t → next ≡ storedIf out b (recordOf t) → next ≡ stores out b (tokensOn v)
unfolding stores
stores-end v t out next b e q = q ∙ sym (ap (λ z. stores out b (tokensOn z)) e)

-- ---- tokens that are counted one after another

pub counted-turn : (v w : Trail) (t : Token) (c : Counts) → v ≡ Trail.goes t w → countingAll (counting c t.kind) (tokensOn w) ≡ countingAll c (tokensOn v)
unfolding countingAll
counted-turn v w t c e = sym (ap (λ z. countingAll c (tokensOn z)) e)

pub counted-end : (v : Trail) (t : Token) (c : Counts) → v ≡ Trail.ends t → counting c t.kind ≡ countingAll c (tokensOn v)
unfolding countingAll
counted-end v t c e = sym (ap (λ z. countingAll c (tokensOn z)) e)

pub counted-stop : (v : Trail) (j a : ℕ) (c : Counts) → v ≡ Trail.stops j a → countingAll c (tokensOn v) ≡ c
unfolding countingAll
counted-stop v j a c e = ap (λ z. countingAll c (tokensOn z)) e

pub stores-stop : (v : Trail) (j a : ℕ) (out : List ℕ) (b : ℕ) → v ≡ Trail.stops j a → out ≡ stores out b (tokensOn v)
unfolding stores
stores-stop v j a out b e = sym (ap (λ z. stores out b (tokensOn z)) e)
