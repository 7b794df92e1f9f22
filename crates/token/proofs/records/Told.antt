-- What measuring promises of its answer: what records are needed, why there are none, and what the buffer holds.
use Rattle.token.proofs.cursor.Words.{ℕ, ◌+◌, ◌≤◌, ◌≡◌, refl, sym, ◌∙◌, ap, List, [], ◌∷◌, length, take, take_at, arith, Result, Ok, Err, IfOk, IfErr, Token, recordLength, recordOf, records, recordBytes, Answer, refused, answer, storedIf, stores, measuredOf, Needs, Held, Fits, tokensIn, tokensOn, trailFrom, begun, storedFrom, refusalNumber, Refused, Need, sets-front}
use Rattle.token.proofs.form.Stores.{stored-length}
use Rattle.token.proofs.records.Measures.{begun-fits}
use Rattle.token.proofs.theorems.Alone.{records-length}
use Rattle.token.proofs.theorems.Told.{refused-number}

stores-length : (out : List ℕ) (w : ℕ) (ts : List Token) → length (stores out w ts) ≡ length out
unfolding stores
stores-length out w [] = refl
stores-length out w (t ∷ ts) = stores-length (storedIf out w (recordOf t)) (w + recordLength t.kind) ts ∙ stored-length out w (recordOf t)

-- what is needed
needs-of : (w : Answer) (n : Need) → Ok n ≡ measuredOf w → Needs w n
unfolding measuredOf
needs-of w n e = grind arith

-- what is needed fits into a buffer that has room
pub needs-fit : (w : Answer) (n : Need) (room : ℕ) → Needs w n → n.bytes ≤ room → Fits w room
needs-fit w n room h l =
    let b : n.bytes ≡ recordBytes (tokensIn w) = ap (λ (k : Need). k.bytes) h.need in
    record { is-tokenized = h.is-tokenized; fits = omega (arith, b, l) }

-- where the records fit, they stand at the buffer's start
held-of : (s out : List ℕ) (n : Need) → Needs (answer s) n → Held (answer s) n (storedFrom s begun out)
held-of s out n h l =
    let ts = tokensIn (answer s) in
    let k = stores-length out 0 (tokensOn (trailFrom s begun)) in
    let y = records-length ts in
    let b : n.bytes ≡ recordBytes ts = ap (λ (k : Need). k.bytes) h.need in
    let f = needs-fit (answer s) n (length out) h (omega (arith, k, l)) in
    let m = f.fits in
    ap (take n.bytes) (begun-fits s out f ∙ sets-front out (records ts) (omega (arith, y, m))) ∙ take_at (records ts) _ n.bytes (y ∙ sym b)

-- why there are none
refusal-of : (s : List ℕ) (w : Answer) (e : Refused) → answer s ≡ w → Err e ≡ measuredOf w → answer s ≡ refused (refusalNumber e.what) e.place
unfolding measuredOf
refusal-of s w e f q = let n = refused-number s in grind arith

module _ (s : List ℕ) (r : Result Need Refused) (e : r ≡ measuredOf (answer s)) where
  pub told-needs : IfOk r (λ n. Needs (answer s) n)
  told-needs = let n = needs-of (answer s) in grind arith

  pub told-refusal : IfErr r (λ f. answer s ≡ refused (refusalNumber f.what) f.place)
  told-refusal = let n = λ (e : Refused). refusal-of s (answer s) e refl in grind arith

  pub told-held : (out next : List ℕ) → next ≡ storedFrom s begun out → IfOk r (λ n. Held (answer s) n next)
  told-held out next k = let n = λ (m : Need) (q : Ok m ≡ measuredOf (answer s)). held-of s out m (needs-of (answer s) m q) in rw k (grind arith)

pub ruleset told = (told-needs, told-refusal, needs-fit)
