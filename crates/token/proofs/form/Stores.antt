-- A head's stores are one store; what fits is stored, and nothing else.
use Rattle.token.proofs.cursor.Words.{ℕ, ◌≤◌, ◌<◌, ◌+◌, ◌/◌, ◌%◌, ◌≡◌, refl, ◌∙◌, Bool, List, [], ◌∷◌, ◌++◌, append_assoc, length, set, sets, length-sets, arith, Token, bit, headLength, recordLength, fieldsOf, headOf, recordOf, le2, le4, storedIf, headNumber, headBytes, four-halves, after, length-four}

-- ---- lengths

pub length-fields : (x k a e : ℕ) (b : Bool) → length (fieldsOf x k a e b) ≡ headLength
unfolding fieldsOf le2 le4
length-fields x k a e b = refl

pub length-bytes : (h a e : ℕ) (b : Bool) → length (headBytes h a e b) ≡ headLength
unfolding headBytes le4
length-bytes h a e b = refl

pub length-record : (t : Token) → length (recordOf t) ≡ recordLength t.kind
unfolding recordOf headOf fieldsOf le2 le4 recordLength
length-record t = omega arith

-- ---- heads

pub put_head : (l : List ℕ) (w h a e : ℕ) (b : Bool)
    → set (sets (sets (sets l w (le4 h)) (w + 4) (le4 a)) (w + 8) (le4 e)) (w + 12) (bit b) ≡ sets l w (headBytes h a e b)
unfolding headBytes
put_head l w h a e b =
    let cut = bit b ∷ [] in
    let n1 = length-four h in
    let n2 = length-four a in
    let n3 = length-four e in
    after (le4 e) cut _ _ (w + 8) (w + 12) refl (omega arith)
    ∙ after (le4 a) (le4 e ++ cut) _ _ (w + 4) (w + 8) refl (omega arith)
    ∙ after (le4 h) (le4 a ++ (le4 e ++ cut)) l _ w (w + 4) refl (omega arith)

-- length and kind as one number are stored as both are
pub head-fields : (h l k start end : ℕ) (cut : Bool) → l < 65536 → h ≡ headNumber l k → headBytes h start end cut ≡ fieldsOf l k start end cut
unfolding headBytes fieldsOf
head-fields h l k start end cut b e =
    let p : h % 65536 ≡ l = omega arith in
    let q : h / 65536 ≡ k = omega arith in
    rw (four-halves h, p, q, append_assoc)

-- ---- what fits is stored, and nothing else

module _ (out : List ℕ) (w l : ℕ) (bytes : List ℕ) (e : length bytes ≡ l) where
  pub stored-in : (m : List ℕ) → w + l ≤ length out → m ≡ sets out w bytes → m ≡ storedIf out w bytes
  unfolding storedIf
  stored-in m h q = grind arith

  pub stored-out : length out < w + l → out ≡ storedIf out w bytes
  unfolding storedIf
  stored-out h = grind arith

pub stored-length : (out : List ℕ) (w : ℕ) (bytes : List ℕ) → length (storedIf out w bytes) ≡ length out
unfolding storedIf
stored-length out w bytes = grind (arith, length-sets {A = ℕ})
