-- What is stored is read back, and what is read is stored again: `RecordForm`, for whoever reads stored records.
use Rattle.token.proofs.cursor.Words.{ℕ, ◌+◌, ◌-◌, ◌%◌, ◌^◌, ◌≤◌, ◌<◌, ◌≡◌, refl, sym, ◌∙◌, ap, Bool, List, [], ◌∷◌, ◌++◌, eqb, length, take, drop, length-drop, get_or-drop, take-add, drop-drop, drop-cons, add-zero, mod-eq_of_lt, arith, Bytes, le2, le4, le8, oneAt, twoAt, fourAt, eightAt, low-four, drop-bytes, two-from, four-from, eight-from, two-drop, four-drop, two-le2, four-le4, eight-le8, le4-four, le8-eight, Width, twos, fours, bit, headLength, fieldsOf, Known, byForm, valuesAt, heldAt, storedOf, Storable, Whole, RecordForm, Form}
use Rattle.token.proofs.form.Laws.{known-least, known-most, take-one, take-four, take-eight}

values-from : (l : List ℕ) (i j size : ℕ) → valuesAt (drop i l) j size ≡ valuesAt l (i + j) size
unfolding valuesAt
values-from l i j size = simp (four-from, eight-from, get_or-drop)

-- the record at a place is the first of what stands from there on.
pub held-on : (bytes : List ℕ) (at : ℕ) → heldAt bytes at ≡ heldAt (drop at bytes) 0
unfolding heldAt
held-on bytes at = simp (values-from, two-from, four-from, get_or-drop, add-zero)

-- ---- what is stored is read back

values-back : {n : ℕ} (v : ℕ) (rest : List ℕ) → Known n → v < 256 ^ (n - headLength) → valuesAt (take (n - headLength) (le8 v) ++ rest) 0 n ≡ v
unfolding valuesAt le8 le4
values-back v rest Known.bare h = omega arith
values-back v rest Known.line h = ap (λ l. oneAt (l ++ rest) 0) (take-one v) ∙ mod-eq_of_lt h
values-back v rest Known.int h = ap (λ l. fourAt (l ++ rest) 0) (take-four v) ∙ four-le4 (v % 4294967296) rest (omega arith) ∙ omega arith
values-back v rest _ h = ap (λ l. eightAt (l ++ rest) 0) (take-eight v) ∙ eight-le8 v rest h

-- a record that is stored, whatever follows it, is read as it was.
pub read-back : (f : Form) (start end : ℕ) (cut : Bool) (rest : List ℕ) → Storable f start end
    → heldAt (byForm f start end cut ++ rest) 0
    ≡ record { number = f.number; length = f.length; values = f.values; start = start; end = end; cut = bit cut }
unfolding heldAt byForm fieldsOf le2 le4
read-back f start end cut rest h =
    let l = byForm f start end cut ++ rest in
    let size : twoAt l 0 ≡ f.length = two-le2 f.length _ (omega (arith, known-most h.known)) in
    let number : twoAt l 2 ≡ f.number = two-drop l 2 ∙ two-le2 f.number _ h.number in
    let first : fourAt l 4 ≡ start = four-drop l 4 ∙ four-le4 start _ h.start in
    let last : fourAt l 8 ≡ end = four-drop l 8 ∙ four-le4 end _ h.end in
    let values : valuesAt l headLength f.length ≡ f.values = sym (values-from l headLength 0 f.length) ∙ values-back f.values rest h.known h.values in
    simp (size, number, first, last, values)

-- ---- what is read is stored again

values-again : {n : ℕ} (l : List ℕ) → Known n → Bytes l → n ≤ headLength + length l → take (n - headLength) (le8 (valuesAt l 0 n)) ≡ take (n - headLength) l
unfolding valuesAt
values-again l Known.bare h k = refl
values-again [] Known.line h k = absurd (omega arith)
values-again (x ∷ l) Known.line h k = take-one x ∙ rw (mod-eq_of_lt (h 0))
values-again l Known.int h k = take-four (fourAt l 0) ∙ low-four (fourAt l 0) ∙ le4-four l h (omega arith)
values-again l _ h k = take-eight (eightAt l 0) ∙ le8-eight l h (omega arith)

bit-again : (c : ℕ) → c ≤ 1 → bit (eqb c 1) ≡ c
bit-again c h = grind arith

-- a part, and the part right behind it
joined : (l a b : List ℕ) (i n m : ℕ) → a ≡ take n (drop i l) → b ≡ take m (drop (i + n) l) → a ++ b ≡ take (n + m) (drop i l)
joined l a b i n m p q = rw (p, q) (sym (take-add n m (drop i l) ∙ ap (λ t. take n (drop i l) ++ take m t) (drop-drop n i l)))

module _ (l : List ℕ) (h : Bytes l) where
  number-again : (write : ℕ → List ℕ) (read : List ℕ → ℕ → ℕ) (n m : ℕ) → Width write read n m → (i : ℕ) → i + n ≤ length l
      → write (read l i) ≡ take n (drop i l)
  number-again write read n m w i k =
      ap write (sym (w.from l i 0 ∙ ap (read l) (add-zero i))) ∙ w.forth (drop i l) (drop-bytes l i h) (rw length-drop (omega arith))

  fields-again : (cut : Bool) → headLength ≤ length l → bit cut ≡ oneAt l 12
      → fieldsOf (twoAt l 0) (twoAt l 2) (fourAt l 4) (fourAt l 8) cut ≡ take headLength l
  unfolding fieldsOf
  fields-again cut k e =
      let c : bit cut ∷ [] ≡ take 1 (drop 12 l) = rw (e, drop-cons l 12 0 k) in
      joined l _ _ 0 2 11 (number-again _ _ _ _ twos 0 (omega arith))
      (joined l _ _ 2 2 9 (number-again _ _ _ _ twos 2 (omega arith))
      (joined l _ _ 4 4 5 (number-again _ _ _ _ fours 4 (omega arith))
      (joined l _ _ 8 4 1 (number-again _ _ _ _ fours 8 (omega arith)) c)))

-- of a whole record's bytes nothing is lost, since what is read from them is stored as the same bytes.
pub stored-again : (l : List ℕ) → Whole l → storedOf (heldAt l 0) ≡ take (heldAt l 0).length l
unfolding heldAt byForm
stored-again l w =
    let n = twoAt l 0 in
    let k = known-least w.known in
    let room = w.room in
    let fields = fields-again l w.bytes (eqb (oneAt l 12) 1) (omega arith) (bit-again (oneAt l 12) w.cut) in
    let past : n ≤ headLength + length (drop headLength l) = rw length-drop (omega arith) in
    let values = values-again (drop headLength l) w.known (drop-bytes l headLength w.bytes) past in
    let all : headLength + (n - headLength) ≡ n = omega arith in
    joined l _ _ 0 headLength (n - headLength) fields (ap (λ v. take (n - headLength) (le8 v)) (sym (values-from l headLength 0 n)) ∙ values)
    ∙ ap (λ m. take m l) all

pub record-form : RecordForm
record-form = record { held-on = held-on; read-back = read-back; stored-again = stored-again }

pub ruleset reads = (record-form)
