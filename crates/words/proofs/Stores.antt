-- Stores that follow one another are one store; what each writer of src/write.rt stores is one list.
use Rattle.std.proofs.Common.{ℕ, suc, ◌≤◌, ◌+◌, ◌-◌, ◌*◌, ◌/◌, ◌%◌, ◌≡◌, refl, sym, ◌∙◌, ap, List, [], ◌∷◌, ◌++◌, append-nil, append_assoc, length, set, take, drop, length-append, length-take-le, drop-drop, add-zero, zero-add, arith}
use Rattle.std.proofs.Math.Seq.{sets, sets-eq, drop-length}
use Rattle.std.specs.Int.{w64, to_le_bytes}
use Rattle.words.specs.Words.{le4, le8, blockOf}

pub sets-append : (l : List ℕ) (i : ℕ) (a b : List ℕ) → sets l i (a ++ b) ≡ sets (sets l i a) (i + length a) b
sets-append l i [] b = rw add-zero
sets-append l i (x ∷ a) b = let e : i + suc (length a) ≡ suc i + length a = omega arith in rw e (sets-append (set l i x) (suc i) a b)

-- b stored right after a
pub after : (a b l m : List ℕ) (i j : ℕ) → m ≡ sets l i a → j ≡ i + length a → sets m j b ≡ sets l i (a ++ b)
after a b l m i j e f = rw (e, f) (sym (sets-append l i a b))

-- a store from the front keeps what is past it
pub sets-front : (l v : List ℕ) → length v ≤ length l → sets l 0 v ≡ v ++ drop (length v) l
sets-front l v h = sets-eq v l 0 (omega arith) ∙ ap (λ k. v ++ drop k l) (zero-add (length v))

-- the first part of a list in the place of as many
pub copied : (l src : List ℕ) (n : ℕ) → n ≤ length l → n ≤ length src → take n src ++ drop n l ≡ sets l 0 (take n src)
copied l src n h k =
    let e = length-take-le n src k in
    let fits : length (take n src) ≤ length l = rw e h in
    sym (sets-front l (take n src) fits ∙ ap (λ m. take n src ++ drop m l) e)

-- and one over the whole list leaves nothing of it
pub whole : (l v : List ℕ) → length l ≡ length v → sets l 0 v ≡ v
whole l v e = sets-front l v (omega arith) ∙ ap (λ k. v ++ drop k l) (sym e) ∙ ap (λ t. v ++ t) (drop-length l) ∙ append-nil v

-- ---- lengths

pub length-four : (x : ℕ) → length (le4 x) ≡ 4
unfolding le4
length-four x = refl

-- ---- numbers

-- a multiple of 4294967296 is in none of the lower four bytes
lower-four : (q r : ℕ) → le4 (r + q * 4294967296) ≡ le4 r
unfolding le4
lower-four q r = grind arith

pub low-four : (v : ℕ) → le4 (v % 4294967296) ≡ le4 v
low-four v =
    let e : v % 4294967296 + v / 4294967296 * 4294967296 ≡ v = omega arith in
    sym (ap le4 (sym e) ∙ lower-four (v / 4294967296) (v % 4294967296))

-- the first four of the library's eight bytes are these
pub four-bytes : (x : ℕ) → take 4 (to_le_bytes w64 x) ≡ le4 x
unfolding le4
four-bytes x = refl

-- bytes copied over a part are stored there
pub copied-at : (l part v : List ℕ) (w k : ℕ) → part ≡ v → length v ≡ k → w + k ≤ length l → take w l ++ (part ++ drop (w + k - w) (drop w l)) ≡ sets l w v
copied-at l part v w k p e h =
    let n : w + (w + k - w) ≡ w + length v = omega arith in
    rw p (ap (λ t. take w l ++ (v ++ t)) (drop-drop (w + k - w) w l ∙ ap (λ j. drop j l) n)
    ∙ sym (append_assoc (take w l) v (drop (w + length v) l)) ∙ sym (sets-eq v l w (omega arith)))

-- two numbers of four bytes
pub put-fours : (l m n : List ℕ) (w x y : ℕ) → m ≡ sets l w (le4 x) → n ≡ sets m (w + 4) (le4 y) → n ≡ sets l w (le4 x ++ le4 y)
put-fours l m n w x y p q = q ∙ after (le4 x) (le4 y) l m w (w + 4) p (ap (λ k. w + k) (sym (length-four x)))

pub put-eight : (l m n : List ℕ) (w x : ℕ) → m ≡ sets l w (le4 x) → n ≡ sets m (w + 4) (le4 (x / 4294967296)) → n ≡ sets l w (le8 x)
unfolding le8
put-eight l m n w x p = put-fours l m n w (x % 4294967296) (x / 4294967296) (p ∙ ap (sets l w) (sym (low-four x)))

-- ---- the answer block

block-parts : (j a count bytes : ℕ) → le4 j ++ (le4 a ++ (le4 count ++ le4 bytes)) ≡ blockOf j a count bytes
unfolding blockOf le4
block-parts j a count bytes = refl

pub length-block : (j a count bytes : ℕ) → length (blockOf j a count bytes) ≡ 16
unfolding blockOf le4
length-block j a count bytes = refl

-- four numbers of four bytes, one after another
pub put-four-numbers : (l m n o p : List ℕ) (w a b c d : ℕ) → m ≡ sets l w (le4 a) → n ≡ sets m (w + 4) (le4 b) → o ≡ sets n (w + 8) (le4 c)
    → p ≡ sets o (w + 12) (le4 d) → p ≡ sets l w (blockOf a b c d)
put-four-numbers l m n o p w a b c d p1 p2 p3 p4 =
    let n1 = length-four a in
    let n2 = length-four b in
    let n3 = length-four c in
    p4
    ∙ after (le4 c) (le4 d) n o (w + 8) (w + 12) p3 (omega arith)
    ∙ after (le4 b) (le4 c ++ le4 d) m n (w + 4) (w + 8) p2 (omega arith)
    ∙ after (le4 a) (le4 b ++ (le4 c ++ le4 d)) l m w (w + 4) p1 (omega arith)
    ∙ ap (sets l w) (block-parts a b c d)

-- over the whole block
pub put-sixteen : (l m : List ℕ) (j a count bytes : ℕ) → length l ≡ 16 → m ≡ sets l 0 (blockOf j a count bytes) → m ≡ blockOf j a count bytes
put-sixteen l m j a count bytes h p = p ∙ whole l (blockOf j a count bytes) (h ∙ sym (length-block j a count bytes))

-- two blocks cover 32 bytes
pub put-blocks : (l : List ℕ) (a b c d e f g h : ℕ) → length l ≡ 32
    → sets (sets l 0 (blockOf a b c d)) 16 (blockOf e f g h) ≡ blockOf a b c d ++ blockOf e f g h
put-blocks l a b c d e f g h k =
    let n = length-block a b c d in
    let m = length-block e f g h in
    let size : length (blockOf a b c d ++ blockOf e f g h) ≡ 32 = simp (length-append, n, m) in
    after (blockOf a b c d) (blockOf e f g h) l _ 0 16 refl (omega arith) ∙ whole l (blockOf a b c d ++ blockOf e f g h) (k ∙ sym size)
