-- A keyword is recognised from its length and from its bytes, which are compared as numbers.
use Rattle.token.proofs.cursor.Words.{ℕ, suc, ◌+◌, ◌-◌, ◌*◌, ◌≤◌, ◌<◌, ◌≡◌, refl, sym, ◌∙◌, ap, Bool, true, false, cond, ◌&&◌, List, [], ◌∷◌, none, some, length, drop, get_or, eqb, leb, ltb, arith, codes, member, Char, Text, from, place, charEnd, codeAt, and-both, Suffix, text-laws, same, twoAt, fourAt, Bytes, Word, word, keyword, kwNumber, wordOf, runOf, wordKeywords, symbolKeywords, codesTo, Some, None, cases_lt, inl, inr}
use mathlib.Core.Option.{Option}
use Rattle.token.specs.code.Keyword.{standsAt, keywordAt, keywordOf, numberOr, keywordAmong, keywordBy}
use Rattle.token.specs.declared.kinds.Kw.{Kw}
use Rattle.token.specs.declared.kinds.Kw.TheVariants as kw
use Rattle.token.proofs.cursor.Bytes.{plain}
use Rattle.token.proofs.theorems.Runs as runs
use Rattle.std.specs.Prelude as code
open text-laws use {suffix-refl, suffix-same, at-char, place-from, ascii-code, ascii-next, wide-code}

-- ---- codes between two places

codes-none : (s : Text) → codesTo s s ≡ []
unfolding codesTo
codes-none s = runs.codes-none s

codes-more : (c : Char) (s r : Text) → length r ≤ length s → codesTo (c ∷ s) r ≡ c.code ∷ codesTo s r
unfolding codesTo
codes-more c s r h = runs.codes-more c s r h

-- what is left from a later place on is left past the first character too
suffix-next : (s : List ℕ) (a b : ℕ) → a < b → b ≤ length s → Suffix (from s b) (from s a) → Suffix (from s b) (from s (charEnd s a))
suffix-next s a b h k w =
    let t = from s (charEnd s a) in
    let v : Suffix (from s b) (record { code = codeAt s a; at = a } ∷ t) = rw (at-char s a (omega arith)) at w in
    elim (cases_lt (length t) (length (from s b))) [
      | inl l ↦
          let q = suffix-same v (suffix-refl _) (let m = v.within in omega arith) in
          let z : b ≡ a = sym (place-from s b k) ∙ ap (place (length s)) q in
          absurd (omega arith)
      | inr l ↦
          let e : suc (length t) - length (from s b) ≡ suc (length t - length (from s b)) = omega arith in
          record { within = l; rest-is = v.rest-is ∙ ap (λ n. drop n (record { code = codeAt s a; at = a } ∷ t)) e }
    ]

codes-next : (s : List ℕ) (a b : ℕ) → a < b → b ≤ length s → Suffix (from s b) (from s a)
    → codesTo (from s a) (from s b) ≡ codeAt s a ∷ codesTo (from s (charEnd s a)) (from s b)
codes-next s a b h k w = let n = suffix-next s a b h k w in let m = n.within in rw (at-char s a (omega arith)) (codes-more _ (from s (charEnd s a)) (from s b) m)

-- ---- a text of ASCII characters

-- one character more
same-more : (x : ℕ) (w : List ℕ) → leb 1 x && ltb x 0x80 ≡ true → (s : List ℕ) (a b : ℕ) → a < b → b ≤ length s → Suffix (from s b) (from s a)
    → ((i : ℕ) → i ≤ b → Suffix (from s b) (from s i) → same w (codesTo (from s i) (from s b)) ≡ eqb (b - i) (length w) && standsAt w s i)
    → same (x ∷ w) (codesTo (from s a) (from s b)) ≡ eqb (b - a) (suc (length w)) && (eqb (get_or s a 0) x && standsAt w s (a + 1))
same-more x w p s a b l k v below =
    let u = suffix-next s a b l k v in
    let c = codes-next s a b l k v in
    let i : a < length s = omega arith in
    elim (cases_lt (get_or s a 0) 0x80) [
      | inl m ↦
          let n = ascii-next s a i m in
          rw (c, ascii-code s a i m, n, below (a + 1) (omega arith) (rw n at u)) (grind arith)
      | inr m ↦ rw (c) (let d = wide-code s a m in grind arith)
    ]

-- a text of ASCII characters stands from a to b where its bytes stand at a, and its length is right
pub same-stands : (w : List ℕ) → plain w ≡ true → (s : List ℕ) (a b : ℕ) → a ≤ b → b ≤ length s → Suffix (from s b) (from s a)
    → same w (codesTo (from s a) (from s b)) ≡ eqb (b - a) (length w) && standsAt w s a
unfolding standsAt
same-stands [] p s a b h k v =
    let c = codes-next s a b in
    let n = codes-none (from s a) in
    grind arith
same-stands (x ∷ w) p s a b h k v =
    let q = and-both (leb 1 x && ltb x 0x80) (plain w) p in
    let n = codes-none (from s a) in
    let c = λ (l : a < b). same-more x w q.0 s a b l k v (λ i m u. same-stands w q.1 s i b m k u) in
    grind arith

-- ---- keywords

abbrev allWords : (List ℕ → Bool) → List Word → Bool
allWords g [] = true
allWords g (word w k ∷ ws) = g (codes w) && allWords g ws

pub keyword-at : (ws : List Word) → allWords plain ws ≡ true → (s : List ℕ) (a b : ℕ) → a ≤ b → b ≤ length s → Suffix (from s b) (from s a)
    → keyword ws (codesTo (from s a) (from s b)) ≡ keywordAt ws (b - a) s a
unfolding keywordAt
keyword-at [] p s a b h k v = refl
keyword-at (word w j ∷ ws) p s a b h k v =
    let q = and-both (plain (codes w)) (allWords plain ws) p in
    rw (same-stands (codes w) q.0 s a b h k v, keyword-at ws q.1 s a b h k v)

module _ (s : List ℕ) (a b : ℕ) (h : a ≤ b) (k : b ≤ length s) (l : Suffix (from s b) (from s a)) where
  pub word-at : wordOf (codesTo (from s a) (from s b)) ≡ keywordAt wordKeywords (b - a) s a
  unfolding wordOf
  word-at = keyword-at wordKeywords refl s a b h k l

  pub run-at : runOf (codesTo (from s a) (from s b)) ≡ keywordAt symbolKeywords (b - a) s a
  unfolding runOf
  run-at = keyword-at symbolKeywords refl s a b h k l

-- ---- bytes, compared as one number

-- two numbers are equal if their lower two bytes are, and what is left of both
halves : (a b x y : ℕ) → a < 65536 → x < 65536 → eqb (a + b * 65536) (x + y * 65536) ≡ eqb a x && eqb b y
halves a b x y h k = grind arith

-- a text of two ASCII characters, and one of four, by the number that the code reads
module _ (s : List ℕ) (b : Bytes s) where
  two-small : (i : ℕ) → twoAt s i < 65536
  unfolding twoAt
  two-small i = let c = b i in let d = b (i + 1) in omega arith

  two-stands : (x y : ℕ) → plain (x ∷ y ∷ []) ≡ true → (i : ℕ) → standsAt (x ∷ y ∷ []) s i ≡ eqb (twoAt s i) (x + y * 256)
  unfolding standsAt twoAt
  two-stands x y p i = let c = b i in let d = b (i + 1) in grind arith

  four-stands : (x y z t : ℕ) → plain (x ∷ y ∷ z ∷ t ∷ []) ≡ true → (i : ℕ) → standsAt (x ∷ y ∷ z ∷ t ∷ []) s i ≡ eqb (fourAt s i) (x + y * 256 + (z + t * 256) * 65536)
  unfolding standsAt fourAt
  four-stands x y z t p i =
      rw (halves (twoAt s i) (twoAt s (i + 2)) (x + y * 256) (z + t * 256) (two-small i) (grind arith), ← two-stands x y (grind arith) i, ← two-stands z t (grind arith) (i + 2))
      (grind arith)

-- ---- which keywords a length leaves, and a byte

none-at : (g : List ℕ → Bool) (ws : List Word) (n : ℕ) (s : List ℕ) (i : ℕ) → allWords g ws ≡ true
    → ((w : List ℕ) → g w ≡ true → eqb n (length w) && standsAt w s i ≡ false) → keywordAt ws n s i ≡ none
unfolding keywordAt
none-at g [] n s i h f = refl
none-at g (word w k ∷ ws) n s i h f = let q = f (codes w) in grind (arith, none-at g ws n s i)

-- no keyword has such a length
pub length-none : (ks : List ℕ) (ws : List Word) (n : ℕ) (s : List ℕ) (i : ℕ) → allWords (λ w. member ks (length w)) ws ≡ true → member ks n ≡ false
    → keywordAt ws n s i ≡ none
length-none ks ws n s i h e = none-at (λ w. member ks (length w)) ws n s i h (λ w m. grind arith)

-- none begins with such a byte
abbrev startsIn : List ℕ → List ℕ → Bool
startsIn ks [] = false
startsIn ks (x ∷ w) = member ks x

pub first-none : (ks : List ℕ) (ws : List Word) (n : ℕ) (s : List ℕ) (i : ℕ) → allWords (startsIn ks) ws ≡ true → member ks (get_or s i 0) ≡ false
    → keywordAt ws n s i ≡ none
unfolding standsAt
first-none ks ws n s i h e = none-at (startsIn ks) ws n s i h go
  where
    go : (w : List ℕ) → startsIn ks w ≡ true → eqb n (length w) && standsAt w s i ≡ false
    go w m = grind arith

-- ---- the code's answers, by the numbers that it reads

module _ (s : List ℕ) (b : Bytes s) (i : ℕ) where
  pub two_word : numberOr 1 (keywordAt wordKeywords 2 s i) ≡ cond (eqb (twoAt s i) 0x6669) 36 1
  unfolding keywordAt numberOr
  two_word = grind (arith, two-stands s b 0x69 0x66 refl i)

  pub four_word : numberOr 1 (keywordAt wordKeywords 4 s i)
      ≡ cond (eqb (fourAt s i) 0x65736163) 32
      (cond (eqb (fourAt s i) 0x65736C65) 33 (cond (eqb (fourAt s i) 0x6E656874) 39 (cond (eqb (fourAt s i) 0x65757274) 40 1)))
  unfolding keywordAt numberOr
  four_word =
      rw (
        four-stands s b 0x63 0x61 0x73 0x65 refl i,
        four-stands s b 0x65 0x6C 0x73 0x65 refl i,
        four-stands s b 0x74 0x68 0x65 0x6E refl i,
        four-stands s b 0x74 0x72 0x75 0x65 refl i,
      ) (grind arith)

  -- the first byte, and the other four
  pub five_word : numberOr 1 (keywordAt wordKeywords 5 s i)
      ≡ cond (eqb (get_or s i 0) 0x66 && eqb (fourAt s (i + 1)) 0x65736C61) 34 (cond (eqb (get_or s i 0) 0x6D && eqb (fourAt s (i + 1)) 0x68637461) 37 1)
  unfolding keywordAt standsAt numberOr
  five_word = rw (four-stands s b 0x61 0x6C 0x73 0x65 refl (i + 1), four-stands s b 0x61 0x74 0x63 0x68 refl (i + 1)) (grind arith)

  -- the first four, and the others
  pub six_word : numberOr 1 (keywordAt wordKeywords 6 s i) ≡ cond (eqb (fourAt s i) 0x75746572 && eqb (twoAt s (i + 4)) 0x6E72) 38 1
  unfolding keywordAt standsAt numberOr
  six_word = let p = four-stands s b 0x72 0x65 0x74 0x75 refl i in let q = two-stands s b 0x72 0x6E refl (i + 4) in grind arith

  pub eight_word : numberOr 1 (keywordAt wordKeywords 8 s i) ≡ cond (eqb (fourAt s i) 0x636E7566 && eqb (fourAt s (i + 4)) 0x6E6F6974) 35 1
  unfolding keywordAt standsAt numberOr
  eight_word = let p = four-stands s b 0x66 0x75 0x6E 0x63 refl i in let q = four-stands s b 0x74 0x69 0x6F 0x6E refl (i + 4) in grind arith

  pub two_run : numberOr 2 (keywordAt symbolKeywords 2 s i) ≡ cond (eqb (twoAt s i) 0x3E3D) 42 2
  unfolding keywordAt numberOr
  two_run = grind (arith, two-stands s b 0x3D 0x3E refl i)

-- a run of one sign
pub one_run : (s : List ℕ) (i : ℕ) → keywordAt symbolKeywords 1 s i ≡ runOf (get_or s i 0 ∷ [])
unfolding keywordAt standsAt runOf
one_run s i = grind arith

-- no keyword has another length
pub length_else : (n : ℕ) (s : List ℕ) (i : ℕ) → (n ≡ 2 → ⊥) → (n ≡ 4 → ⊥) → (n ≡ 5 → ⊥) → (n ≡ 6 → ⊥) → (n ≡ 8 → ⊥)
    → numberOr 1 (keywordAt wordKeywords n s i) ≡ 1
unfolding numberOr
length_else n s i a b c d e = ap (numberOr 1) (length-none (2 ∷ 4 ∷ 5 ∷ 6 ∷ 8 ∷ []) wordKeywords n s i refl (grind arith))

pub run_else : (n : ℕ) (s : List ℕ) (i : ℕ) → (n ≡ 1 → ⊥) → (n ≡ 2 → ⊥) → numberOr 2 (keywordAt symbolKeywords n s i) ≡ 2
unfolding numberOr
run_else n s i a b = ap (numberOr 2) (length-none (1 ∷ 2 ∷ []) symbolKeywords n s i refl (grind arith))

pub ruleset keywords = (word-at, two_word, four_word, five_word, six_word, eight_word, length_else, run-at, one_run, two_run, run_else)

-- ---- keywords by their numbers

-- a keyword by the number of its kind is the keyword
pub by-number : (k : Kw) → keywordBy (kwNumber k) ≡ Some k
unfolding keywordBy keywordAmong
by-number kw.Case = refl
by-number _ = refl

-- the numbers of an identifier and of an operator are no keyword's
pub by-ident : keywordBy 1 ≡ None
unfolding keywordBy keywordAmong
by-ident = refl

pub by-op : keywordBy 2 ≡ None
unfolding keywordBy keywordAmong
by-op = refl

-- what `keyword_of` gives, where its number is that of a keyword or else n
pub told-by : (n : ℕ) → keywordBy n ≡ None → (o : Option Kw) (v : ℕ) (u : code.Option Kw) → v ≡ numberOr n o → u ≡ keywordBy v → u ≡ keywordOf o
unfolding numberOr keywordOf
told-by n e o v u p q = grind (arith, by-number)

pub key-is : (o : Option Kw) (k : Kw) → Some k ≡ keywordOf o → o ≡ some k
unfolding keywordOf
key-is o k e = grind arith

pub key-not : (o : Option Kw) → None ≡ keywordOf o → o ≡ none
unfolding keywordOf
key-not o e = grind arith
