-- The first direction mark that is computed is the one that is declared.
use Rattle.std.proofs.Common.{ℕ, zero, suc, ◌+◌, ◌<◌, ◌-◌, ◌≤◌, ◌≡◌, refl, sym, ◌∙◌, ap, true, false, List, [], ◌∷◌, length, ⊎_elim, inl, inr, Option, Some, None, arith}
use Rattle.std.proofs.lemmas.Bool.{cases_Bool, cases_lt}
use mathlib.Core.List.Memᴰ
use mathlib.Core.List.{Memᴰ}
use Rattle.chars.specs.paper.Utf8.{width}
use Rattle.chars.specs.paper.Classes.{isMark}
use Rattle.chars.specs.paper.Text.{Char, Text, charsAt, from}
use Rattle.chars.specs.paper.Marks.{MarkAt, FirstMark, Unmarked}
use Rattle.chars.specs.computed.Marks.{firstMark}
use Rattle.chars.specs.promises.Marks.{MarkLaws}
use Rattle.chars.proofs.Bools.{clash}

-- a mark of a text stands at the place a
record In (t : Text) (a : ℕ) : Type 0 where
  pub mark : Char
  pub of-text : Memᴰ mark t
  pub is-mark : isMark mark.code ≡ true
  pub here : mark.at ≡ a

-- the characters of bytes stand from the first byte's place on
place-from : (i k : ℕ) (s : List ℕ) (c : Char) → Memᴰ c (charsAt i k s) → i ≤ c.at
unfolding charsAt
place-from i k [] c m = absurd (Memᴰ.not-nil m)
place-from i (suc k) (a ∷ s) c m = let h = place-from (suc i) k s c m in omega arith
place-from i zero (a ∷ s) c m =
    ⊎_elim (λ e. let h : c.at ≡ i = ap (λ (d : Char). d.at) e in omega arith) (λ n. let h = place-from (suc i) (width (a ∷ s) - 1) s c n in omega arith) (Memᴰ.cases_cons m)

-- and before the end
place-before : (i k : ℕ) (s : List ℕ) (c : Char) → Memᴰ c (charsAt i k s) → c.at < i + length s
unfolding charsAt
place-before i k [] c m = absurd (Memᴰ.not-nil m)
place-before i (suc k) (a ∷ s) c m = let h = place-before (suc i) k s c m in omega arith
place-before i zero (a ∷ s) c m =
    ⊎_elim (λ e. let h : c.at ≡ i = ap (λ (d : Char). d.at) e in omega arith) (λ n. let h = place-before (suc i) (width (a ∷ s) - 1) s c n in omega arith) (Memᴰ.cases_cons m)

-- ---- where one is found it stands, with none before it; where none is found none stands

record Found (t : Text) (a : ℕ) : Type 0 where
  pub stands : In t a
  pub first : (b : ℕ) → In t b → a ≤ b

-- one character in front, where the others stand behind it
module _ (c : Char) (t : Text) (behind : (d : Char) → Memᴰ d t → c.at ≤ d.at) where
  cons-found : (a : ℕ) → (firstMark t ≡ Some a → Found t a) → firstMark (c ∷ t) ≡ Some a → Found (c ∷ t) a
  unfolding firstMark
  cons-found a f e = elim (cases_Bool (isMark c.code)) [ inl m ↦ is m (rw m at e) | inr m ↦ not m (f (rw m at e)) ]
    where
      is : isMark c.code ≡ true → Some c.at ≡ Some a → Found (c ∷ t) a
      is m e =
          let q : c.at ≡ a = cc in
          record {
            stands = record { mark = c; of-text = Memᴰ.head refl; is-mark = m; here = q };
            first = λ b n. ⊎_elim (λ d. let h = n.here in let k : n.mark.at ≡ c.at = ap (λ (x : Char). x.at) d in omega arith) (λ d. let h = n.here in let k = behind n.mark d in omega arith) (Memᴰ.cases_cons n.of-text);
          }

      not : isMark c.code ≡ false → Found t a → Found (c ∷ t) a
      not m f =
          let n = f.stands in
          record {
            stands = record { mark = n.mark; of-text = Memᴰ.tail n.of-text; is-mark = n.is-mark; here = n.here };
            first = λ b n. ⊎_elim (λ d. clash (sym m ∙ ap (λ (x : Char). isMark x.code) (sym d) ∙ n.is-mark)) (λ d. f.first b (record { mark = n.mark; of-text = d; is-mark = n.is-mark; here = n.here })) (Memᴰ.cases_cons n.of-text);
          }

  cons-none : (firstMark t ≡ None → (b : ℕ) → In t b → ⊥) → firstMark (c ∷ t) ≡ None → (b : ℕ) → In (c ∷ t) b → ⊥
  unfolding firstMark
  cons-none f e b n =
      elim (cases_Bool (isMark c.code)) [
        | inl m ↦ let q = rw m at e in cc
        | inr m ↦
            ⊎_elim (λ d. clash (sym m ∙ ap (λ (x : Char). isMark x.code) (sym d) ∙ n.is-mark)) (λ d. f (rw m at e) b (record { mark = n.mark; of-text = d; is-mark = n.is-mark; here = n.here }))
            (Memᴰ.cases_cons n.of-text)
      ]

-- the first character of bytes, and those behind it
ahead : (i k : ℕ) (s : List ℕ) (c : ℕ) (d : Char) → Memᴰ d (charsAt (suc i) k s) → i ≤ d.at
ahead i k s c d m = let h = place-from (suc i) k s d m in omega arith

found : (i k : ℕ) (s : List ℕ) (a : ℕ) → firstMark (charsAt i k s) ≡ Some a → Found (charsAt i k s) a
unfolding charsAt firstMark
found i k [] a e = absurd (let z : ◌≡◌ {A = ℕ} 0 1 = cc in omega arith)
found i (suc k) (b ∷ s) a e = found (suc i) k s a e
found i zero (b ∷ s) a e = cons-found _ (charsAt (suc i) (width (b ∷ s) - 1) s) (ahead i (width (b ∷ s) - 1) s 0) a (found (suc i) (width (b ∷ s) - 1) s a) e

none : (i k : ℕ) (s : List ℕ) → firstMark (charsAt i k s) ≡ None → (b : ℕ) → In (charsAt i k s) b → ⊥
unfolding charsAt
none i k [] e b n = Memᴰ.not-nil n.of-text
none i (suc k) (c ∷ s) e b n = none (suc i) k s e b n
none i zero (c ∷ s) e b n = cons-none _ (charsAt (suc i) (width (c ∷ s) - 1) s) (ahead i (width (c ∷ s) - 1) s 0) (none (suc i) (width (c ∷ s) - 1) s) e b n

-- ---- of a script

module _ (s : List ℕ) where
  in-script : (a : ℕ) → MarkAt s a → In (from s 0) a
  in-script a m = record { mark = m.mark; of-text = m.of-script; is-mark = m.is-mark; here = m.here }

  script-in : (a : ℕ) → In (from s 0) a → MarkAt s a
  script-in a m = record { mark = m.mark; of-script = m.of-text; is-mark = m.is-mark; here = m.here }

  found-first : (a : ℕ) → firstMark (from s 0) ≡ Some a → FirstMark s a
  unfolding from
  found-first a e =
      let f = found 0 0 s a e in
      record { stands = script-in a f.stands; first = λ b l m. let h = f.first b (in-script b m) in omega arith }

  stands-within : (a : ℕ) → MarkAt s a → a < length s
  unfolding from
  stands-within a m = let h = place-before 0 0 s m.mark m.of-script in let e = m.here in omega arith

  none-marked : firstMark (from s 0) ≡ None → Unmarked s
  unfolding from
  none-marked e a m = none 0 0 s e a (in-script a m)

  first-found : (a : ℕ) → FirstMark s a → firstMark (from s 0) ≡ Some a
  first-found a f = go (firstMark (from s 0)) refl
    where
      go : (o : Option ℕ) → firstMark (from s 0) ≡ o → firstMark (from s 0) ≡ Some a
      go None e = absurd (none-marked e a f.stands)
      go (Some b) e =
          let g = found-first b e in
          ⊎_elim (λ l. absurd (g.first a l f.stands)) (λ l. ⊎_elim (λ m. absurd (f.first b m g.stands)) (λ m. let q : b ≡ a = omega arith in e ∙ ap Some q) (cases_lt b a)) (cases_lt a b)

  unmarked-none : Unmarked s → firstMark (from s 0) ≡ None
  unmarked-none u = go (firstMark (from s 0)) refl
    where
      go : (o : Option ℕ) → firstMark (from s 0) ≡ o → firstMark (from s 0) ≡ None
      go None e = e
      go (Some b) e = let g = found-first b e in absurd (u b g.stands)

pub mark_laws : MarkLaws
mark_laws = record {
  first-mark = λ s a. (found-first s a, first-found s a);
  unmarked = λ s. (none-marked s, unmarked-none s);
  mark-within = stands-within;
}
