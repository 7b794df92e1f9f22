-- Counting from the first byte of a well-formed script gives every good place one line and one column.
use Prim.Native.Nat.{ℕ, zero, suc, ◌+◌, ◌≤◌, ◌<◌}
use mathlib.Core.Path.{◌≡◌, refl, sym, ◌∙◌, ap}
use mathlib.Core.Bool.{Bool, true, false, ◌&&◌}
use mathlib.Core.Logic.{◌↔◌, ⊎_elim}
use mathlib.Core.List.{List, ◌∷◌}
use lib.ListN.{length, drop, get_or}
use lib.Dec.{eqb, ltb}
use native.Mathlib.Omega.{arith}
use borrow.Author.Tests.{eqb-true, eqb-false, ltb-true, ltb-false, lt-ltb}
use Rattle.chars.specs.paper.Quoted.{between}
use Rattle.chars.specs.paper.Utf8.{WellFormed}
use Rattle.chars.specs.paper.Text.{Char, Text, from, place}
use Rattle.chars.specs.code.Text.{codeAt, charEnd}
use Rattle.chars.proofs.Bools.{clash}
use Rattle.chars.proofs.theorems.Promises.{code_laws, text-laws, valid-laws}
use Rattle.token.specs.paper.Tests.{isAny}
use Rattle.token.specs.paper.Shapes.{LineEnd}
use Rattle.lines.specs.paper.Lines.{Counts, Position, GoodPlace}
use Rattle.lines.specs.computed.Lines.{countIn, columnFrom, lfsBefore, lineAt, columnAt}
use Rattle.lines.proofs.theorems.Bytes.{past-lf, past-other, past-tails}
use Rattle.lines.proofs.theorems.LineEnds.{in-script, begins-lf, lf-ends, ends-at}
open code_laws use {between-in, between-out}
open text-laws use {at-char, next-on, at-end, place-from, ascii-next, wide-tail}
open valid-laws use {next-valid}

module _ (s : List ℕ) where
  -- a well-formed character other than LF is one column
  pub past-char : (i : ℕ) → i < length s → WellFormed (drop i s) → (get_or s i 0 ≡ 0x0A → ⊥)
      → (lineAt s (charEnd s i) ≡ lineAt s i) × (columnAt s (charEnd s i) ≡ columnAt s i + 1)
  past-char i h w n =
      let o = next-on s i h in
      let a = past-other s i h n (next-valid s i h w).0 in
      let b = past-tails s (i + 1) (charEnd s i) (omega arith) o.1 (λ k l m. wide-tail s i h k (omega arith) m) in
      (b.0 ∙ a.0, b.1 ∙ a.1)

  -- behind an ASCII character the script is well-formed
  ascii-valid : (i : ℕ) → i < length s → get_or s i 0 < 0x80 → WellFormed (drop i s) → WellFormed (drop (i + 1) s)
  ascii-valid i h l w = rw (ascii-next s i h l) at (next-valid s i h w).1

  -- ---- what is counted is the line and the column of the place

  -- the text from the place i on, and the line and the column of i
  record At (i : ℕ) (t : Text) (l c : ℕ) : Type 0 where
    inside : i ≤ length s
    text : t ≡ from s i
    valid : WellFormed (drop i s)
    line : l ≡ lineAt s i
    column : c ≡ columnAt s i

  abbrev Somewhere : Text → ℕ → ℕ → Type 0
  Somewhere t l c = (i : ℕ) × At i t l c

  at-first : WellFormed s → At 0 (from s 0) 1 1
  unfolding lineAt lfsBefore columnAt columnFrom countIn
  at-first w = record { inside = omega arith; text = refl; valid = w; line = refl; column = refl }

  -- a place where a character begins is no end
  begun : (i : ℕ) {x : Char} {r : Text} → x ∷ r ≡ from s i → i < length s
  begun i {x} {r} e = go (ltb i (length s)) refl
    where
      go : (t : Bool) → ltb i (length s) ≡ t → i < length s
      go true h = ltb-true i (length s) h
      go false h = let z = at-end s i (ltb-false i (length s) h) in let f : ◌≡◌ {A = ℕ} 0 1 = cc in absurd (omega arith)

  -- behind an LF, another character, a line end
  behind-lf : (i : ℕ) {r : Text} {l : ℕ} → WellFormed (drop i s) → l ≡ lineAt s i → get_or s i 0 ≡ 0x0A → r ≡ from s (i + 1) → At (i + 1) r (l + 1) 1
  behind-lf i w e b q =
      let h = in-script s i (omega arith) in
      let p = past-lf s i h b in
      record { inside = omega arith; text = q; valid = ascii-valid i h (omega arith) w; line = ap (λ n. n + 1) e ∙ sym p.0; column = sym p.1 }

  behind-char : (i : ℕ) {x : Char} {r : Text} {l c : ℕ} → At i (x ∷ r) l c → isAny "\n" (x ∷ r) ≡ false → At (charEnd s i) r l (c + 1)
  behind-char i {x} {r} a e =
      let h = begun i a.text in
      let n = eqb-false (get_or s i 0) 0x0A (sym (begins-lf s i) ∙ ap (isAny "\n") (sym a.text) ∙ e) in
      let p = past-char i h a.valid n in
      let q : x ∷ r ≡ record { code = codeAt s i; at = i } ∷ from s (charEnd s i) = a.text ∙ at-char s i h in
      record {
        inside = (next-on s i h).1;
        text = cc q;
        valid = (next-valid s i h a.valid).1;
        line = a.line ∙ sym p.0;
        column = ap (λ n. n + 1) a.column ∙ sym p.1;
      }

  behind-end : (i : ℕ) {t r : Text} {l c : ℕ} → At i t l c → LineEnd t r → Somewhere r (l + 1) 1
  behind-end i {r} {l} a e = ⊎_elim (λ x. (i + 1, behind-lf i a.valid a.line x.0 x.1)) two (ends-at s i e a.text)
    where
      two : (get_or s i 0 ≡ 0x0D) × (get_or s (i + 1) 0 ≡ 0x0A) × (r ≡ from s (i + 1 + 1)) → Somewhere r (l + 1) 1
      two x =
          let b = x.0 in
          let h = in-script s i (omega arith) in
          let p = (past-char i h a.valid (λ z. omega arith)).0 in
          let q : lineAt s (i + 1) ≡ lineAt s i = rw (ascii-next s i h (omega arith)) at p in
          (i + 1 + 1, behind-lf (i + 1) (ascii-valid i h (omega arith) a.valid) (a.line ∙ sym q) x.1 x.2)

  counts-at : WellFormed s → {t : Text} {l c : ℕ} → Counts s t l c → Somewhere t l c
  counts-at w Counts.first = (0, at-first w)
  counts-at w (Counts.line k e) = let a = counts-at w k in behind-end a.0 a.1 e
  counts-at w (Counts.column k e) = let a = counts-at w k in (charEnd s a.0, behind-char a.0 a.1 e)

  -- ---- every good place is counted

  abbrev Counted : ℕ → Type 0
  Counted i = Counts s (from s i) (lineAt s i) (columnAt s i)

  counted-first : Counted 0
  unfolding lineAt lfsBefore columnAt columnFrom countIn
  counted-first = Counts.first

  -- no good place lies inside a character
  char-before : (i a : ℕ) → i < a → GoodPlace s a → charEnd s i ≤ a
  char-before i a l g = go (ltb a (charEnd s i)) refl
    where
      go : (t : Bool) → ltb a (charEnd s i) ≡ t → charEnd s i ≤ a
      go false e = ltb-false a (charEnd s i) e
      go true e =
          let h : i < length s = let x = g.within in omega arith in
          let o = next-on s i h in
          let m = ltb-true a (charEnd s i) e in
          let w = wide-tail s i h a l m in
          let y = lt-ltb a (length s) (omega arith) in
          let z = between-in 0x80 0xBF (get_or s a 0) w.0 w.1 in
          clash (sym g.outside ∙ rw (y, z))

  -- behind one more character
  counted-next : (i : ℕ) → i < length s → WellFormed (drop i s) → Counted i → Counted (charEnd s i)
  counted-next i h w k = go (eqb (get_or s i 0) 0x0A) refl
    where
      go : (t : Bool) → eqb (get_or s i 0) 0x0A ≡ t → Counted (charEnd s i)
      go true e =
          let b = eqb-true (get_or s i 0) 0x0A e in
          let p = past-lf s i h b in
          rw (ascii-next s i h (omega arith), p.0, p.1) (Counts.line k (lf-ends s i b))
      go false e =
          let p = past-char i h w (eqb-false (get_or s i 0) 0x0A e) in
          let q = at-char s i h in
          let f = ap (isAny "\n") (sym q) ∙ begins-lf s i ∙ e in
          rw (p.0, p.1) (Counts.column (rw q at k) f)

  counted-on : (f i a : ℕ) → a ≤ i + f → i ≤ a → GoodPlace s a → WellFormed (drop i s) → Counted i → Counted a
  counted-on zero i a m l g w k = let z : i ≡ a = omega arith in rw z at k
  counted-on (suc f) i a m l g w k = go (ltb i a) refl (λ j n. counted-on f j a n)
    where
      go : (t : Bool) → ltb i a ≡ t → ((j : ℕ) → a ≤ j + f → j ≤ a → GoodPlace s a → WellFormed (drop j s) → Counted j → Counted a) → Counted a
      go true e more =
          let h = ltb-true i a e in
          let n : i < length s = let x = g.within in omega arith in
          let o = next-on s i n in
          more (charEnd s i) (omega arith) (char-before i a h g) g (next-valid s i n w).1 (counted-next i n w k)
      go false e more = let x = ltb-false i a e in let z : i ≡ a = omega arith in rw z at k

-- where a position stands
at-place : (script : List ℕ) → WellFormed script → {a l c : ℕ} → Position script a l c → (t : Text) × At script a t l c
at-place script w p =
    let (i, x) = counts-at script w p.counts in
    let z = sym (place-from script i x.inside) ∙ ap (place (length script)) (sym x.text) ∙ p.stands in
    (p.left, rw z at x)

pub counted-is : (script : List ℕ) → WellFormed script → (a l c : ℕ) → GoodPlace script a
    → ((lineAt script a ≡ l) × (columnAt script a ≡ c)) ↔ Position script a l c
counted-is script w a l c g = (there, back)
  where
    there : (lineAt script a ≡ l) × (columnAt script a ≡ c) → Position script a l c
    there (e, f) = record {
      left = from script a;
      counts = rw (e, f) at (counted-on script a 0 a (omega arith) (omega arith) g w (counted-first script));
      stands = place-from script a g.within;
    }

    back : Position script a l c → (lineAt script a ≡ l) × (columnAt script a ≡ c)
    back p = let x = (at-place script w p).1 in (sym x.line, sym x.column)

-- only good places are counted
pub only-good : (script : List ℕ) → WellFormed script → (a l c : ℕ) → Position script a l c → GoodPlace script a
only-good script w a l c p = let x = (at-place script w p).1 in record { within = x.inside; outside = go (ltb a (length script)) refl x.valid }
  where
    go : (t : Bool) → ltb a (length script) ≡ t → WellFormed (drop a script) → t && between 0x80 0xBF (get_or script a 0) ≡ false
    go true e v = between-out 0x80 0xBF (get_or script a 0) (next-valid script a (ltb-true a (length script) e) v).0
    go false e v = refl
