-- What the host sees of building and of a query is what is declared.
use Prim.Native.Nat.{ℕ, suc, ◌≤◌}
use mathlib.Core.Path.{◌≡◌, refl, sym, ◌∙◌, ap}
use mathlib.Core.Bool.{Bool, true, false}
use mathlib.Core.Logic.{◌↔◌}
use mathlib.Core.List.{List, ◌++◌}
use lib.ListN.{length, take, drop, get_or}
use lib.Seq.{take_at, take_all}
use lib.Dec.{eqb, ltb}
use native.Mathlib.Numerals.{add-one}
use native.Mathlib.Omega.{arith}
use borrow.Author.Tests.{eqb-true, eqb-false, ltb-true, ltb-false}
use Rattle.words.specs.Words.{blockOf, Told, told, numberTold}
use Rattle.chars.specs.computed.Valid.{validPrefix}
use Rattle.chars.proofs.Bools.{clash}
use Rattle.chars.proofs.theorems.Promises.{valid-laws}
use Rattle.token.specs.paper.Records.{mostBytes}
use Rattle.entry.specs.paper.Host.{Seen, seen, numberSeen, bufferSeen}
use Rattle.entry.specs.paper.TokenText.{hasText}
use Rattle.lines.specs.paper.Lines.{Starts, Position, GoodPlace}
use Rattle.lines.specs.paper.Host.{Taken, Builds, Answers}
use Rattle.lines.specs.computed.Lines.{startsOf, lineCount, lineAt, columnAt, searchOf, columnSince}
use Rattle.lines.specs.computed.Host.{checkedOf, indexSeen, positionTold}
use Rattle.entry.specs.declared.refusal.Refused.{Refused}
use Rattle.lines.proofs.index.Laws.{lines-length, some_line}
use Rattle.lines.proofs.find.Laws.{column-between, search-within}
use Rattle.std.specs.Prelude.{Result, Ok}
use Rattle.entry.proofs.host.Checks.{tooLong, notUtf8}
use Rattle.lines.proofs.host.Laws.{CheckedAs, long, invalid, good, checked-as, checked-long, checked-invalid, checked-good, good-place, place-good, index-none, index-refused, index-short, index-built, position-none, position-refused, position-off, position-short, position-found}
use Rattle.lines.proofs.theorems.Starts.{starts-are}
use Rattle.lines.proofs.theorems.Counting.{counted-is}
use Rattle.lines.proofs.theorems.Finding.{finds-line, finds-column}
open valid-laws use {valid, longest-one, valid-all, all-valid}

module _ (s : List ℕ) where
  -- the script's own starts are declared
  own-starts : Starts s (startsOf s)
  own-starts = (starts-are s (startsOf s)).0 refl

  -- ---- 17, 18, the number of lines

  taken : (block : List ℕ) → length block ≡ 16 → length s ≤ mostBytes → length s ≤ validPrefix s → Taken s block
  taken block e l x = record { sixteen = e; in-limit = l; utf8 = all-valid s x }

  taken-lines : {block : List ℕ} → Taken s block → Ok (lineCount s) ≡ checkedOf s
  taken-lines t = let v = valid-all s t.utf8 in checked-good s t.in-limit (validPrefix s) refl (omega arith)

  -- ---- building

  module _ (index block : List ℕ) where
    builds-only : {x : Seen} → Builds s index block x → indexSeen s index block ≡ x
    builds-only (Builds.twenty n) = sym (index-none s index block n)
    builds-only (Builds.seventeen e l) = sym (index-refused s index block e tooLong _ (checked-long s l) refl)
    builds-only (Builds.eighteen {n} e l v x) = sym (index-refused s index block e (notUtf8 n) _ (checked-invalid s l n (longest-one v (valid s)) x) refl)
    builds-only (Builds.twentySix {l} t st x) =
        let e = sym (ap length ((starts-are s l).1 st)) ∙ lines-length s in
        rw e (sym (index-short s index block t.sixteen (lineCount s) _ (taken-lines t) (omega arith) refl))
    builds-only (Builds.built {l} t st x) =
        let q = (starts-are s l).1 st in
        let e = sym (ap length q) ∙ lines-length s in
        rw (← q, lines-length s) (sym (index-built s index block t.sixteen (lineCount s) _ (taken-lines t) _ (omega arith) refl refl))

    builds-by : {x : Result ℕ Refused} → CheckedAs s x → x ≡ checkedOf s → length block ≡ 16 → Builds s index block (indexSeen s index block)
    builds-by (long l) q e = rw (← index-refused s index block e tooLong _ q refl) (Builds.seventeen e l)
    builds-by (invalid l x) q e = rw (← index-refused s index block e (notUtf8 (validPrefix s)) _ q refl) (Builds.eighteen e l (valid s) x)
    builds-by (good l x) q e = go (ltb (length index) (lineCount s)) refl
      where
        t : Taken s block
        t = taken block e l x

        n : length (startsOf s) ≡ lineCount s
        n = lines-length s

        go : (b : Bool) → ltb (length index) (lineCount s) ≡ b → Builds s index block (indexSeen s index block)
        go true w =
            let h = ltb-true (length index) (lineCount s) w in
            let y : Builds s index block (seen 26 index (blockOf 26 0 (length (startsOf s)) 0)) = Builds.twentySix t own-starts (omega (arith, n)) in
            rw (← index-short s index block e (lineCount s) _ q h refl) (rw n at y)
        go false w =
            let h = ltb-false (length index) (lineCount s) w in
            let y : Builds s index block (seen 0 (startsOf s ++ drop (length (startsOf s)) index) (blockOf 0 0 (length (startsOf s)) 0)) =
            Builds.built t own-starts (omega (arith, n))
            in
            rw (← index-built s index block e (lineCount s) _ q _ h refl refl) (rw n at y)

    builds-all : Builds s index block (indexSeen s index block)
    builds-all = go (eqb (length block) 16) refl
      where
        go : (b : Bool) → eqb (length block) 16 ≡ b → Builds s index block (indexSeen s index block)
        go true e = builds-by (checked-as s) refl (eqb-true (length block) 16 e)
        go false e = let n = eqb-false (length block) 16 e in rw (← index-none s index block n) (Builds.twenty n)

    pub builds-are : (x : Seen) → (indexSeen s index block ≡ x) ↔ Builds s index block x
    builds-are x = (λ e. rw e at builds-all, builds-only)

    -- every refusal leaves the index as it was
    unchanged-by : {x : Seen} → Builds s index block x → (numberSeen x ≡ 0 → ⊥) → bufferSeen x ≡ index
    unchanged-by (Builds.twenty n) z = refl
    unchanged-by (Builds.seventeen e l) z = refl
    unchanged-by (Builds.eighteen e l v x) z = refl
    unchanged-by (Builds.twentySix t st x) z = refl
    unchanged-by (Builds.built t st x) z = absurd (z refl)

    pub index-unchanged : (numberSeen (indexSeen s index block) ≡ 0 → ⊥) → bufferSeen (indexSeen s index block) ≡ index
    index-unchanged = unchanged-by builds-all

    -- where it is built, the starts stand first in it, and the script passed 17 and 18
    built-by : {x : Seen} → Builds s index block x → numberSeen x ≡ 0 → (take (lineCount s) (bufferSeen x) ≡ startsOf s) × Taken s block
    built-by (Builds.twenty n) z = absurd (omega arith)
    built-by (Builds.seventeen e l) z = absurd (omega arith)
    built-by (Builds.eighteen e l v x) z = absurd (omega arith)
    built-by (Builds.twentySix t st x) z = absurd (omega arith)
    built-by (Builds.built {l} t st x) z =
        let q = (starts-are s l).1 st in
        (take_at l (drop (length l) index) (lineCount s) (sym (ap length q) ∙ lines-length s) ∙ sym q, t)

    pub index-built-first : numberSeen (indexSeen s index block) ≡ 0 → (take (lineCount s) (bufferSeen (indexSeen s index block)) ≡ startsOf s) × Taken s block
    index-built-first = built-by builds-all

  -- ---- a query

  module _ (index : List ℕ) (a : ℕ) (block : List ℕ) where
    -- over the starts it is line and column by counting
    counted : Taken s block → GoodPlace s a → take (lineCount s) index ≡ startsOf s
        → Position s a (suc (searchOf index (lineCount s) a)) (columnSince s (get_or index (searchOf index (lineCount s) a) 0) a)
    unfolding lineAt
    counted t g is =
        let e = finds-line s index a is g.within in
        rw (e, finds-column s index a is g.within) ((counted-is s t.utf8 a (lineAt s a) (columnAt s a) g).0 (refl, refl))

    found-told : Taken s block → GoodPlace s a → lineCount s ≤ length index
        → told 0 (blockOf 0 0 (suc (searchOf index (lineCount s) a)) (columnSince s (get_or index (searchOf index (lineCount s) a) 0) a)) ≡ positionTold s index a block
    found-told t g h =
        position-found s index a block t.sixteen (lineCount s) _ (taken-lines t) (place-good s a g) _ _ h refl refl
        (ap (λ k. blockOf 0 0 k (columnSince s (get_or index (searchOf index (lineCount s) a) 0) a)) (sym (add-one _)))

    answers-by : {x : Result ℕ Refused} → CheckedAs s x → x ≡ checkedOf s → length block ≡ 16 → Answers s index a block (positionTold s index a block)
    answers-by (long l) q e = rw (← position-refused s index a block e tooLong _ q refl) (Answers.seventeen e l)
    answers-by (invalid l x) q e = rw (← position-refused s index a block e (notUtf8 (validPrefix s)) _ q refl) (Answers.eighteen e l (valid s) x)
    answers-by (good l x) q e = go (hasText s a a) refl (ltb (length index) (lineCount s)) refl
      where
        t : Taken s block
        t = taken block e l x

        n : length (startsOf s) ≡ lineCount s
        n = lines-length s

        go : (p : Bool) → hasText s a a ≡ p → (b : Bool) → ltb (length index) (lineCount s) ≡ b → Answers s index a block (positionTold s index a block)
        go false p b w =
            rw (← position-off s index a block e (lineCount s) _ q p refl) (Answers.twentyFive t (λ g. clash (sym p ∙ place-good s a g)))
        go true p true w =
            let h = ltb-true (length index) (lineCount s) w in
            rw (← position-short s index a block e (lineCount s) _ q p h refl) (Answers.twentySix t (good-place s a p) own-starts (omega (arith, n)))
        go true p false w =
            let h = ltb-false (length index) (lineCount s) w in
            let g = good-place s a p in
            rw (← found-told t g h)
            (Answers.answered
            t
            g
            own-starts
            (omega (arith, n))
            (λ is. counted t g (rw n at is))
            (omega arith)
            (omega (arith, n, search-within index (lineCount s) a (some_line s)))
            (column-between s _ a).0
            (column-between s _ a).1)

    pub answers-are : Answers s index a block (positionTold s index a block)
    answers-are = go (eqb (length block) 16) refl
      where
        go : (b : Bool) → eqb (length block) 16 ≡ b → Answers s index a block (positionTold s index a block)
        go true e = answers-by (checked-as s) refl (eqb-true (length block) 16 e)
        go false e = let n = eqb-false (length block) 16 e in rw (← position-none s index a block n) (Answers.twenty n)

    -- ---- nothing else is told: no other refusal, and over the starts no other line and column

    module _ (is : take (lineCount s) index ≡ startsOf s) where
      enough : lineCount s ≤ length index
      enough = go (ltb (length index) (lineCount s)) refl
        where
          go : (b : Bool) → ltb (length index) (lineCount s) ≡ b → lineCount s ≤ length index
          go true w =
              let h = ltb-true (length index) (lineCount s) w in
              let e = sym (ap length (take_all (lineCount s) index (omega arith))) ∙ ap length is ∙ lines-length s in
              absurd (omega arith)
          go false w = ltb-false (length index) (lineCount s) w

      pub counted-told : Taken s block → (l c : ℕ) → GoodPlace s a → Position s a l c → positionTold s index a block ≡ told 0 (blockOf 0 0 l c)
      unfolding lineAt
      counted-told t l c g p =
          let k = (counted-is s t.utf8 a l c g).1 p in
          let e = finds-line s index a is g.within in
          sym (found-told t g enough) ∙ rw (e, finds-column s index a is g.within, k.0, k.1)

    pub answers-only : {x : Told} → (numberTold x ≡ 0 → take (lineCount s) index ≡ startsOf s) → Answers s index a block x → positionTold s index a block ≡ x
    answers-only is (Answers.twenty n) = sym (position-none s index a block n)
    answers-only is (Answers.seventeen e l) = sym (position-refused s index a block e tooLong _ (checked-long s l) refl)
    answers-only is (Answers.eighteen {n} e l v x) = sym (position-refused s index a block e (notUtf8 n) _ (checked-invalid s l n (longest-one v (valid s)) x) refl)
    answers-only is (Answers.twentyFive t n) = sym (position-off s index a block t.sixteen (lineCount s) _ (taken-lines t) (off (hasText s a a) refl n) refl)
      where
        off : (p : Bool) → hasText s a a ≡ p → (GoodPlace s a → ⊥) → hasText s a a ≡ false
        off true e n = absurd (n (good-place s a e))
        off false e n = e
    answers-only is (Answers.twentySix {l} t g st x) =
        let q = ap length ((starts-are s l).1 st) in
        let n = lines-length s in
        sym (position-short s index a block t.sixteen (lineCount s) _ (taken-lines t) (place-good s a g) (omega arith) refl)
    answers-only is (Answers.answered {l} {line} {column} t g st h p x y z u) =
        let q = (starts-are s l).1 st in
        counted-told (is refl) t line column g (p (rw (← q, lines-length s) (is refl)))
