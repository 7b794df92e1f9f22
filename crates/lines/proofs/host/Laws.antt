-- Both functions of the host, branch by branch.
use Prim.Native.Nat.{ℕ, ◌+◌, ◌≤◌, ◌<◌}
use mathlib.Core.Path.{◌≡◌, refl, sym}
use mathlib.Core.Bool.{true, false, not, ◌&&◌}
use mathlib.Core.List.{List, ◌++◌}
use lib.ListN.{length, drop, get_or}
use lib.Dec.{leb}
use native.Mathlib.Numerals.{add-one}
use native.Mathlib.Omega.{arith}
use borrow.Author.Tests.{eq-eqb, ne_eqb, lt-ltb, le-ltb, leb-true, le-leb, not-true}
use Rattle.words.specs.Words.{blockOf, told}
use Rattle.chars.specs.computed.Valid.{validPrefix}
use Rattle.chars.proofs.Bools.{and-both}
use Rattle.token.specs.paper.Records.{mostBytes}
use Rattle.std.specs.Prelude.{Result, Ok, Err}
use Rattle.entry.specs.paper.Refusals.{refusalNumber}
use Rattle.entry.specs.paper.Host.{seen}
use Rattle.entry.specs.declared.refusal.Refused.{Refused}
use Rattle.entry.proofs.host.Checks as checks
use Rattle.entry.proofs.host.Checks.{tooLong, notUtf8, check-long, check-invalid, check-good}
use Rattle.entry.specs.paper.TokenText.{insideCharacter, hasText}
use Rattle.lines.specs.paper.Lines.{GoodPlace}
use Rattle.lines.specs.computed.Lines.{startsOf, lineCount, searchOf, columnSince}
use Rattle.lines.specs.computed.Host.{linesIf, checkedOf, builtBy, indexSeen, foundIn, answeredBy, positionTold}

-- ---- 17, 18, the number of lines

module _ (s : List ℕ) where
  pub checked-long : mostBytes < length s → Err tooLong ≡ checkedOf s
  unfolding checkedOf
  checked-long l = rw (check-long mostBytes s l) refl

  module _ (l : length s ≤ mostBytes) (v : ℕ) (e : v ≡ validPrefix s) where
    pub checked-invalid : v < length s → Err (notUtf8 v) ≡ checkedOf s
    unfolding checkedOf
    checked-invalid x = rw (check-invalid mostBytes s l l v (sym e) x) refl

    pub checked-good : length s ≤ v → Ok (lineCount s) ≡ checkedOf s
    unfolding checkedOf
    checked-good x = rw (check-good mostBytes s l l (omega arith)) refl

  -- and nothing else is answered
  pub data CheckedAs : Result ℕ Refused → Type 0 where
    long : mostBytes < length s → CheckedAs (Err tooLong)
    invalid : length s ≤ mostBytes → validPrefix s < length s → CheckedAs (Err (notUtf8 (validPrefix s)))
    good : length s ≤ mostBytes → length s ≤ validPrefix s → CheckedAs (Ok (lineCount s))

  pub checked-as : CheckedAs (checkedOf s)
  unfolding checkedOf
  checked-as = go (checks.checked-as mostBytes s)
    where
      go : {x : Result (Unit {0}) Refused} → checks.CheckedAs mostBytes s x → CheckedAs (linesIf x (lineCount s))
      go (checks.long l) = long l
      go (checks.over l m) = absurd (omega arith)
      go (checks.invalid l m x) = invalid l x
      go (checks.good l m x) = good l x

  -- where the lines are counted, the script is not too long, and they are all of them
  pub was-lines : (n : ℕ) → Ok n ≡ checkedOf s → (length s ≤ mostBytes) × (n ≡ lineCount s)
  was-lines n e = go checked-as e
    where
      go : {x : Result ℕ Refused} → CheckedAs x → Ok n ≡ x → (length s ≤ mostBytes) × (n ≡ lineCount s)
      go (long l) e = absurd (cc)
      go (invalid l x) e = absurd (cc)
      go (good l x) e = (l, cc)

-- ---- a good place

module _ (s : List ℕ) (a : ℕ) where
  pub good-place : hasText s a a ≡ true → GoodPlace s a
  unfolding hasText
  good-place e =
      let k = and-both (leb a a && leb a (length s) && not (insideCharacter s a)) (not (insideCharacter s a)) e in
      let m = and-both (leb a a && leb a (length s)) (not (insideCharacter s a)) k.0 in
      let i = and-both (leb a a) (leb a (length s)) m.0 in
      record { within = leb-true a (length s) i.1; outside = not-true (insideCharacter s a) k.1 }

  pub place-good : GoodPlace s a → hasText s a a ≡ true
  unfolding hasText
  place-good g = rw (le-leb a a (omega arith), le-leb a (length s) g.within, g.outside)

-- ---- building

module _ (s index block : List ℕ) where
  pub index-none : (length block ≡ 16 → ⊥) → seen 20 index block ≡ indexSeen s index block
  unfolding indexSeen
  index-none n = rw (ne_eqb (length block) 16 n)

  module _ (e : length block ≡ 16) where
    pub index-refused : (r : Refused) (b : List ℕ) → Err r ≡ checkedOf s → b ≡ blockOf (refusalNumber r.what) r.place 0 0
        → seen (refusalNumber r.what) index b ≡ indexSeen s index block
    unfolding indexSeen builtBy
    index-refused r b q f = rw (eq-eqb (length block) 16 e, ← q, f)

    module _ (n : ℕ) (b : List ℕ) (q : Ok n ≡ checkedOf s) where
      pub index-short : length index < n → b ≡ blockOf 26 0 n 0 → seen 26 index b ≡ indexSeen s index block
      unfolding indexSeen builtBy
      index-short l f = rw (eq-eqb (length block) 16 e, ← q, lt-ltb (length index) n l, f)

      pub index-built : (out : List ℕ) → n ≤ length index → out ≡ startsOf s ++ drop (lineCount s) index → b ≡ blockOf 0 0 n 0
          → seen 0 out b ≡ indexSeen s index block
      unfolding indexSeen builtBy
      index-built out l o f = rw (eq-eqb (length block) 16 e, ← q, le-ltb (length index) n l, f, o, (was-lines s n q).1)

-- ---- a query

module _ (s index : List ℕ) (a : ℕ) (block : List ℕ) where
  pub position-none : (length block ≡ 16 → ⊥) → told 20 block ≡ positionTold s index a block
  unfolding positionTold
  position-none n = rw (ne_eqb (length block) 16 n)

  module _ (e : length block ≡ 16) where
    pub position-refused : (r : Refused) (b : List ℕ) → Err r ≡ checkedOf s → b ≡ blockOf (refusalNumber r.what) r.place 0 0
        → told (refusalNumber r.what) b ≡ positionTold s index a block
    unfolding positionTold answeredBy
    position-refused r b q f = rw (eq-eqb (length block) 16 e, ← q, f)

    module _ (n : ℕ) (b : List ℕ) (q : Ok n ≡ checkedOf s) where
      pub position-off : hasText s a a ≡ false → b ≡ blockOf 25 0 0 0 → told 25 b ≡ positionTold s index a block
      unfolding positionTold answeredBy
      position-off t f = rw (eq-eqb (length block) 16 e, ← q, t, f)

      module _ (t : hasText s a a ≡ true) where
        pub position-short : length index < n → b ≡ blockOf 26 0 0 0 → told 26 b ≡ positionTold s index a block
        unfolding positionTold answeredBy
        position-short l f = rw (eq-eqb (length block) 16 e, ← q, t, lt-ltb (length index) n l, f)

        pub position-found : (k c : ℕ) → n ≤ length index → k ≡ searchOf index n a → c ≡ columnSince s (get_or index k 0) a → b ≡ blockOf 0 0 (k + 1) c
            → told 0 b ≡ positionTold s index a block
        unfolding positionTold answeredBy foundIn
        position-found k c l g h f = rw (eq-eqb (length block) 16 e, ← q, t, le-ltb (length index) n l, f, h, add-one k, g)
