-- What the tests of a script find, under a limit for its bytes.
use Prim.Native.Nat.{ℕ, ◌≤◌, ◌<◌}
use mathlib.Core.Path.{◌≡◌, refl}
use mathlib.Core.Bool.{Bool, true, false}
use mathlib.Core.List.{List}
use lib.ListN.{length}
use lib.Dec.{ltb}
use borrow.Author.Tests.{ltb-true, ltb-false, lt-ltb, le-ltb}
use Rattle.std.specs.Prelude.{Option, Some, None, Result, Ok, Err}
use Rattle.chars.specs.paper.Text.{from}
use Rattle.chars.specs.computed.Valid.{validPrefix}
use Rattle.chars.specs.computed.Marks.{firstMark}
use Rattle.token.specs.paper.Records.{mostBytes}
use Rattle.entry.specs.computed.Check.{checkOf, markOf, cleanOf, markBy, unmarkedBy}
use Rattle.entry.specs.declared.refusal.Refusal.TheVariants as refusal
use Rattle.entry.specs.declared.refusal.Refused.{Refused}

abbrev pub tooLong : Refused
tooLong = record { what = refusal.TooLong; place = 0 }

abbrev pub overLimit : Refused
overLimit = record { what = refusal.OverLimit; place = 0 }

abbrev pub notUtf8 : ℕ → Refused
notUtf8 v = record { what = refusal.NotUtf8; place = v }

abbrev pub hasMark : ℕ → Refused
hasMark a = record { what = refusal.DirectionMark; place = a }

-- what they find
pub data CheckedAs (most : ℕ) (s : List ℕ) : Result (Unit {0}) Refused → Type 0 where
  long : mostBytes < length s → CheckedAs most s (Err tooLong)
  over : length s ≤ mostBytes → most < length s → CheckedAs most s (Err overLimit)
  invalid : length s ≤ mostBytes → length s ≤ most → validPrefix s < length s → CheckedAs most s (Err (notUtf8 (validPrefix s)))
  good : length s ≤ mostBytes → length s ≤ most → length s ≤ validPrefix s → CheckedAs most s (Ok tt)

-- and with the marks
pub data CleanAs (most : ℕ) (s : List ℕ) : Result (Unit {0}) Refused → Type 0 where
  unchecked : {e : Refused} → CheckedAs most s (Err e) → CleanAs most s (Err e)
  marked : {a : ℕ} → length s ≤ mostBytes → length s ≤ most → length s ≤ validPrefix s → firstMark (from s 0) ≡ Some a → CleanAs most s (Err (hasMark a))
  clean : length s ≤ mostBytes → length s ≤ most → length s ≤ validPrefix s → firstMark (from s 0) ≡ None → CleanAs most s (Ok tt)

module _ (most : ℕ) (s : List ℕ) where
  pub checked-as : CheckedAs most s (checkOf most s)
  unfolding checkOf
  checked-as = go (ltb mostBytes (length s)) refl (ltb most (length s)) refl (ltb (validPrefix s) (length s)) refl
    where
      go : (t : Bool) → ltb mostBytes (length s) ≡ t → (u : Bool) → ltb most (length s) ≡ u → (v : Bool) → ltb (validPrefix s) (length s) ≡ v
          → CheckedAs most s (checkOf most s)
      go true e u f v g = rw e (long (ltb-true mostBytes (length s) e))
      go false e true f v g = rw (e, f) (over (ltb-false mostBytes (length s) e) (ltb-true most (length s) f))
      go false e false f true g =
          rw (e, f, g) (invalid (ltb-false mostBytes (length s) e) (ltb-false most (length s) f) (ltb-true (validPrefix s) (length s) g))
      go false e false f false g =
          rw (e, f, g) (good (ltb-false mostBytes (length s) e) (ltb-false most (length s) f) (ltb-false (validPrefix s) (length s) g))

  -- and what each case finds
  pub check-long : mostBytes < length s → checkOf most s ≡ Err tooLong
  unfolding checkOf
  check-long l = rw (lt-ltb mostBytes (length s) l)

  module _ (l : length s ≤ mostBytes) where
    pub check-over : most < length s → checkOf most s ≡ Err overLimit
    unfolding checkOf
    check-over m = rw (le-ltb mostBytes (length s) l, lt-ltb most (length s) m)

    module _ (m : length s ≤ most) where
      pub check-invalid : (v : ℕ) → validPrefix s ≡ v → v < length s → checkOf most s ≡ Err (notUtf8 v)
      unfolding checkOf
      check-invalid v e x = rw (le-ltb mostBytes (length s) l, le-ltb most (length s) m, e, lt-ltb v (length s) x)

      pub check-good : length s ≤ validPrefix s → checkOf most s ≡ Ok tt
      unfolding checkOf
      check-good x = rw (le-ltb mostBytes (length s) l, le-ltb most (length s) m, le-ltb (validPrefix s) (length s) x)

  -- ---- with the marks

  pub text_ok : (o : Option ℕ) → Ok o ≡ markOf most s → Ok tt ≡ checkOf most s
  unfolding markOf
  text_ok o q = go checked-as q
    where
      go : {x : Result (Unit {0}) Refused} → CheckedAs most s x → Ok o ≡ markBy x (firstMark (from s 0)) → Ok tt ≡ x
      go (long l) q = absurd (cc)
      go (over l m) q = absurd (cc)
      go (invalid l m x) q = absurd (cc)
      go (good l m x) q = refl

  pub text_within : (o : Option ℕ) → Ok o ≡ markOf most s → length s ≤ mostBytes
  unfolding markOf
  text_within o q = go checked-as q
    where
      go : {x : Result (Unit {0}) Refused} → CheckedAs most s x → Ok o ≡ markBy x (firstMark (from s 0)) → length s ≤ mostBytes
      go (long l) q = absurd (cc)
      go (over l m) q = absurd (cc)
      go (invalid l m x) q = absurd (cc)
      go (good l m x) q = l

  pub text_err : (e : Refused) → Err e ≡ markOf most s → Err e ≡ checkOf most s
  unfolding markOf
  text_err e q = go checked-as q
    where
      go : {x : Result (Unit {0}) Refused} → CheckedAs most s x → Err e ≡ markBy x (firstMark (from s 0)) → Err e ≡ x
      go (long l) q = cc
      go (over l m) q = cc
      go (invalid l m x) q = cc
      go (good l m x) q = absurd (cc)

  pub clean-as : CleanAs most s (cleanOf most s)
  unfolding cleanOf markOf
  clean-as = go checked-as
    where
      by : length s ≤ mostBytes → length s ≤ most → length s ≤ validPrefix s → (o : Option ℕ) → firstMark (from s 0) ≡ o → CleanAs most s (unmarkedBy (Ok o))
      by l m x None e = clean l m x e
      by l m x (Some a) e = marked l m x e

      go : {x : Result (Unit {0}) Refused} → CheckedAs most s x → CleanAs most s (unmarkedBy (markBy x (firstMark (from s 0))))
      go (long l) = unchecked (long l)
      go (over l m) = unchecked (over l m)
      go (invalid l m x) = unchecked (invalid l m x)
      go (good l m x) = by l m x (firstMark (from s 0)) refl

  pub clean-err : (e : Refused) → checkOf most s ≡ Err e → cleanOf most s ≡ Err e
  unfolding cleanOf markOf
  clean-err e q = rw q refl

  module _ (l : length s ≤ mostBytes) (m : length s ≤ most) (x : length s ≤ validPrefix s) where
    pub clean-mark : (a : ℕ) → firstMark (from s 0) ≡ Some a → cleanOf most s ≡ Err (hasMark a)
    unfolding cleanOf markOf
    clean-mark a f = rw (check-good l m x, f) refl

    pub clean-good : firstMark (from s 0) ≡ None → cleanOf most s ≡ Ok tt
    unfolding cleanOf markOf
    clean-good f = rw (check-good l m x, f) refl

  -- a script that passes
  pub clean-passed : (u : Unit {0}) → Ok u ≡ cleanOf most s → length s ≤ mostBytes
  clean-passed u q = go clean-as q
    where
      go : {x : Result (Unit {0}) Refused} → CleanAs most s x → Ok u ≡ x → length s ≤ mostBytes
      go (unchecked c) q = absurd (cc)
      go (marked l m x f) q = absurd (cc)
      go (clean l m x f) q = l
