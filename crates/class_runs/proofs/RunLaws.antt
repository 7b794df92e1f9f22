-- Runs, character by character.
use Prim.Native.Nat.{ℕ, suc, ◌+◌, ◌-◌, ◌<◌, ◌≤◌}
use mathlib.Core.Path.{◌≡◌}
use mathlib.Core.Bool.{true, false}
use mathlib.Core.List.{[], ◌++◌}
use native.Mathlib.Omega.{arith}
use borrow.Author.Tests.{lt-ltb, le-ltb}
use Rattle.class_runs.specs.declared.Class.{Class}
use Rattle.class_runs.specs.Lines.{nameOf, inClass, runText, runLine, runsFrom}

pub runs-in : (class : Class) (start c end : ℕ) → c < end → inClass class c ≡ true → runsFrom class start c (end - c) ≡ runsFrom class start (c + 1) (end - (c + 1))
unfolding runsFrom
runs-in class start c end more is =
    let e : end - c ≡ suc (end - (c + 1)) = omega arith in
    rw e (simp is)

pub runs-off : (class : Class) (start c end : ℕ) → c < end → inClass class c ≡ false
    → runsFrom class start c (end - c) ≡ runLine class start c ++ runsFrom class (c + 1) (c + 1) (end - (c + 1))
unfolding runsFrom
runs-off class start c end more is =
    let e : end - c ≡ suc (end - (c + 1)) = omega arith in
    rw e (simp is)

pub runs-end : (class : Class) (start c end : ℕ) → end ≤ c → c ≤ end → runsFrom class start c (end - c) ≡ runLine class start end
unfolding runsFrom
runs-end class start c end low high =
    let none : end - c ≡ 0 = omega arith in
    let same : c ≡ end = omega arith in
    rw (none, same)

-- ---- one line

pub line-some : (class : Class) (start end : ℕ) → start < end → runLine class start end ≡ nameOf class ++ runText start (end - 1)
unfolding runLine
line-some class start end h = simp (lt-ltb start end h)

pub line-none : (class : Class) (start end : ℕ) → end ≤ start → runLine class start end ≡ []
unfolding runLine
line-none class start end h = simp (le-ltb start end h)
