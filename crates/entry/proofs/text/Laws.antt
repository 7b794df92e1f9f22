-- A text that stands lies within the script.
use Prim.Native.Nat.{ℕ, ◌≤◌}
use mathlib.Core.Path.{◌≡◌}
use mathlib.Core.Bool.{true, not, ◌&&◌}
use mathlib.Core.List.{List}
use lib.Dec.{leb}
use lib.ListN.{length}
use borrow.Author.Tests.{leb-true}
use Rattle.chars.proofs.Bools.{and-both}
use Rattle.entry.specs.paper.TokenText.{insideCharacter, hasText}

pub text_within : (script : List ℕ) (a e : ℕ) → hasText script a e ≡ true → (a ≤ e) × (e ≤ length script)
unfolding hasText
text_within script a e h =
    let x = (and-both (leb a e && leb e (length script) && not (insideCharacter script a)) (not (insideCharacter script e)) h).0 in
    let y = (and-both (leb a e && leb e (length script)) (not (insideCharacter script a)) x).0 in
    let z = and-both (leb a e) (leb e (length script)) y in
    (leb-true a e z.0, leb-true e (length script) z.1)
