-- Counting: none at first, one sequence more, one first byte more.
use Rattle.std.proofs.Common.{◌≡◌, ℕ, suc, ◌+◌, ◌-◌, ◌<◌, ◌≤◌, List, [], ◌∷◌, ◌++◌, length, take, drop, get_or, refl, arith, add-one, append_assoc, drop-cons}
use Rattle.std.proofs.lemmas.List.{drop_all}
use Rattle.std.specs.Prelude.{codes}
use Rattle.std.specs.List.{flat_map}
use Rattle.chars.specs.computed.Valid.{validPrefix}
use Rattle.utf8_runs.specs.Sequences.{bytesOf, noCounts, tallied, walked, rows}
use Rattle.utf8_runs.specs.Rows.{spacedText, hexOf, rowText, rowsFrom, rowsText}

pub walked_none : (n a : ℕ) (counts : List ℕ) → walked n a 0 counts ≡ counts
unfolding walked
walked_none n a counts = refl

pub walked_more : (n a k : ℕ) (old : List ℕ) {counts after bytes : List ℕ} {answer : ℕ} → counts ≡ walked n a k old → bytes ≡ bytesOf n a k
    → answer ≡ validPrefix (take n bytes) → after ≡ tallied counts answer → after ≡ walked n a (k + 1) old
unfolding walked
walked_more n a k old is made found more = rw add-one (cc)

pub rows_none : (n tails : ℕ) → rows n tails 0 ≡ 0 ∷ 0 ∷ 0 ∷ 0 ∷ 0 ∷ []
unfolding rows
rows_none n tails = refl

pub rows_more : (n tails a : ℕ) → rows n tails (a + 1) ≡ walked n a tails (rows n tails a)
unfolding rows
rows_more n tails a = rw add-one refl

-- ---- lines

pub counts-turn : (counts : List ℕ) (i : ℕ) (rest : List ℕ) → i < length counts
    → flat_map spacedText (drop i counts) ++ rest ≡ spacedText (get_or counts i 0) ++ (flat_map spacedText (drop (i + 1) counts) ++ rest)
counts-turn counts i rest h =
    rw (drop-cons counts i 0 h, add-one) (append_assoc (spacedText (get_or counts i 0)) (flat_map spacedText (drop (suc i) counts)) rest)

pub rows-turn : (n tails a : ℕ) → a < 256
    → rowsFrom n tails a (256 - a) ≡ rowText n (hexOf a) (walked n a tails noCounts) ++ rowsFrom n tails (a + 1) (256 - (a + 1))
unfolding rowsFrom
rows-turn n tails a h =
    let e : 256 - a ≡ suc (256 - (a + 1)) = omega arith in
    rw e

pub rows-end : (n tails a : ℕ) → 256 ≤ a → rowsFrom n tails a (256 - a) ≡ rowText n (codes "all") (rows n tails a)
unfolding rowsFrom
rows-end n tails a h =
    let none : 256 - a ≡ 0 = omega arith in
    rw none

pub rows-begun : (n tails : ℕ) → rowsText n tails ≡ rowsFrom n tails 0 256
unfolding rowsText
rows-begun n tails = refl

pub counts-end : (counts : List ℕ) (i : ℕ) (rest : List ℕ) → length counts ≤ i → flat_map spacedText (drop i counts) ++ rest ≡ rest
counts-end counts i rest h = rw (drop_all i counts h)
