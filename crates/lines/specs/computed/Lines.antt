-- Lines and columns computed over bytes: where lines start, the line and column of a place, and the search in an index.
use Rattle.std.specs.Prelude.{ℕ, zero, suc, ◌+◌, ◌-◌, ◌/◌, if◌then◌else◌, List, [], ◌∷◌, take, drop, slice_index, ◌==◌, nat_le}
use Rattle.chars.specs.paper.Quoted.{between}

-- the bytes from the place i to the place j
abbrev pub part : List ℕ → ℕ → ℕ → List ℕ
part s i j = take (j - i) (drop i s)

-- how many bytes lie in a range
unfoldable pub countIn : ℕ → ℕ → List ℕ → ℕ
countIn low high [] = 0
countIn low high (b ∷ s) =
    let rest = countIn low high s in
    if between low high b then suc rest else rest

-- ---- lines

-- the places behind the LFs of bytes that begin at the place i
unfoldable pub startsIn : ℕ → List ℕ → List ℕ
startsIn i [] = []
startsIn i (b ∷ s) =
    let rest = startsIn (suc i) s in
    if b == 0x0A then suc i ∷ rest else rest

unfoldable pub startsOf : List ℕ → List ℕ
startsOf script = 0 ∷ startsIn 0 script

-- one line more than LFs
unfoldable pub lineCount : List ℕ → ℕ
lineCount script = suc (countIn 0x0A 0x0A script)

-- ---- a place

-- how many LFs stand before it
unfoldable pub lfsBefore : List ℕ → ℕ → ℕ
lfsBefore script a = countIn 0x0A 0x0A (take a script)

-- the column behind bytes that begin in column c: an LF brings it back to 1, and a byte 0x80 to 0xBF goes on in a character
unfoldable pub columnFrom : ℕ → List ℕ → ℕ
columnFrom c [] = c
columnFrom c (b ∷ s) = columnFrom (if b == 0x0A then 1 else if between 0x80 0xBF b then c else suc c) s

unfoldable pub lineAt : List ℕ → ℕ → ℕ
lineAt script a = suc (lfsBefore script a)

unfoldable pub columnAt : List ℕ → ℕ → ℕ
columnAt script a = columnFrom 1 (take a script)

-- ---- in an index

-- By halves, in at most `most` turns: of `size` numbers from `low` on, the one that the search ends at for the place a.
unfoldable pub searchIn : ℕ → List ℕ → ℕ → ℕ → ℕ → ℕ
searchIn zero index a low size = low
searchIn (suc most) index a low size =
    let half = size / 2 in
    let right = nat_le (slice_index index (low + half)) a in
    let on = searchIn most index a (if right then low + half else low) (if right then size - half else half) in
    if nat_le size 1 then low else on

-- of the first `lines` numbers; as many turns are enough
unfoldable pub searchOf : List ℕ → ℕ → ℕ → ℕ
searchOf index lines a = searchIn lines index a 0 lines

-- the column of the place a in a line that starts at `start`: the bytes between the two but those that go on in a character
unfoldable pub columnSince : List ℕ → ℕ → ℕ → ℕ
columnSince script start a = suc (a - start - countIn 0x80 0xBF (part script start a))
