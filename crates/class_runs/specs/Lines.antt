-- What the lines of the program hold.
use Rattle.std.specs.Prelude.{ℕ, zero, suc, ◌+◌, ◌-◌, ◌%◌, ◌/◌, Bool, if◌then◌else◌, nat_lt, List, [], ◌∷◌, ◌++◌, codes}
use Rattle.puts.specs.Digits.{glyph}
use Rattle.chars.specs.paper.Classes.{isIdStart, isIdChar, isOpSign, isPrintable}
use Rattle.class_runs.specs.declared.Class.{Class}
use Rattle.class_runs.specs.declared.Class.TheVariants.{IdStart, IdChar, OpChar, Printable}

abbrev pub nameOf : Class → List ℕ
nameOf IdStart = codes "id-start"
nameOf IdChar = codes "id-char"
nameOf OpChar = codes "op-char"
nameOf Printable = codes "printable"

abbrev pub inClass : Class → ℕ → Bool
inClass IdStart c = isIdStart c
inClass IdChar c = isIdChar c
inClass OpChar c = isOpSign c
inClass Printable c = isPrintable c

-- the last hexadecimal digit of n, in upper case
abbrev pub lastDigit : ℕ → ℕ
lastDigit n = glyph (n % 16) 0x41

-- what follows the name of the class in the line of a run
unfoldable pub runText : ℕ → ℕ → List ℕ
runText first last = 32 ∷ lastDigit (first / 4096) ∷ lastDigit (first / 256) ∷ lastDigit (first / 16) ∷ lastDigit first ∷ 32 ∷ lastDigit (last / 4096) ∷ lastDigit (last / 256) ∷ lastDigit (last / 16) ∷ lastDigit last ∷ 10 ∷ []

-- the line of the run that begins at `start` and ends before `end`; none, where nothing lies between
unfoldable pub runLine : Class → ℕ → ℕ → List ℕ
runLine class start end = if nat_lt start end then nameOf class ++ runText start (end - 1) else []

-- The lines of the runs that end at c or behind it, where n characters are left from c on and the run at hand begins at `start`. A run goes on as long
-- as its characters belong to the class; behind one that does not, the next may begin.
unfoldable pub runsFrom : Class → ℕ → ℕ → ℕ → List ℕ
runsFrom class start c zero = runLine class start c
runsFrom class start c (suc n) =
    if inClass class c then runsFrom class start (c + 1) n else (runLine class start c ++ runsFrom class (c + 1) (c + 1) n)

-- all characters up to U+FFFF: the surrogates between the two parts are none
unfoldable pub classText : Class → List ℕ
classText class = runsFrom class 0 0 0xD800 ++ runsFrom class 0xE000 0xE000 0x2000
