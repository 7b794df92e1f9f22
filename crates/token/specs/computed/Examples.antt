-- RULES, "Marked scripts", as one computed check over their list; the examples of "Listing", "Refusals of a piece", "The first refusal", "Traps"
-- and "Operator sign". `Examples` in `entry` asks for all of them; here they give a wrong definition its first error.
use Rattle.std.specs.Prelude.{◌≡◌, refl, IsTrue, List, [], ◌∷◌, ◌++◌}
use Rattle.chars.specs.computed.Encoded.{script}
use Rattle.token.specs.paper.Records.{mostNeed, values, recordLength, recordBytes}
use Rattle.words.specs.Words.{le4}
use Rattle.token.specs.computed.Listing.{Example, ◌gives◌, listed, needed, holdBy}

abbrev pub marked : List Example
marked =
    -- M1
    "" gives "18 0 0 0\n"
    -- M2
    ∷ "0x" gives "4 0 1 0 0\n1 1 2 0\n18 2 2 0\n"
    -- M3
    ∷ "0x80000000" gives "refused 6 at 0\n"
    ∷ "0x80000000L" gives "5 0 11 0 2147483648\n18 11 11 0\n"
    -- M4
    ∷ "a_//" gives "1 0 4 0\n18 4 4 0\n"
    -- M5
    ∷ "_+" gives "1 0 1 0\n2 1 2 0\n18 2 2 0\n"
    ∷ "__+" gives "1 0 3 0\n18 3 3 0\n"
    -- M6
    ∷ "=//" gives "2 0 1 0\n18 3 3 0\n"
    ∷ "= //" gives "43 0 1 0\n18 4 4 0\n"
    -- M7
    ∷ "\n/**/x" gives "17 0 1 0 0\n1 5 6 1\n18 6 6 0\n"
    ∷ "\n/**/\nx" gives "17 0 1 0 0\n17 5 6 0 1\n1 6 7 0\n18 7 7 0\n"
    -- M8
    ∷ "\"\"\"a\"\"\"\"" gives "6 0 8 0 3 5\n18 8 8 0\n"
    ∷ "\"\"\"\"a\"\"\"" gives "6 0 8 0 4 5\n18 8 8 0\n"
    -- M9
    ∷ "'''" gives "7 0 3 0\n18 3 3 0\n"
    ∷ "''" gives "refused 16 at 1\n"
    -- M10
    ∷ "a\"\\\"" gives "6 0 4 0 0 4\n18 4 4 0\n"
    ∷ "\"\\\"" gives "refused 7 at 3\n"
    -- M11
    ∷ "/*/" gives "refused 2 at 0\n"
    ∷ "/*/**/*/" gives "18 8 8 0\n"
    -- M12
    ∷ "一" gives "refused 3 at 0\n"
    ∷ "a一" gives "1 0 4 0\n18 4 4 0\n"
    ∷ []

pub marked-hold : IsTrue (holdBy listed marked)
unfolding listed
marked-hold = refl

-- the listing's own example
abbrev pub listingExample : List Example
listingExample = "x = 7 // n\n\"a\"" gives "1 0 1 0\n43 2 3 0\n4 4 5 0 7\n17 10 11 0 1\n6 11 14 0 12 13\n18 14 14 0\n" ∷ []

-- RULES, "Refusals of a piece": the examples
abbrev pub refusalExamples : List Example
refusalExamples =
    "a\rb" gives "refused 1 at 1\n"
    ∷ "x /* /* */" gives "refused 2 at 2\n"
    ∷ "a€" gives "refused 3 at 1\n"
    ∷ "`ab" gives "refused 4 at 0\n"
    ∷ "``" gives "refused 5 at 0\n"
    ∷ "7+2147483648" gives "refused 6 at 2\n"
    ∷ "\"str" gives "refused 7 at 4\n"
    ∷ "\"a\n" gives "refused 8 at 2\n"
    ∷ "\"\"\"a\"" gives "refused 9 at 5\n"
    ∷ "\"\"\"a\\" gives "refused 10 at 4\n"
    ∷ "s\"${" gives "refused 11 at 2\n"
    ∷ "\"\\" gives "refused 12 at 2\n"
    ∷ "\"\\u12G4\"" gives "refused 13 at 5\n"
    ∷ "\"\\\\\"" gives "refused 14 at 2\n"
    ∷ "'\\nx" gives "refused 15 at 3\n"
    ∷ "'(x" gives "refused 16 at 1\n"
    ∷ []

-- RULES, "The first refusal": where two are met at one place, 12 to 14 go before 7 and 8; else the first from the left
abbrev pub tieExamples : List Example
tieExamples =
    "\"\\\n" gives "refused 14 at 2\n"
    ∷ "\"\\u1\n" gives "refused 13 at 4\n"
    ∷ "\"\\u" gives "refused 13 at 3\n"
    ∷ "\"\\x\n" gives "refused 14 at 2\n"
    ∷ "\"\n\\x" gives "refused 8 at 1\n"
    ∷ []

-- RULES, "Traps": U+2170 starts and never goes on; digit escapes that stop at an 8; a cut that a later line end clears
abbrev pub traps : List Example
traps =
    "ⅰ" gives "1 0 3 0\n18 3 3 0\n"
    ∷ "aⅰ" gives "1 0 1 0\n1 1 4 0\n18 4 4 0\n"
    ∷ "'\\189'" gives "7 0 6 0\n18 6 6 0\n"
    ∷ "\n/**/ /**/\nx" gives "17 0 1 0 0\n17 10 11 0 1\n1 11 12 1\n18 12 12 0\n"
    ∷ []

-- RULES, "Operator sign": what the table lets in, and what stays out
abbrev pub signs : List Example
signs =
    "a≤b" gives "1 0 1 0\n2 1 4 0\n1 4 5 0\n18 5 5 0\n"
    ∷ "x_∪" gives "1 0 5 0\n18 5 5 0\n"
    ∷ "=≤" gives "2 0 4 0\n18 4 4 0\n"
    ∷ "'≤'" gives "7 0 5 0\n18 5 5 0\n"
    ∷ "'≤" gives "7 0 4 0\n18 4 4 0\n"
    ∷ "';≤" gives "refused 16 at 1\n"
    ∷ "⁄*" gives "2 0 4 0\n18 4 4 0\n"
    ∷ "xⒶ" gives "1 0 1 0\n2 1 4 0\n18 4 4 0\n"
    ∷ "€" gives "refused 3 at 0\n"
    ∷ []

pub examples-hold : IsTrue (holdBy listed (listingExample ++ refusalExamples ++ tieExamples ++ traps ++ signs))
unfolding listed
examples-hold = refl

-- The bound on the record bytes is met: the empty script needs all 13 of it, and `1` all 30. `Examples` in `entry` asks for it too.
pub none-met : needed (script "") ≡ mostNeed 0
unfolding needed recordBytes recordLength values le4
none-met = refl

pub one-met : needed (script "1") ≡ mostNeed 1
unfolding needed recordBytes recordLength values le4
one-met = refl
