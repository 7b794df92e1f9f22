-- RULES, "Texts and places": "All that follows speaks of characters, each with its code and the place of its first byte. The text from a place
-- on is the list of characters from there to the script's end; a piece stands between two such texts, so it never ends inside a character."
use Rattle.std.specs.Prelude.{ℕ, zero, suc, ◌-◌, Bool, false, List, [], ◌∷◌, drop}
use Rattle.chars.specs.paper.Utf8.{width, codeOf}
use Rattle.chars.specs.paper.Classes.{classesOf}

pub record Char : Type 0 where
  pub code : ℕ
  pub at : ℕ

abbrev pub Text : Type 0
Text = List Char

-- The characters of bytes that begin at the place i, after k bytes that belong to the character before. "For scripts that are not well-formed, a
-- byte with which no well-formed character begins counts as a character of its own value; nothing follows from that, since such a script is
-- refused by 18 before any piece is looked at."
unfoldable pub charsAt : ℕ → ℕ → List ℕ → Text
charsAt i k [] = []
charsAt i (suc k) (a ∷ s) = charsAt (suc i) k s
charsAt i zero (a ∷ s) = record { code = codeOf (width (a ∷ s)) (a ∷ s); at = i } ∷ charsAt (suc i) (width (a ∷ s) - 1) s

-- the script's text from the place i on
unfoldable pub from : List ℕ → ℕ → Text
from script i = charsAt i 0 (drop i script)

-- the place of what is left, in a script of n bytes
abbrev pub place : ℕ → Text → ℕ
place n [] = n
place n (c ∷ s) = c.at

-- does the text begin with a character of the class?
abbrev pub headIs : (ℕ → Bool) → Text → Bool
headIs p [] = false
headIs p (c ∷ s) = p c.code

abbrev pub idStart : Text → Bool
idStart s = headIs (λ c. (classesOf c).idStart) s

abbrev pub idChar : Text → Bool
idChar s = headIs (λ c. (classesOf c).idChar) s
