-- Runs of characters, computed.
use Rattle.std.specs.Prelude.{Bool, if◌then◌else◌, [], ◌∷◌}
use Rattle.chars.specs.paper.Text.{Text}

-- what follows the longest run of characters that pass the test, which sees the text from that character on
unfoldable pub afterRun : (Text → Bool) → Text → Text
afterRun p [] = []
afterRun p (c ∷ s) =
    let rest = afterRun p s in
    if p (c ∷ s) then rest else c ∷ s
