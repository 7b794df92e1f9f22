-- The number of a sign's kind.
use Rattle.std.specs.Prelude.{ℕ, if◌then◌else◌, [], ◌∷◌}
use Rattle.chars.specs.paper.Quoted.{oneOf}
use Rattle.token.specs.paper.Kinds.{kindNumber}
use Rattle.token.specs.computed.Answer.{signOf}

-- the number of a sign's kind; 0 for any other byte
unfoldable pub signNumber : ℕ → ℕ
signNumber b = if oneOf "()[]{},;." b then kindNumber (signOf (record { code = b; at = 0 } ∷ [])) else 0
