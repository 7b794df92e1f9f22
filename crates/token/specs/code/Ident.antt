-- What the readers of `ident` answer.
use Rattle.std.specs.Prelude.{ℕ, ◌+◌, Bool, if◌then◌else◌, not, ◌&&◌, List, slice_index, ◌==◌}
use Rattle.std.proofs.Math.Option.{Option, none}
use Rattle.chars.specs.paper.Quoted.{oneOf}
use Rattle.chars.specs.paper.Text.{Text}
use Rattle.token.specs.paper.Kinds.{runOf}
use Rattle.token.specs.paper.Tests.{opSign, freeSign, opensComment}
use Rattle.token.specs.computed.Answer.{codesTo}
use Rattle.token.specs.code.ByteClass.{classAt, slashClass, isSign}
use Rattle.token.specs.declared.kinds.Kw.{Kw}

-- an operator sign; where it has to be free, no comment begins with it
abbrev pub signIn : Bool → Text → Bool
signIn free = if free then freeSign else opSign

-- one of ASCII, by its class and the byte behind it
abbrev pub asciiSign : Bool → List ℕ → ℕ → Bool
asciiSign free s j = isSign (classAt s j) && not (free && (classAt s j == slashClass && oneOf "*/" (slice_index s (j + 1))))

-- the keyword of the operator from a text to what is left of it; directly before a comment it is none
abbrev pub runBefore : Text → Text → Option Kw
runBefore t r = if opensComment r then none else runOf (codesTo t r)
