-- What `names` answers: where words and runs of operator signs end, of ASCII by the classes of their bytes, and of all characters.
use Rattle.std.specs.Prelude.{ℕ, ◌+◌, ◌-◌, Bool, not, ◌&&◌, ◌||◌, List, length, slice_index, ◌==◌, nat_lt}
use Rattle.chars.specs.paper.Text.{Text, idChar}
use Rattle.token.specs.paper.Tests.{isAny, opSign}
use Rattle.token.specs.code.Loops.{stepsWhile}
use Rattle.token.specs.code.ByteClass.{classAt}
use Rattle.token.specs.declared.names.Here.{Here}

-- a place with the class of the byte there
abbrev pub hereOf : List ℕ → ℕ → Here
hereOf s i = record { at = i; class = record { number = classAt s i } }

-- where the bytes that pass a test of their places end, which stand from i on: one after another, as many as the script has left
unfoldable pub bytesTo : (ℕ → Bool) → List ℕ → ℕ → ℕ
bytesTo test s i = stepsWhile test (λ j. j + 1) (length s - i) i

-- where the bytes of a class end that stand from i on
abbrev pub runTo : (ℕ → Bool) → List ℕ → ℕ → ℕ
runTo p s i = bytesTo (λ j. p (classAt s j)) s i

-- ---- words

-- a `_` stands last before e, and not at the start
abbrev pub lowBefore : List ℕ → ℕ → ℕ → Bool
lowBefore s start e = slice_index s (e - 1) == 0x5F && nat_lt start (e - 1)

-- an id character or `_`; an operator sign other than `/`
abbrev pub wordChar : Text → Bool
wordChar t = idChar t || isAny "_" t

abbrev pub runChar : Text → Bool
runChar t = opSign t && not (isAny "/" t)
