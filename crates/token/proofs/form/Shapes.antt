-- The forms of kinds with values by their parts, and what of them is stored.
use Rattle.token.proofs.cursor.Words.{ℕ, ◌+◌, ◌≡◌, refl, Bool, cond, List, length, sets, leb, kindNumber, valuesOf, values, intLength, longLength, strLength, lineLength, recordLength, joined, formOf, storedIf, le4, le8, TokenKind}
use Rattle.token.specs.declared.kinds.TokenKind.TheVariants as tk
use Rattle.token.proofs.form.Stores.{length-bytes}
use Rattle.token.proofs.form.Laws.{known, length-form}

-- ---- lengths

pub line-size : (mark : Bool) → lineLength ≡ recordLength (tk.Newline mark)
unfolding recordLength values
line-size mark = refl

pub str-size : (a e : ℕ) → strLength ≡ recordLength (tk.Str a e)
unfolding recordLength values le4
str-size a e = refl

pub int-size : (v : ℕ) → intLength ≡ recordLength (tk.IntLit v)
unfolding recordLength values le4
int-size v = refl

pub long-size : (v : ℕ) → longLength ≡ recordLength (tk.LongLit v)
unfolding recordLength values le8 le4
long-size v = refl

-- a form by its parts
pub form-by : (k : TokenKind) → formOf k ≡ record { number = kindNumber k; length = recordLength k; values = joined (valuesOf k) }
unfolding formOf
form-by k = refl

pub ruleset forms = (form-by, line-size, str-size, int-size, long-size, known)

-- what fits is stored, and nothing else
pub stored-if : (out : List ℕ) (w : ℕ) (bytes : List ℕ) → storedIf out w bytes ≡ cond (leb (w + length bytes) (length out)) (sets out w bytes) out
unfolding storedIf
stored-if out w bytes = refl

pub ruleset fitting = (stored-if, length-bytes, length-form)
