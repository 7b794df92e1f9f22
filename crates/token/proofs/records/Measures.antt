-- Measuring and writing, turn by turn.
use Rattle.token.proofs.cursor.Words.{ℕ, ◌≤◌, ◌≡◌, refl, sym, ap, Bool, Ok, List, [], ◌∷◌, length, sets, arith, from, Token, fresh, Answer, tokenized, refused, prepend, answer, values, headLength, lineLength, recordLength, records, mostLength, le4, le8, Need, needAfter, withToken, measuredAfter, tokensIn, Fits, answerOf, begun, trailFrom, storedFrom, TokenKind, refusedBy}
use Rattle.token.specs.declared.kinds.TokenKind.TheVariants as tk
use Rattle.token.proofs.lexer.Trails.{trail-answer, tokens-on, stores-fit}

pub record-most : (k : TokenKind) → recordLength k ≤ mostLength
unfolding recordLength values le4 le8
record-most tk.Eof = omega arith
record-most _ = omega arith

pub record-least : (k : TokenKind) → headLength ≤ recordLength k
unfolding recordLength
record-least k = omega arith

pub newline-length : (mark : Bool) → recordLength (tk.Newline mark) ≡ lineLength
unfolding recordLength values
newline-length mark = refl

pub eof-length : recordLength tk.Eof ≡ headLength
unfolding recordLength values
eof-length = refl

-- ---- measuring

pub measured-turn : (v w : Answer) (t : Token) (n : Need) → v ≡ prepend t w → measuredAfter (withToken n t) w ≡ measuredAfter n v
unfolding measuredAfter needAfter
measured-turn v (tokenized ts) t n e = ap (measuredAfter n) (sym e)
measured-turn v (refused j a) t n e = ap (measuredAfter n) (sym e)

pub measured-end : (v : Answer) (t : Token) (n : Need) → v ≡ tokenized (t ∷ []) → Ok (withToken n t) ≡ measuredAfter n v
unfolding measuredAfter needAfter
measured-end v t n e = ap (measuredAfter n) (sym e)

pub measured-stop : (v : Answer) (j a : ℕ) (n : Need) → v ≡ refused j a → refusedBy j a ≡ measuredAfter n v
unfolding measuredAfter
measured-stop v j a n e = ap (measuredAfter n) (sym e)

-- ---- the whole script

pub begun-answer : (s : List ℕ) → answerOf (trailFrom s begun) ≡ answer s
unfolding answer
begun-answer s = trail-answer (length s) 0 fresh (from s 0)

-- where all records fit, the buffer is brought to them
pub begun-fits : (s out : List ℕ) → Fits (answer s) (length out) → storedFrom s begun out ≡ sets out 0 (records (tokensIn (answer s)))
begun-fits s out f = let q = tokens-on (trailFrom s begun) in let e = begun-answer s in grind (arith, stores-fit)

pub ruleset fitted = (begun-fits)
