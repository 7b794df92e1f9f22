-- Eof, by test and by number.
use mathlib.Core.Path.{◌≡◌, sym, ◌∙◌, ap}
use mathlib.Core.Bool.{true, false}
use native.Mathlib.Omega.{arith}
use borrow.Author.Tests.{eqb-true, ne_eqb}
use Rattle.chars.proofs.Bools.{clash}
use Rattle.token.specs.paper.Kinds.{kindNumber}
use Rattle.token.specs.declared.kinds.TokenKind.{TokenKind}
use Rattle.token.specs.declared.kinds.TokenKind.TheVariants as tk
use Rattle.rolls.specs.computed.Roll.{kindFor, isEof}
use Rattle.rolls.proofs.theorems.Kinds.{Carries, int, long, content, mark, nothing, carries}

eighteen : {k : TokenKind} → Carries k → kindNumber k ≡ 18 → k ≡ tk.Eof
unfolding kindFor
eighteen (int v) q = absurd (omega arith)
eighteen (long v) q = absurd (omega arith)
eighteen (content a e) q = absurd (omega arith)
eighteen (mark b) q = absurd (omega arith)
eighteen (nothing k n l b) q = sym (b 0) ∙ ap (λ m. kindFor m 0) q

-- a kind with the number 18 is Eof
pub number-eof : (k : TokenKind) → kindNumber k ≡ 18 → k ≡ tk.Eof
number-eof k q = eighteen (carries k) q

-- Eof is the one kind that passes the test
pub is-eof : (k : TokenKind) → isEof k ≡ true → k ≡ tk.Eof
is-eof k e = number-eof k (eqb-true (kindNumber k) 18 e)

-- what fails it is not Eof
pub not-eof : (k : TokenKind) → isEof k ≡ false → k ≡ tk.Eof → ⊥
not-eof k e q = clash (sym e ∙ ap isEof q)

-- and what is not Eof fails it
pub other-kind : (k : TokenKind) → (k ≡ tk.Eof → ⊥) → isEof k ≡ false
other-kind k h = ne_eqb (kindNumber k) 18 (λ q. h (number-eof k q))
