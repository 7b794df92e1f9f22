-- Two descriptions of a number in base ten agree: that of the listing as it is declared, and the standard library's.
use Prim.Native.Nat.{ℕ, ◌<◌}
use mathlib.Core.Path.{◌≡◌, sym, ◌∙◌}
use mathlib.Core.List.{[], append-nil}
use native.Mathlib.Omega.{arith}
use borrow.Author.Tests.{lt-ltb, le-ltb}
use Rattle.std.specs.Fmt.{decimal as written}
use Rattle.std.proofs.lemmas.Fmt.{PrependsLastDigit, decimal_from_prepends, length-decimal-le}
use Rattle.token.specs.computed.Listing.{decimalFor, decimal}

prepends : PrependsLastDigit decimalFor
unfolding decimalFor
prepends = record {
  one = λ k n acc h. simp (lt-ltb n 10 h);
  more = λ k n acc h. simp (le-ltb n 10 h);
}

pub decimal_written : (n : ℕ) → n < 18446744073709551616 → written n ≡ decimal n
decimal_written n h =
    sym (decimal_from_prepends decimalFor prepends 20 n [] h (length-decimal-le 20 n (omega arith) (omega arith) h) ∙ append-nil (written n))
