-- The loop keeps the digits that it passed and their value, modulo 2^64.
use Rattle.token.proofs.cursor.Words.{ℕ, ◌+◌, ◌%◌, ◌^◌, ◌≤◌, ◌<◌, ◌≡◌, true, length, get_or, digitIn}
use Rattle.token.proofs.digits.Runs.{valueTo}
use Rattle.token.proofs.digits.digit_run.Given as goal

abbrev pub invariant-loop : goal.invariant-loop
invariant-loop g l = record {
  place : l.i ≡ l.at + l.counter;
  within : l.i ≤ length l.s;
  digits : (k : ℕ) → l.at ≤ k → k < l.i → digitIn g.row.BASE (get_or l.s k 0) ≡ true;
  value : l.value ≡ valueTo g.row.BASE l.s l.at l.i % 2 ^ 64;
}
