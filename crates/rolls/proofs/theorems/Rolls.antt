-- What is proved of every roll: specs/Theorems.RollTheorems.
use Prim.Native.Nat.{ℕ}
use mathlib.Core.List.{List}
use lib.ListN.{length}
use Rattle.words.specs.Joins.{Bytes}
use Rattle.token.proofs.theorems.Bounded.{all-bounded, in-order, last-eof}
use Rattle.rolls.specs.Theorems.{RollTheorems}
use Rattle.rolls.proofs.theorems.Examples.{roll-examples}
use Rattle.rolls.proofs.theorems.Steps.{steps}
use Rattle.rolls.proofs.theorems.Reading.{reads, onward, one-eof}
use Rattle.rolls.proofs.theorems.Tells.{tells-roll, tells-record, by-block}
use Rattle.rolls.proofs.theorems.Back.{back}
use Rattle.rolls.proofs.theorems.Written.{read-written}

pub roll-theorems : (roll : List ℕ) → Bytes roll → RollTheorems roll
roll-theorems roll b =
    record {
      steps = λ at previous x. steps roll b at previous x;
      reads = λ x. reads roll b x;
      tells-record = λ at previous block x. tells-record roll b at previous block x;
      tells-roll = λ block x. tells-roll roll b block x;
      onward = λ at previous next t e. onward roll b at previous next t e;
      by-block = λ at previous next t short e. by-block roll b at previous next t short e;
      written = λ script ts short h. read-written (length script) ts short (all-bounded script ts h) (in-order script ts h) (last-eof script ts h);
      back = λ ts e. back roll b ts e;
      one-eof = λ ts e. one-eof roll b ts e;
      examples = roll-examples;
    }
