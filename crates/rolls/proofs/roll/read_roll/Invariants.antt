-- What is read from here on, behind the tokens so far, is what is read from the start. Each record has bytes.
use Rattle.std.proofs.Common.{◌≡◌, ◌≤◌, ◌-◌, length}
use Rattle.rolls.specs.computed.Roll.{readFrom, readRoll}
use Rattle.rolls.specs.code.Roll.{counted}
use Rattle.rolls.proofs.roll.read_roll.Given as goal

abbrev pub invariant-loop-found : goal.invariant-loop-found
invariant-loop-found l =
    record {
      total : counted l.count (readFrom l.roll l.c.at l.c.previous) ≡ counted 0 (readRoll l.roll);
      few : l.count ≤ l.c.at;
      within : l.c.at ≤ length l.roll;
    }

abbrev pub decreases-loop-found : goal.decreases-loop-found
decreases-loop-found l = length l.roll - l.c.at
