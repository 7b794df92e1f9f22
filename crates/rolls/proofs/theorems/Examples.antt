-- The examples hold: each is computed.
use mathlib.Core.Path.{refl}
use Rattle.words.specs.Words.{le4, le8, twoAt, fourAt, eightAt, blockOf}
use Rattle.token.specs.paper.Records.{values}
use Rattle.token.specs.code.Form.{valuesAt, heldAt}
use Rattle.rolls.specs.paper.Host.{tokenBlock, stopBlock}
use Rattle.rolls.specs.computed.Roll.{lengthFor, isKind, keywordFor, kindFor, tokenOf, badValues, isWrong, stepHeld, readAt, readIn, readFrom, readRoll}
use Rattle.rolls.specs.computed.Host.{rollTold, recordTold}
use Rattle.rolls.specs.computed.Examples.{RollExamples}

pub roll-examples : RollExamples
unfolding le4 le8 twoAt fourAt eightAt blockOf values valuesAt heldAt tokenBlock stopBlock lengthFor isKind keywordFor kindFor tokenOf badValues isWrong stepHeld readAt readIn readFrom readRoll rollTold recordTold
roll-examples =
    record {
      whole-rolls = refl;
      cut-short = refl;
      few-first = refl;
      no-such = refl;
      byte-range = refl;
      out-of-order = refl;
      content-range = refl;
      joined-rolls = refl;
      told-roll = refl;
      told-record = refl;
      told-past = refl;
      told-roll-twenty = refl;
      told-twenty = refl;
    }
