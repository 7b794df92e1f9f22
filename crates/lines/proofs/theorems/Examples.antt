-- The examples hold: each is computed.
use mathlib.Core.Path.{refl}
use Rattle.chars.specs.paper.Utf8.{width, codeOf}
use Rattle.chars.specs.computed.Valid.{validFrom}
use Rattle.words.specs.Words.{le4, blockOf}
use Rattle.entry.specs.paper.TokenText.{hasText}
use Rattle.entry.specs.computed.Check.{checkOf}
use Rattle.lines.specs.computed.Lines.{countIn, startsIn, startsOf, lineCount, lfsBefore, columnFrom, lineAt, columnAt, searchIn, searchOf, columnSince}
use Rattle.lines.specs.computed.Host.{checkedOf, builtBy, indexSeen, foundIn, answeredBy, positionTold}
use Rattle.lines.specs.computed.Examples.{LineExamples}

pub line-examples : LineExamples
unfolding width codeOf validFrom le4 blockOf hasText countIn startsIn startsOf lineCount lfsBefore columnFrom lineAt columnAt searchIn searchOf columnSince checkOf checkedOf builtBy indexSeen foundIn answeredBy positionTold
line-examples = record {
  empty-script = refl;
  last-empty = refl;
  string-lines = refl;
  by-counting = refl;
  in-characters = refl;
  built-index = refl;
  too-short = refl;
  wrong-block = refl;
  not-utf8 = refl;
  asked = refl;
  asked-end = refl;
  past-end = refl;
  within-character = refl;
  short-index = refl;
  other-numbers = refl;
}
