-- RULES, "Listing": the listing of a script, kind, start, end, cut and values of each token, or `refused N at P`.
use Rattle.std.specs.Prelude.{ℕ, List, [], length}
use Rattle.words.specs.Words.{le2, le4, le8, blockOf, Told}
use Rattle.chars.specs.computed.Valid.{validFrom}
use Rattle.token.specs.paper.Records.{values, recordLength, fieldsOf, headOf, recordOf, records, recordBytes, countsOf, mostNeed}
use Rattle.token.specs.computed.Listing.{shown, refusedAt, listed}
use Rattle.entry.specs.declared.limits.Limits.{Limits}
use Rattle.entry.specs.paper.Limits.{compiler}
use Rattle.entry.specs.paper.Host.{Seen}
use Rattle.chars.specs.paper.Classes.{isMark}
use Rattle.chars.specs.computed.Marks.{firstMark}
use Rattle.entry.specs.computed.Check.{checkOf, markOf, cleanOf}
use Rattle.entry.specs.computed.Host.{Verdict, granted, rejected, lacking, byRoom, verdict, seenOf, hostFor}
use Rattle.entry.specs.computed.Measure.{toldOf, measureTold}

-- By the verdict, so that the order of the refusals stands once. The last line stands for a case that cannot come: `listingOf` lends enough.
unfoldable pub verdictText : Verdict → List ℕ
verdictText (granted ts) = shown ts
verdictText (rejected j a) = refusedAt j a
verdictText (lacking ts) = []

-- As many bytes are lent as a script needs at most, so that 19 is not met: N is 17, 18, 29, or one of 1 to 16.
unfoldable pub listingOf : List ℕ → List ℕ
listingOf script = verdictText (verdict compiler script (mostNeed (length script)))

-- Where these are unfolded, all of the computed definition is: the listing of any script, what a host sees, and what one is told that measures.
unfoldable pub entered : List ℕ → List ℕ
unfolding listed validFrom values recordLength recordBytes le4 le8 byRoom verdict verdictText listingOf checkOf markOf cleanOf firstMark isMark
entered script = listingOf script

unfoldable pub hosted : Limits → List ℕ → List ℕ → List ℕ → Seen
unfolding listed validFrom values recordLength recordBytes le2 le4 le8 byRoom verdict fieldsOf headOf recordOf records blockOf seenOf hostFor checkOf markOf cleanOf firstMark isMark
hosted limits s buffer answerBlock = hostFor limits s buffer answerBlock

unfoldable pub measuring : List ℕ → List ℕ → Told
unfolding listed validFrom values recordLength recordBytes countsOf le2 le4 le8 byRoom verdict blockOf toldOf measureTold checkOf markOf cleanOf firstMark isMark
measuring s answerBlock = measureTold s answerBlock
