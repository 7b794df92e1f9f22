-- How many record bytes a contact needs at most.
use Prim.Native.Nat.{◌+◌, ◌*◌, ◌≤◌}
use mathlib.Core.Path.{ap, ◌∙◌}
use mathlib.Core.List.{List}
use native.Mathlib.Omega.{arith}
use Rattle.token.specs.paper.Kinds.{Token}
use Rattle.token.specs.paper.Reading.{OnlyLastEof}
use Rattle.token.specs.paper.Records.{headLength, longLength, recordLength, tokenCount, recordBytes}
use Rattle.token.proofs.records.Measures.{record-most, eof-length}
use Rattle.entry.specs.paper.Limits.{contactNeed}

-- Each record has at most a LongLit's length, and Eof's is a head.
need-by : {ts : List Token} → OnlyLastEof ts → recordBytes ts + longLength ≤ longLength * tokenCount ts + headLength
unfolding recordBytes
need-by (OnlyLastEof.eof {t} e) = let l = ap recordLength e ∙ eof-length in omega arith
need-by (OnlyLastEof.other {t} {ts} e h) = let l = record-most t.kind in let n = need-by h in omega arith

pub contact-need : (ts : List Token) → OnlyLastEof ts → tokenCount ts ≤ 512 → recordBytes ts ≤ contactNeed
contact-need ts h f = let n = need-by h in omega arith
