-- How long a listing's text can be.
use Rattle.std.proofs.Common.{ℕ, zero, suc, ◌≡◌, ◌+◌, ◌*◌, ◌/◌, ◌%◌, ◌≤◌, List, [], ◌∷◌, ◌++◌, length, drop, arith, length-append, length-drop}
use Rattle.std.proofs.Common.{take, refl, inl, inr}
use Rattle.std.proofs.lemmas.List.{length-take}
use Rattle.std.proofs.lemmas.Bool.{cases_lt}
use Rattle.words.specs.Words.{fourAt}
use Rattle.chars.specs.paper.Quoted.{codes}
use Rattle.token.specs.paper.Records.{records, recordBytes}
use Rattle.token.proofs.theorems.Alone.{records-length}
use Rattle.entry.specs.paper.Limits.{compiler}
use Rattle.entry.specs.paper.Host.{Seen, seen, bufferSeen, Sees}
use Rattle.entry.specs.computed.Host.{hostOf}
use Rattle.entry.proofs.theorems.Hosts.{sees-host}
use Rattle.listing_text.specs.Lines.{answerText, zeros, mostScript, recordsRoom, printed, caseText}
use Rattle.listing_text.proofs.AnswerLaws.{zeros-length, long-text, short-text}
use Rattle.token.specs.code.Form.{heldAt}
use Rattle.token.specs.computed.Listing.{decimalFor, decimal, spaced, refusedAt}
use Rattle.token.specs.declared.form.Held.{Held}
use Rattle.listing_text.specs.Lines.{lengthHere, heldValues, headText, valuesText, lineText, linesFor, recordLines}
use Rattle.listing_text.proofs.LineLaws.{at-least, within}

-- ---- a number, and a line

digits-short : (f n : ℕ) (t : List ℕ) → length (decimalFor f n t) ≤ f + length t
unfolding decimalFor
digits-short zero n t = omega arith
digits-short (suc f) n t = grind (arith, digits-short f (n / 10) ((0x30 + n % 10) ∷ t))

pub decimal-short : (n : ℕ) → length (decimal n) ≤ 20
decimal-short n = digits-short 20 n []

spaced-more : (v : ℕ) (vs : List ℕ) → length (spaced (v ∷ vs)) ≤ 21 + length (spaced vs)
spaced-more v vs = omega (arith, decimal-short v, length-append (decimal v) (spaced vs))

values-short : (kind values : ℕ) → length (spaced (heldValues kind values)) ≤ 42
unfolding heldValues
values-short kind values =
    let one = spaced-more values [] in
    let first = spaced-more (values % 4294967296) (values / 4294967296 ∷ []) in
    let second = spaced-more (values / 4294967296) [] in
    grind arith

line-short : (held : Held) → length (lineText held) ≤ 126
unfolding lineText headText valuesText
line-short held =
    let kind = decimal-short held.number in
    let start = spaced-more held.start (held.end ∷ held.cut ∷ []) in
    let end = spaced-more held.end (held.cut ∷ []) in
    let cut = spaced-more held.cut [] in
    let values = values-short held.number held.values in
    let head = length-append (decimal held.number) (spaced (held.start ∷ held.end ∷ held.cut ∷ [])) in
    let front = length-append (headText held) (valuesText held) in
    let all = length-append (headText held ++ valuesText held) (10 ∷ []) in
    omega (arith, kind, start, end, cut, values, head, front, all)

-- ---- all lines

lines-short : (f : ℕ) (b : List ℕ) → length (linesFor f b) ≤ 10 * length b
unfolding linesFor
lines-short zero b = omega arith
lines-short (suc f) b =
    let n = lengthHere b in
    let line = line-short (heldAt b 0) in
    let others = lines-short f (drop n b) in
    let rest = length-drop n b in
    let all = length-append (lineText (heldAt b 0)) (linesFor f (drop n b)) in
    grind (arith, at-least, within, line, others, rest, all)

pub records-short : (b : List ℕ) → length (recordLines b) ≤ 10 * length b
unfolding recordLines
records-short b = lines-short (length b) b

refused-short : (j a : ℕ) → length (refusedAt j a) ≤ 53
unfolding refusedAt
refused-short j a =
    let number = decimal-short j in
    let place = decimal-short a in
    let first = length-append (decimal j) (codes " at ") in
    let second = length-append (decimal j ++ codes " at ") (decimal a) in
    let third = length-append (decimal j ++ codes " at " ++ decimal a) (codes "\n") in
    omega (arith, number, place, first, second, third)

-- ---- the text of a script

answer-short : (x : Seen) → 6 ≤ length (bufferSeen x) → length (answerText x) ≤ 10 * length (bufferSeen x)
unfolding answerText
answer-short (seen number records block) least =
    let lines = records-short (take (fourAt block 12) records) in
    let part = length-take (fourAt block 12) records in
    let refused = refused-short number (fourAt block 4) in
    grind (arith, lines, part, refused)

same-room : {script buffer block : List ℕ} {x : Seen} → Sees compiler script buffer block x → length (bufferSeen x) ≡ length buffer
same-room (Sees.twenty z) = refl
same-room (Sees.rejected e h) = refl
same-room (Sees.nineteen e r l) = refl
same-room {script} {buffer} (Sees.accepted {ts} e r l) =
    omega (arith, length-append (records ts) (drop (recordBytes ts) buffer), records-length ts, length-drop (recordBytes ts) buffer)

-- at most ten times what is lent for the records
pub printed-short : (script : List ℕ) → length (printed script) ≤ 10 * recordsRoom
printed-short script =
    let x = hostOf script (zeros recordsRoom) (zeros 16) in
    let room = same-room (sees-host compiler script (zeros recordsRoom) (zeros 16)) in
    let lent = zeros-length recordsRoom in
    let short = answer-short x (omega (arith, room, lent)) in
    elim (cases_lt mostScript (length script)) [
      | inl h ↦ rw (long-text script h) (omega arith)
      | inr h ↦ rw (← short-text script h) (omega (arith, room, lent, short))
    ]

pub case-short : (number : ℕ) (script : List ℕ) → length (caseText number script) ≤ 510154
unfolding caseText
case-short number script =
    let head = decimal-short number in
    let rest = printed-short script in
    let first = length-append (decimal number) (codes "\n") in
    let second = length-append (decimal number ++ codes "\n") (printed script) in
    omega (arith, head, rest, first, second)

pub ruleset sizes = (printed-short, case-short)
