use Rattle.std.proofs.Common.{◌≡◌, ◌-◌, length, drop, arith, take_all, length-drop}
use Rattle.puts.proofs.Laws.{going-begun, going-turn, going-fails, going-end}
use Rattle.listing_text.specs.Lines.{lengthHere}
use Rattle.listing_text.proofs.LineLaws.{lines-none, lines-turn}
use Rattle.listing_text.proofs.lines.put_records.Goals as goal

pub loop-length-init : goal.loop-length-init
loop-length-init c = going-begun

pub returns-in_err-put_line : goal.returns-in_err-put_line
returns-in_err-put_line c =
    let b = c.loop-length.rest.now in
    let more : lengthHere b ≡ 0 → ⊥ = λ z. omega (arith, c.in-Some.ensures.some, c.in-Some.ensures.positive) in
    let before = rw (lines-turn b more) at c.loop-length.invariant in
    going-fails _ _ before _ c.from_residual.ensures.0 (rw c.read_record.ensures.value at c.in_err-put_line.ensures)

pub loop-length-preserved : goal.loop-length-preserved
loop-length-preserved c =
    let b = c.loop-length.rest.now in
    let n = c.in-Some.ensures.some in
    let more : lengthHere b ≡ 0 → ⊥ = λ z. omega (arith, n, c.in-Some.ensures.positive) in
    let before = rw (lines-turn b more) at c.loop-length.invariant in
    let past = take_all (length b - c.in-Some.length) (drop c.in-Some.length b) (omega (arith, length-drop c.in-Some.length b)) in
    rw (past, n) (going-turn _ _ before (rw c.read_record.ensures.value at c.in_ok-put_line.ensures))

pub returns : goal.returns
returns c = going-end (rw (lines-none c.loop-length.rest.now c.in_default.ensures.none) at c.loop-length.invariant)
