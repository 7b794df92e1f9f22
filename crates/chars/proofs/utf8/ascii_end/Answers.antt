use Rattle.std.proofs.Common.{[], ◌∷◌, ap, sym, ◌∙◌, ◌+◌, arith}
use Rattle.chars.specs.paper.Ranges.{◌to◌}
use Rattle.chars.specs.code.Utf8.{isAscii, rowsOver}
use Rattle.chars.proofs.runs.Laws.{run-stops}
use Rattle.chars.proofs.utf8.Widths.{ascii, ascii_more, ascii_run, many-rest, rows_end}
use Rattle.chars.proofs.utf8.ascii_end.Goals as goal

pub returns-then-not-byte_in : goal.returns-then-not-byte_in
returns-then-not-byte_in c = rows_end (0x00 to 0x7F ∷ []) c.args.s.now c.args.at (sym c.if-not-byte_in.ensures)

pub returns-in-Some-eq0 : goal.returns-in-Some-eq0
returns-in-Some-eq0 c =
    let s = c.args.s.now in
    let o = c.in-Some-eq0.ensures in
    c.run_end.ensures ∙ ascii_run s c.skip_many.result ∙ ap (rowsOver (ascii s) s) c.skip_many.ensures ∙ many-rest s _
    ∙ ascii_more s 16 c.args.at o.within (sym o.mask ∙ c.in-Some-eq0.field-0-test)

pub returns-in-Some : goal.returns-in-Some
returns-in-Some c =
    let s = c.args.s.now in
    let o = c.in-Some.ensures in
    ap (λ n. c.args.at + n) (sym (run-stops isAscii 16 s c.args.at o.within (omega arith) c.in-Some.outside o.mask (omega arith))) ∙ ascii_run s c.args.at

pub returns-in-None : goal.returns-in-None
returns-in-None c = c.run_end-in-None.ensures ∙ ascii_run c.args.s.now c.args.at
