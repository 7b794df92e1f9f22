-- The laws hold of whatever is decoded.
use Rattle.std.proofs.Common.{drop, arith}
use Rattle.chars.proofs.utf8.Stands.{stands}
use Rattle.chars.proofs.utf8.Widths.{width-most, width-within}
use Rattle.chars.proofs.theorems.Promises.{decoding}
use Rattle.chars.proofs.theorems.Encodes.{encoding-laws}
use Rattle.chars.proofs.utf8.decode.Goals as goal

pub returns-in_err-width-clause-decoding : goal.returns-in_err-width-clause-decoding
returns-in_err-width-clause-decoding c = decoding _ _

pub returns-in_err-width-clause-encoding_laws : goal.returns-in_err-width-clause-encoding_laws
returns-in_err-width-clause-encoding_laws c = encoding-laws

pub code_at-code-requires : goal.code_at-code-requires
code_at-code-requires c =
    let t = stands c.args.s.now c.args.at _ c.in_ok-width.ensures in
    let m = width-most (drop c.args.at c.args.s.now) in
    let l = width-within c.args.s.now c.args.at (omega (arith, t.within)) in
    record { some = omega (arith, t.is, t.least); most = omega (arith, t.is, m.0); within = omega (arith, t.is, l) }

pub returns-clause-decoding : goal.returns-clause-decoding
returns-clause-decoding c = decoding _ _

pub returns-clause-encoding_laws : goal.returns-clause-encoding_laws
returns-clause-encoding_laws c = encoding-laws
