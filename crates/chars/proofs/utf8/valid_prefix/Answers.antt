-- What is checked is valid to its end, or as far as the error says.
use Rattle.chars.proofs.theorems.Promises.{valid-laws}
use Rattle.chars.proofs.theorems.StdUtf8.{std-laws}
use Rattle.chars.proofs.utf8.Valid.{valid}
use Rattle.chars.proofs.utf8.Marks.{prefix-all, prefix-bad}
use Rattle.chars.proofs.utf8.valid_prefix.Goals as goal

pub returns-in-Ok : goal.returns-in-Ok
returns-in-Ok c =
    let s = c.args.s.now in
    let e = prefix-all s _ c.in-Ok.ensures.value in
    record { value = e; longest = rw e (valid s); valid_laws = valid-laws; std_laws = std-laws }

pub returns-in-Err : goal.returns-in-Err
returns-in-Err c =
    let s = c.args.s.now in
    let e = prefix-bad s _ c.in-Err.ensures.value in
    record { value = e; longest = rw e (valid s); valid_laws = valid-laws; std_laws = std-laws }
