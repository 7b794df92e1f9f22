-- A character is at most 4 bytes wide, so that the shift loses no bit.
use Rattle.std.proofs.Common.{ℕ, ◌≡◌, ◌∙◌, sym, refl, rules, arith, List, Some}
use Rattle.std.proofs.lemmas.Grind.{or_after_shift}
use Rattle.chars.specs.declared.utf8.Decoded.{Decoded}
use Rattle.chars.specs.code.Utf8.{decoded, decodeAt}
use Rattle.chars_host.proofs.chars_decode.Goals as goal

-- what is handed back has the classes of its code
whole : (s : List ℕ) (i : ℕ) (d : Decoded) → Some d ≡ decodeAt s i → decoded d.code d.width ≡ decodeAt s i
unfolding decodeAt
whole s i d e = grind arith

pub returns-in-Some : goal.returns-in-Some
returns-in-Some c =
    let d = c.in-Some.field-0 in
    let e : Some d ≡ decodeAt c.args.s.now c.args.at = sym c.in-Some.is ∙ c.decode.ensures.value in
    let l = c.decode.ensures.decoding.widths d.code d.width (whole c.args.s.now c.args.at d e) in
    rw (← e, c.from.ensures) (or_after_shift d.width 0x100000000 0x10000000000000000 d.code refl (search rules) (omega (arith, l)))
