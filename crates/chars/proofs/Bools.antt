-- Three facts about tests, of no definition of this crate.
use Rattle.std.proofs.Common.{◌≡◌, Bool, true, false, ◌&&◌, ◌||◌}
use Rattle.std.proofs.lemmas.Bool.{false≢true, and_parts, or_parts}

pub clash : {A : Type 0} → false ≡ true → A
clash e = absurd (false≢true e)

pub and-both : (p q : Bool) → p && q ≡ true → (p ≡ true) × (q ≡ true)
and-both = and_parts

pub or-neither : (p q : Bool) → p || q ≡ false → (p ≡ false) × (q ≡ false)
or-neither = or_parts
