-- Laws of the definitions of specs/Cases.antt.
use Prim.Native.Nat.{ℕ, ◌-◌, ◌≤◌}
use mathlib.Core.Path.{◌≡◌, sym, ◌∙◌, ap}
use mathlib.Core.Bool.{Bool, true, false, false≢true}
use mathlib.Core.Logic.{◌↔◌}
use mathlib.Core.List.{List, ◌++◌}
use lib.ListN.{length, take, drop, replicate, length-drop, take-append-drop}
use lib.Seq.{length-take-le, take_all, take-append_seam, drop-append_seam}
use native.Mathlib.Omega.{arith}
use Rattle.entry.specs.declared.limits.Limits.{Limits}
use Rattle.entry.specs.computed.Host.{hostFor}
use Rattle.cases.specs.Cases.{untouched}
use Rattle.std.proofs.lemmas.List.{take-replicate}
use Rattle.replay.specs.Cases.{recordsIn, mostRoom, seenLent}

-- ---- untouched bytes

pub take-untouched : (n m : ℕ) → n ≤ m → take n (untouched m) ≡ untouched n
unfolding untouched
take-untouched n m h = take-replicate n m 0xA5 h

-- the first of them
module _ (room : ℕ) {space : List ℕ} (clean : space ≡ untouched mostRoom) (size : mostRoom ≡ length space) (most : room ≤ mostRoom) where
  pub part-length : length (take room space) ≡ room
  part-length = length-take-le room space (omega arith)

  pub part_untouched : take room space ≡ untouched (length (take room space))
  part_untouched = ap (take room) clean ∙ take-untouched room mostRoom most ∙ ap untouched (sym part-length)

pub ruleset part = (part-length, part_untouched)

-- ---- records in lent bytes

module _ (lent records : List ℕ) where
  -- others stand there
  pub holds-off : (take (length records) lent ≡ records → ⊥) → (false ≡ true) ↔ (lent ≡ recordsIn records (length lent))
  holds-off off =
      (λ e. absurd (false≢true e), λ e. absurd (off (ap (take (length records)) e ∙ take-append_seam records (untouched (length lent - length records)))))

  -- these do, and the rest decides
  pub holds-is : {r : Bool} {fresh : List ℕ} → take (length records) lent ≡ records → fresh ≡ untouched mostRoom → length lent ≤ mostRoom
      → (r ≡ true) ↔ (take (length lent - length records) (drop (length records) lent) ≡ take (length lent - length records) fresh)
      → (r ≡ true) ↔ (lent ≡ recordsIn records (length lent))
  holds-is front clean most is =
      let rest = take_all (length lent - length records) (drop (length records) lent) (omega (arith, length-drop (length records) lent)) in
      let over = ap (take (length lent - length records)) clean ∙ take-untouched (length lent - length records) mostRoom (omega arith) in (
        λ y. sym (take-append-drop (length records) lent) ∙ ap (λ l. l ++ drop (length records) lent) front ∙ ap (λ l. records ++ l) (sym rest ∙ is.0 y ∙ over),
        λ e. is.1 (rest ∙ ap (drop (length records)) e ∙ drop-append_seam records (untouched (length lent - length records)) ∙ sym over),
      )

-- ---- what a host sees

-- with untouched bytes lent
pub seen_lent : (limits : Limits) (script lent : List ℕ) → lent ≡ untouched (length lent)
    → hostFor limits script lent (replicate 16 0xA5) ≡ seenLent limits script (length lent)
unfolding seenLent untouched
seen_lent limits script lent clean = ap (λ l. hostFor limits script l (replicate 16 0xA5)) clean
