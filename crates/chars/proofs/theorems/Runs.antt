-- What a measured run says of each byte.
use Rattle.std.proofs.Common.{◌≡◌, ℕ, ◌+◌, ◌≤◌, Bool, true, false, ◌&&◌, List, length, drop, get_or, leb, sym, ◌∙◌, refl, arith, length-drop, leb-true, leb-false}
use Rattle.std.proofs.lemmas.List.Sums.{prefix_len-le-length}
use Rattle.std.specs.List.{prefix_len}
use Rattle.chars.specs.code.Runs.{AllIn}
use Rattle.chars.specs.promises.Runs.{runEnd, blockAt, AllHold, RunLaws}
use Rattle.chars.proofs.Bools.{clash, and-both}
use Rattle.chars.proofs.Prefix as prefixes

module _ (holds : ℕ → Bool) (s : List ℕ) (i : ℕ) where
  past-end : length s ≤ i → runEnd holds s i ≡ i
  past-end h = omega (arith, prefix_len-le-length holds (drop i s), length-drop i s)

  block-holds : blockAt holds s i ≡ true → (i + 16 ≤ length s) × AllHold holds s i (i + 16)
  block-holds e =
      let long = leb-true 16 (prefix_len holds (drop i s)) e in
      (omega (arith, prefix_len-le-length holds (drop i s), length-drop i s), λ k l h. prefixes.passed holds s i k l (omega arith))

  holds-block : i + 16 ≤ length s → AllHold holds s i (i + 16) → blockAt holds s i ≡ true
  holds-block room each = go (blockAt holds s i) refl
    where
      go : (b : Bool) → blockAt holds s i ≡ b → b ≡ true
      go true e = refl
      go false e =
          let few = leb-false 16 (prefix_len holds (drop i s)) e in
          clash (sym (prefixes.stopped holds s i (omega arith)) ∙ each (runEnd holds s i) (omega arith) (omega arith))

sixteen-all : (low high : ℕ) (s : List ℕ) (i : ℕ) → blockAt (λ b. leb low b && leb b high) s i ≡ true → (i + 16 ≤ length s) × AllIn low high s i (i + 16)
sixteen-all low high s i e =
    let b = block-holds (λ b. leb low b && leb b high) s i e in
    (b.0, λ k l h. let in-range = and-both (leb low (get_or s k 0)) (leb (get_or s k 0) high) (b.1 k l h) in (leb-true _ _ in-range.0, leb-true _ _ in-range.1))

pub run_laws : RunLaws
run_laws = record {
  end-within = prefixes.within;
  run-holds = prefixes.passed;
  end-fails = prefixes.stopped;
  end-only = prefixes.only;
  past-end = past-end;
  block-holds = block-holds;
  holds-block = holds-block;
  sixteen-all = sixteen-all;
}
