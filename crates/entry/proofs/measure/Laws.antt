-- What a host is told by the judgement.
use Prim.Native.Nat.{ℕ}
use mathlib.Core.Path.{◌≡◌, refl, sym, ◌∙◌, ap}
use mathlib.Core.List.{List}
use lib.ListN.{length}
use Rattle.std.specs.Prelude.{Ok}
use Rattle.words.specs.Words.{told}
use Rattle.words.proofs.Stores.{put-blocks}
use Rattle.token.specs.code.Records.{needFor}
use Rattle.token.specs.declared.counts.Need.{Need}
use Rattle.token.specs.paper.Records.{mostNeed, countsOf}
use Rattle.entry.specs.paper.Limits.{compiler}
use Rattle.entry.specs.paper.Measure.{refusedBlock}
use Rattle.entry.specs.computed.Host.{granted, rejected, lacking, Verdict, verdict}
use Rattle.entry.specs.computed.Measure.{toldOf, measureTold}
use Rattle.entry.specs.code.Host.{blockBy, judgedOf}
use Rattle.token.proofs.Base.{zero-one}
use Rattle.entry.proofs.theorems.Measuring.{measure-32}

pub ruleset blocks = (put-blocks)

module _ (s block : List ℕ) (h : length block ≡ 32) where
  pub told-need : (n : Need) → Ok n ≡ judgedOf (verdict compiler s (mostNeed (length s))) → (out : List ℕ) → out ≡ blockBy n
      → told 0 out ≡ measureTold s block
  unfolding judgedOf toldOf countsOf
  told-need n e out q = go (verdict compiler s (mostNeed (length s))) refl e
    where
      by : (m : Need) → n ≡ m → told 0 out ≡ told 0 (blockBy m)
      by m f = ap (told 0) q ∙ ap (λ k. told 0 (blockBy k)) f

      go : (v : Verdict) → verdict compiler s (mostNeed (length s)) ≡ v → Ok n ≡ judgedOf v → told 0 out ≡ measureTold s block
      go (granted ts) f e = by (needFor ts) (cc) ∙ sym (measure-32 s block h (granted ts) f)
      go (lacking ts) f e = by (needFor ts) (cc) ∙ sym (measure-32 s block h (lacking ts) f)
      go (rejected j a) f e = zero-one (cc)

  pub told-refused : (j a : ℕ) → ((room : ℕ) → verdict compiler s room ≡ rejected j a) → (out : List ℕ) → out ≡ refusedBlock j a
      → told j out ≡ measureTold s block
  unfolding toldOf
  told-refused j a e out q = ap (told j) q ∙ sym (measure-32 s block h (rejected j a) (e (mostNeed (length s))))
