-- What a host is told that measures is what is declared: specs/Theorems.MeasureTheorems.
use Prim.Native.Nat.{ℕ, ◌≤◌}
use mathlib.Core.Path.{◌≡◌, refl, ◌∙◌, ap}
use mathlib.Core.Bool.{Bool, true, false}
use mathlib.Core.Logic.{inl, inr}
use mathlib.Core.List.{List, []}
use lib.ListN.{length}
use lib.Dec.{eqb}
use native.Mathlib.Omega.{arith}
use borrow.Author.Tests.{eqb-true, eqb-false, eq-eqb, ne_eqb}
use Rattle.std.specs.Prelude.{◌⊎◌}
use Rattle.chars.specs.paper.Marks.{Unmarked}
use Rattle.words.proofs.Joins.{four-drop, four-le4}
use Rattle.words.specs.Words.{le4, blockOf, Told, told, numberTold}
use Rattle.token.specs.paper.Kinds.{Token}
use Rattle.token.specs.paper.Reading.{Piece, Reading, TokensOf}
use Rattle.token.specs.paper.Records.{mostBytes, mostNeed}
use Rattle.entry.specs.paper.Limits.{compiler}
use Rattle.entry.specs.paper.Host.{numberSeen, Sees}
use Rattle.entry.specs.paper.Measure.{needBlock, Measures, TellsNeed}
use Rattle.entry.specs.computed.Host.{granted, rejected, Verdict, verdict}
use Rattle.entry.specs.computed.Measure.{toldOf, measureTold}
use Rattle.entry.specs.Theorems.{MeasureTheorems}
use Rattle.token.proofs.theorems.Theorems.{complete, need, theorems}
use Rattle.entry.proofs.theorems.Examples.{examples}
use Rattle.entry.proofs.theorems.Hosts.{Met, rejects, reads, met, rejects-only, granted-only, keeps-read, compiler-number, sees-only}

module _ (script block : List ℕ) where
  pub measure-20 : (length block ≡ 32 → ⊥) → measureTold script block ≡ told 20 block
  unfolding measureTold
  measure-20 n = rw (ne_eqb (length block) 32 n)

  pub measure-32 : length block ≡ 32 → (v : Verdict) → verdict compiler script (mostNeed (length script)) ≡ v → measureTold script block ≡ toldOf v
  unfolding measureTold
  measure-32 e v h = rw (eq-eqb (length block) 32 e, h)

  -- what is declared is computed
  pub measures-only : {x : Told} → Measures script block x → measureTold script block ≡ x
  unfolding toldOf
  measures-only (Measures.twenty n) = measure-20 n
  measures-only (Measures.rejected {j} {a} e h) = measure-32 e (rejected j a) (rejects-only compiler script (mostNeed (length script)) h)
  measures-only (Measures.measured {ts} e r) =
      measure-32 e (granted ts) (granted-only compiler script (mostNeed (length script)) r (need script ts r.tokensOf))

  put : {x : Told} → Measures script block x → Measures script block (measureTold script block)
  put h = rw (measures-only h) h

  -- and something is declared in every case
  pub measures-host : Measures script block (measureTold script block)
  measures-host = by (eqb (length block) 32) refl
    where
      judged : length block ≡ 32 → Met compiler script → Measures script block (measureTold script block)
      judged e (rejects h) = put (Measures.rejected e h)
      judged e (reads r) = put (Measures.measured e r)

      by : (b : Bool) → eqb (length block) 32 ≡ b → Measures script block (measureTold script block)
      by true h = judged (eqb-true (length block) 32 h) (met compiler script)
      by false h = put (Measures.twenty (eqb-false (length block) 32 h))

  number-by : {x : Told} → Measures script block x → (numberTold x ≤ 18) ⊎ (numberTold x ≡ 20) ⊎ (numberTold x ≡ 29)
  number-by (Measures.twenty n) = inr (inl refl)
  number-by (Measures.rejected e h) = elim (compiler-number script h) [
    | inl r ↦ inl r.1
    | inr r ↦ inr (inr r)
  ]
  number-by (Measures.measured e r) = inl (omega arith)

  read-by : {x : Told} → Measures script block x → numberTold x ≡ 0 → Unmarked script × ((ps : List Piece) × Reading script ps)
  read-by (Measures.twenty n) h = absurd (omega arith)
  read-by (Measures.rejected e k) h = elim (compiler-number script k) [
    | inl r ↦ absurd (omega (arith, r.0))
    | inr r ↦ absurd (omega arith)
  ]
  read-by (Measures.measured e r) h = let k = r.tokensOf in (r.clean.unmarked, (k.pieces, k.reading))

  -- no number wraps in 4 bytes
  numbers : (ts : List Token) → length script ≤ mostBytes → TokensOf script ts → TellsNeed ts (needBlock ts)
  unfolding blockOf le4
  numbers ts l k =
      let s = (theorems script).spread ts k in
      let o = (theorems script).one-kind-each ts k in
      let n = need script ts k in
      let b = needBlock ts in
      record {
        tokens = four-drop b 8 ∙ four-le4 _ _ (omega (arith, s));
        bytes = four-drop b 12 ∙ four-le4 _ _ (omega (arith, n));
        int-lits = four-drop b 16 ∙ four-le4 _ _ (omega (arith, s, o));
        long-lits = four-drop b 20 ∙ four-le4 _ _ (omega (arith, s, o));
        strs = four-drop b 24 ∙ four-le4 _ _ (omega (arith, s, o));
        newlines = four-drop b 28 ∙ four-le4 _ [] (omega (arith, s, o));
      }

  pub measure_theorems : MeasureTheorems script block
  measure_theorems =
      record {
        measures = λ x. ((λ e. rw e at measures-host), measures-only);
        measure-numbers = number-by measures-host;
        measure-exactly = λ utf8 l e. (
          read-by measures-host,
          λ h. let p = h.1 in
              let c = complete script p.0 p.1 in
              let k : TokensOf script c.0 = record { pieces = p.0; reading = p.1; tokens = c.2 } in
              ap numberTold (measures-only (Measures.measured e (keeps-read compiler script utf8 h.0 l l c.0 k tt))),
        );
        measured-told = λ ts utf8 u l k e. measures-only (Measures.measured e (keeps-read compiler script utf8 u l l ts k tt));
        numbers-told = λ ts l k. numbers ts l k;
        enough-lent = λ ts buffer answer utf8 u l k e m.
            ap numberSeen (sees-only compiler script buffer answer (Sees.accepted e (keeps-read compiler script utf8 u l l ts k tt) m));
        fewer-lent = λ ts buffer answer utf8 u l k e m.
            ap numberSeen (sees-only compiler script buffer answer (Sees.nineteen e (keeps-read compiler script utf8 u l l ts k tt) m));
        refused-told = λ j a h e. measures-only (Measures.rejected e h);
        refused-seen = λ j a buffer answer h e. sees-only compiler script buffer answer (Sees.rejected e h);
        script-theorems = theorems script;
        examples = examples;
      }
