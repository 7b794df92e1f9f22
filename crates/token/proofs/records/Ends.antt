-- Where the walk over a script begins, and what is counted and stored at its end.
use Rattle.token.proofs.cursor.Words.{ℕ, ◌+◌, ◌≡◌, sym, ◌∙◌, ap, Bool, List, Result, Ok, Err, IfOk, IfErr, length, arith, text-laws, kindNumber, headLength, recordOf, plainForm, byForm, storedIf, eofAt, measuredOf, measuredAfter, answer, Need, Refused, Trail, trail, answerOf, measuredFrom, storedFrom, countedFrom, trailFrom, begun, beginning, gapAt, needAt, stateAt, counting, noneCounted, withToken, Counts, Steps, Stand}
use Rattle.std.proofs.Common.{ap₂}
use Rattle.token.specs.declared.kinds.TokenKind.TheVariants as tk
use Rattle.token.proofs.form.Laws.{form-length, record-by, eof-form}
use Rattle.token.proofs.lexer.Trails.{trail-end, stores-end, counted-end}
use Rattle.token.proofs.lexer.Turns.{or-false}
use Rattle.token.proofs.records.Counts.{measured-of}
use Rattle.token.proofs.records.Measures.{measured-end, record-least, record-most, eof-length, begun-answer}
open text-laws use {at-end}

-- ---- a record's length and bytes

pub eof-is : (start end : ℕ) (cut : Bool) → byForm (plainForm (kindNumber tk.Eof)) start end cut ≡ recordOf (record { kind = tk.Eof; start = start; end = end; cut = cut })
eof-is start end cut = record-by _ (record { kind = tk.Eof; start = start; end = end; cut = cut }) eof-form

pub ruleset sizes = (form-length, record-least, record-most, eof-is)

-- ---- the start

begun-measured : (s : List ℕ) → measuredFrom s begun ≡ measuredOf (answer s)
begun-measured s = ap (measuredAfter begun.need) (begun-answer s) ∙ measured-of (answer s)

-- what the walk hands back
pub walked-measured : (s : List ℕ) (r : Result Need Refused) → IfOk r (λ n. measuredFrom s begun ≡ Ok n)
    → IfErr r (λ e. measuredFrom s begun ≡ Err e) → r ≡ measuredOf (answer s)
walked-measured s (Ok n) h k = sym h ∙ begun-measured s
walked-measured s (Err e) h k = sym k ∙ begun-measured s

-- ---- the end

module _ {s : List ℕ} {y : Stand} {d : Counts} {out mid : List ℕ} (a : Steps s (beginning s) noneCounted out y d mid) (e : y.at ≡ length s) where
  ends : trailFrom s (stateAt y d) ≡ Trail.ends (eofAt (length s) y.cut)
  ends =
      ap (trail (length s) 0 (gapAt y)) (at-end s y.at (omega (arith, e))) ∙ trail-end (length s) (gapAt y)
      ∙ ap (λ c. Trail.ends (eofAt (length s) c)) (or-false y.cut)

  -- one record more is counted and stored
  pub end-measured : measuredFrom s begun ≡ Ok (needAt (y.bytes + headLength) d)
  unfolding counting
  end-measured =
      let w = a.counted.whole in
      let m : (needAt (y.bytes + headLength) d).tokens ≡ (needAt y.bytes d).tokens + 1 = omega (arith, w) in
      let n : needAt (y.bytes + headLength) d ≡ withToken (needAt y.bytes d) (eofAt (length s) y.cut) =
      ap₂ (λ t b. record { tokens = t; bytes = b; counts = d }) m (ap (λ l. y.bytes + l) (sym eof-length)) in
      sym (ap (λ k. Ok k) n ∙ measured-end _ _ (needAt y.bytes d) (ap answerOf ends) ∙ a.reaches.measured)

  pub end-stored : {next : List ℕ} → next ≡ storedIf mid y.bytes (recordOf (eofAt (length s) y.cut)) → next ≡ storedFrom s begun out
  end-stored {next} q = stores-end _ _ mid next y.bytes ends q ∙ a.reaches.stored

  pub end-counted : d ≡ countedFrom s begun
  unfolding counting
  end-counted = counted-end _ _ d ends ∙ a.reaches.counted
