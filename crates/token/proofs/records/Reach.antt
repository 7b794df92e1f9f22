-- A walk that measures, and stores the records that fit: turns joined to one another.
use Rattle.token.proofs.cursor.Words.{ℕ, ◌≤◌, ◌≡◌, refl, ap, List, length, arith, from, Gap, Token, recordLength, recordOf, storedIf, trail, answerOf, State, trailFrom, withToken, Standing, Reaches}
use Rattle.token.proofs.form.Stores.{stored-length}
use Rattle.token.proofs.lexer.Trails.{stores-turn, counted-turn}
use Rattle.token.proofs.lexer.Turns.{Turn}
use Rattle.token.proofs.records.Measures.{record-most, measured-turn}

-- ---- turns joined

module _ {s : List ℕ} {x : State} {out : List ℕ} where
  pub reach-start : Standing s x → Reaches s x out x out
  reach-start h = record { on = omega arith; stands = h; same = refl; measured = refl; stored = refl; counted = refl }

  module _ {y : State} {mid : List ℕ} (r : Reaches s x out y mid) where
    pub reach-trans : {z : State} {next : List ℕ} → Reaches s y mid z next → Reaches s x out z next
    reach-trans q = grind arith

    -- on to another place and gap, where the walk goes on as before
    pub reach-same : (k : ℕ) (h : Gap) → y.at ≤ k → k ≤ length s → trail (length s) 0 h (from s k) ≡ trailFrom s y
        → Reaches s x out (record { at = k; gap = h; need = y.need }) mid
    reach-same k h l w e = grind arith

    -- a token that ends at e, with the gap after it
    pub reach-turn : {t : Token} {e : ℕ} {k : Gap} → Turn s y.at y.gap t e k → (f : Gap) → f ≡ k
        → (next : List ℕ) → next ≡ storedIf mid y.need.bytes (recordOf t)
        → Reaches s x out (record { at = e; gap = f; need = withToken y.need t }) next
    reach-turn {t} {e} {k} u f g next q =
        let m = record-most t.kind in
        let n = stored-length mid y.need.bytes (recordOf t) in
        let c = measured-turn _ _ t y.need (ap answerOf u.walked) in
        let v = stores-turn _ _ t mid next y.need.bytes (recordLength t.kind) u.walked q refl in
        let w = counted-turn _ _ t y.need.counts u.walked in
        grind arith
