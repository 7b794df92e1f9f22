-- Backticks: a run of bytes up to the next one.
use Rattle.token.proofs.lexer.Found.{left-at}
use Rattle.token.proofs.lexer.Laws.{later-place}
use Rattle.token.proofs.lexer.Words.{ℕ, ◌+◌, ◌≤◌, ◌<◌, ◌≡◌, refl, sym, ◌∙◌, ap, Bool, true, false, cond, not, ◌||◌, List, [], ◌∷◌, Err, length, drop, get_or, eqb, arith, ne_eqb, eqb-true, eqb-false, not-true, not-false, Text, from, place, afterRun, end, passed, stopped, text-laws, isAny, notBacktick, Found, backtickOr, scanBacktick, orPrefixed, cursorAt, PieceAnswer, pieceOf, refusedFor, refusalBy, endAt, tickEnd, backtickOf, Cursor, Refused, zero-one, Suffix}
use Rattle.token.specs.declared.kinds.TokenKind.TheVariants as tk
use Rattle.token.specs.declared.refusal.Refusal.TheVariants as refusal
use Rattle.token.proofs.cursor.Bytes.{inside, any-byte}
use Rattle.token.proofs.cursor.Runs.{passed-to, all-but}
use Rattle.token.proofs.ident.Laws.{tick-on, tick-off, tick-text, tick-inside, run-left}
open text-laws use {at-end, suffix-trans, suffix-cons, suffix-refl, drop-suffix, place-from}

-- the set of the run to the next backtick
abbrev pub noTick : ℕ → Bool
noTick b = not (((eqb b 0x60 || eqb b 0x60) || eqb b 0x60) || eqb b 0x60)

tick-not : (b : ℕ) → noTick b ≡ true → b ≡ 0x60 → ⊥
tick-not b e = eqb-false b 0x60 (not-true _ (sym (all-but (eqb b 0x60)) ∙ e))

-- from the opening backtick at i on: where the run ends, the next backtick stands, or nothing
module _ (s : List ℕ) (i r : ℕ) (any : isAny "`" (from s i) ≡ true) (e : r ≡ end noTick s (i + 1)) where
  run : (i + 1 ≤ r) × (r ≤ length s) × (afterRun notBacktick (from s r) ≡ afterRun notBacktick (from s (i + 1)))
  run = let h = tick-inside s i any in passed-to (afterRun notBacktick) s noTick (λ k h e. tick-on s k h (tick-not _ e)) (i + 1) r (omega arith) e

  tick-here : r < length s → get_or s r 0 ≡ 0x60
  tick-here l =
      let q = stopped noTick s (i + 1) (rw e at l) in
      eqb-true (get_or s r 0) 0x60 (not-false _ (sym (all-but (eqb (get_or s r 0) 0x60)) ∙ ap (λ j. noTick (get_or s j 0)) e ∙ q))

  first : i + 1 < r → get_or s (i + 1) 0 ≡ 0x60 → ⊥
  first l = tick-not (get_or s (i + 1) 0) (passed noTick s (i + 1) (i + 1) (omega arith) (omega (arith, e)))

  named : (get_or s (i + 1) 0 ≡ 0x60 → ⊥) → backtickOf (length s) (from s i) ≡ tickEnd (length s) (from s i) (afterRun notBacktick (from s (i + 1)))
  unfolding backtickOf
  named n = rw (tick-text (length s) s i any, any-byte "`" refl s (i + 1), ne_eqb (get_or s (i + 1) 0) 0x60 n)

  pub run-open : length s ≤ r → refusedFor refusal.OpenBacktick i ≡ backtickOf (length s) (from s i)
  unfolding afterRun
  run-open l =
      let h = tick-inside s i any in
      let n : get_or s (i + 1) 0 ≡ 0x60 → ⊥ = λ b. first (let w = inside s (i + 1) (omega (arith, b)) in omega arith) b in
      let t : afterRun notBacktick (from s (i + 1)) ≡ [] = sym run.2 ∙ ap (afterRun notBacktick) (at-end s r l) in
      sym (named n ∙ ap (tickEnd (length s) (from s i)) t ∙ ap (refusedFor refusal.OpenBacktick) (place-from s i (omega arith)))

  pub run-empty : r < length s → r ≡ i + 1 → refusedFor refusal.EmptyBacktick i ≡ backtickOf (length s) (from s i)
  unfolding backtickOf
  run-empty l z =
      let h = tick-inside s i any in
      let b : get_or s (i + 1) 0 ≡ 0x60 = ap (λ j. get_or s j 0) (sym z) ∙ tick-here l in
      rw (tick-text (length s) s i any, any-byte "`" refl s (i + 1), b, place-from s i (omega arith))

  pub run-closed : r < length s → (r ≡ i + 1 → ⊥) → endAt (cursorAt (r + 1)) ≡ backtickOf (length s) (from s i)
  run-closed l n =
      let o = run in
      let t : afterRun notBacktick (from s (i + 1)) ≡ record { code = get_or s r 0; at = r } ∷ from s (r + 1) = sym o.2 ∙ tick-off s r l (tick-here l) in
      sym (named (first (omega (arith, o.0, n))) ∙ ap (tickEnd (length s) (from s i)) t ∙ ap (λ j. endAt (cursorAt j)) (place-from s (r + 1) (omega arith)))

-- ---- what the answer says of the scanner

module _ (n : ℕ) (t : Text) where
  pub tick-refused : (w : Refused) → Err w ≡ backtickOf n t → ◌≡◌ {A = PieceAnswer} (Err w) (pieceOf n (scanBacktick n t))
  unfolding backtickOf scanBacktick pieceOf refusalBy
  tick-refused w q = go (isAny "`" (drop 1 t)) (afterRun notBacktick (drop 1 t)) q
    where
      go : (b : Bool) (u : Text) → Err w ≡ cond b (refusedFor refusal.EmptyBacktick (place n t)) (tickEnd n t u) → ◌≡◌ {A = PieceAnswer} (Err w) (pieceOf n (cond b (Found.stuck 5 t) (backtickOr n t u)))
      go true u q = cc
      go false [] q = cc
      go false (c ∷ r) q = zero-one (cc)

-- a backtick ends at e
pub record Ticked (s : List ℕ) (i e : ℕ) : Type 0 where
  pub on : i < e
  pub within : e ≤ length s
  pub is : scanBacktick (length s) (from s i) ≡ orPrefixed (length s) tk.BacktickId (from s i) (from s e)

pub tick-closed : (s : List ℕ) (i : ℕ) → isAny "`" (from s i) ≡ true → (e : Cursor) → endAt e ≡ backtickOf (length s) (from s i) → Ticked s i e.at
unfolding backtickOf scanBacktick
tick-closed s i any e q = go (isAny "`" (drop 1 (from s i))) refl (afterRun notBacktick (drop 1 (from s i))) refl q
  where
    go : (b : Bool) → isAny "`" (drop 1 (from s i)) ≡ b → (u : Text) → afterRun notBacktick (drop 1 (from s i)) ≡ u
        → endAt e ≡ cond b (refusedFor refusal.EmptyBacktick (place (length s) (from s i))) (tickEnd (length s) (from s i) u) → Ticked s i e.at
    go false x (c ∷ r) y q =
        let v : Suffix (c ∷ r) (from s i) = suffix-trans (rw y at (run-left notBacktick (drop 1 (from s i)))) (drop-suffix 1 (from s i)) in
        let w : Suffix r (from s i) = suffix-trans (suffix-cons c (suffix-refl r)) v in
        let z = v.within in
        let k = later-place s i r (tick-inside s i any) (w, omega arith) in
        let p : e ≡ cursorAt (place (length s) r) = cc in
        rw p (record { on = k.0; within = k.1; is = rw (x, y) (ap (orPrefixed (length s) tk.BacktickId (from s i)) (sym (left-at s i r w))) })
    go true x u y q = zero-one (cc)
    go false x [] y q = zero-one (cc)
