-- The whole roll: how many tokens there are, and one turn of the loop.
use Prim.Native.Nat.{ℕ, ◌+◌, ◌≤◌, ◌<◌}
use mathlib.Core.Path.{◌≡◌, refl, sym, ◌∙◌, ap}
use mathlib.Core.Bool.{Bool, true, false, cond}
use mathlib.Core.List.{List}
use lib.ListN.{length}
use native.Mathlib.Omega.{arith}
use Rattle.words.specs.Joins.{Bytes}
use Rattle.token.specs.paper.Kinds.{Token}
use Rattle.rolls.specs.paper.Roll.{Stepped, yielded, stopped, Steps, Outcome, tokens, refused, prepend, Reads}
use Rattle.rolls.specs.computed.Roll.{readAt, isEof, readFrom}
use Rattle.rolls.specs.code.Roll.{Counted, total, counted}
use Rattle.rolls.proofs.theorems.Eofs.{is-eof, not-eof}
use Rattle.rolls.proofs.theorems.Steps.{steps}
use Rattle.rolls.proofs.theorems.Reading.{onward, from-only, from-is}

-- ---- how many tokens

-- one token more
total-more : (n : ℕ) (t : Token) (x : Outcome) → counted n (prepend t x) ≡ counted (n + 1) x
unfolding counted
total-more n t (tokens ts) = ap total (omega arith)
total-more n t (refused j a) = refl

-- ---- one turn of the loop, after n tokens

-- what there is to count in all, by what is read next
abbrev pub turned : ℕ → List ℕ → Stepped → Counted
turned n roll (yielded t next) = cond (isEof t.kind) (total (n + 1)) (counted (n + 1) (readFrom roll next t.end))
turned n roll (stopped j a) = Counted.stopped j a

module _ (roll : List ℕ) (b : Bytes roll) (at previous n : ℕ) where
  token-turn : (t : Token) (next : ℕ) → readAt roll at previous ≡ yielded t next → counted n (readFrom roll at previous) ≡ turned n roll (yielded t next)
  unfolding counted
  token-turn t next e = go (isEof t.kind) refl
    where
      s : Steps roll at previous (yielded t next)
      s = (steps roll b at previous (yielded t next)).0 e

      go : (q : Bool) → isEof t.kind ≡ q → counted n (readFrom roll at previous) ≡ turned n roll (yielded t next)
      go true q = rw (q, from-only roll b (Reads.last s (is-eof t.kind q))) refl
      go false q =
          rw q (ap (counted n) (from-only roll b (Reads.more s (not-eof t.kind q) (from-is roll b next t.end))) ∙ total-more n t _)

  pub turn : counted n (readFrom roll at previous) ≡ turned n roll (readAt roll at previous)
  unfolding counted
  turn = go (readAt roll at previous) refl
    where
      go : (x : Stepped) → readAt roll at previous ≡ x → counted n (readFrom roll at previous) ≡ turned n roll (readAt roll at previous)
      go (yielded t next) e = rw e (token-turn t next e)
      go (stopped j a) e = rw e (ap (counted n) (from-only roll b (Reads.refuses ((steps roll b at previous _).0 e))))

-- a token that is yielded moves on, and stays inside
pub turn-on : (roll : List ℕ) → Bytes roll → (at previous : ℕ) (t : Token) (next : ℕ) → yielded t next ≡ readAt roll at previous
    → (at < next) × (next ≤ length roll)
turn-on roll b at previous t next e =
    let o = onward roll b at previous next t (sym e) in
    (o.0, o.1)
