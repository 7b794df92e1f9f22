-- The token that a record holds is told by the record's bytes.
use Prim.Native.Nat.{ℕ, zero, suc, ◌+◌, ◌≤◌}
use mathlib.Core.Path.{◌≡◌, refl, ◌∙◌, ap}
use mathlib.Core.List.{List, [], ◌∷◌}
use lib.Dec.{eqb}
use native.Mathlib.Nat.{mod-eq_of_lt}
use native.Mathlib.Omega.{arith}
use Rattle.words.specs.Joins.{Bytes}
use Rattle.words.specs.Words.{le4, le8, oneAt, fourAt, eightAt}
use Rattle.words.proofs.Joins.{four-fits, eight-fits}
use Rattle.token.specs.paper.Kinds.{kindNumber, Token}
use Rattle.token.specs.paper.Records.{bit, Value, one, four, eight, valuesOf, values, headLength, recordLength}
use Rattle.token.specs.code.Form.{joined, valuesAt, heldAt}
use Rattle.token.specs.declared.kinds.TokenKind.{TokenKind}
use Rattle.token.specs.declared.form.Held.{Held}
use Rattle.rolls.specs.paper.Roll.{lengthAt, kindAt, cutAt, ValuesFrom, TokenAt, KindLength, of-kind}
use Rattle.rolls.specs.computed.Roll.{kindFor, tokenOf}
use Rattle.rolls.proofs.theorems.Kinds.{Carries, int, long, content, mark, nothing, carries, length-for, known-length, Fit, bit-one, number-for, lower, upper, kind-back}

-- what stands in a token's record
abbrev pub heldOf : Token → Held
heldOf t =
    record {
      number = kindNumber t.kind;
      length = recordLength t.kind;
      values = joined (valuesOf t.kind);
      start = t.start;
      end = t.end;
      cut = bit t.cut;
    }

-- it tells the token, where the values fit
pub token-held : (t : Token) → Fit (valuesOf t.kind) → tokenOf (heldOf t) ≡ t
unfolding tokenOf
token-held t h = rw (kind-back t.kind h, bit-one t.cut)

-- a byte of at most 1, told by its mark
one-bit : (c : ℕ) → c ≤ 1 → bit (eqb c 1) ≡ c
one-bit zero h = refl
one-bit (suc zero) h = refl
one-bit (suc (suc c)) h = absurd (omega arith)

module _ (roll : List ℕ) (b : Bytes roll) where
  -- values that are read from bytes fit them
  values-fit : (i : ℕ) (vs : List Value) → ValuesFrom roll i vs → Fit vs
  values-fit i [] h = tt
  values-fit i (one v ∷ vs) h = (rw h.0 (b i), values-fit (i + 1) vs h.1)
  values-fit i (four v ∷ vs) h = (rw h.0 (four-fits roll i b), values-fit (i + 4) vs h.1)
  values-fit i (eight v ∷ vs) h = (rw h.0 (eight-fits roll i b), values-fit (i + 8) vs h.1)

  joined-by : (i : ℕ) {k : TokenKind} → Carries k → ValuesFrom roll i (valuesOf k) → joined (valuesOf k) ≡ valuesAt roll i (recordLength k)
  unfolding valuesAt recordLength values le4 le8 eightAt
  joined-by i (int v) h = h.0
  joined-by i (long v) h = h.0
  joined-by i (content a e) h = rw (h.0, h.1.0, mod-eq_of_lt (four-fits roll i b), mod-eq_of_lt (four-fits roll (i + 4) b))
  joined-by i (mark m) h = h.0
  joined-by i (nothing k n l b) h = rw n

  -- a kind's values, one after the other, are the one number that a record of its length has
  joined-at : (i : ℕ) (k : TokenKind) → ValuesFrom roll i (valuesOf k) → joined (valuesOf k) ≡ valuesAt roll i (recordLength k)
  joined-at i k h = joined-by i (carries k) h

  bare-values : (i : ℕ) (j k : TokenKind) → j ≡ k → valuesOf k ≡ [] → ValuesFrom roll i (valuesOf j)
  bare-values i j k e n = rw (e, n) tt

  -- and the other way: the number that a record has, as its kind's values
  kind-values : (i : ℕ) {k : TokenKind} → Carries k → (kindNumber k ≡ 17 → oneAt roll i ≤ 1)
      → ValuesFrom roll i (valuesOf (kindFor (kindNumber k) (valuesAt roll i (recordLength k))))
  unfolding kindFor valuesAt recordLength values le4 le8 eightAt
  kind-values i (int v) h = (mod-eq_of_lt (four-fits roll i b), tt)
  kind-values i (long v) h = (refl, tt)
  kind-values i (content a e) h =
      (lower (fourAt roll i) (fourAt roll (i + 4)) (four-fits roll i b), (upper (fourAt roll i) (fourAt roll (i + 4)) (four-fits roll i b), tt))
  kind-values i (mark m) h = (one-bit (oneAt roll i) (h refl), tt)
  kind-values i (nothing k n l b) h = bare-values i _ k (b _) n

  -- the same by number and length
  values-at : {n size : ℕ} (i : ℕ) → KindLength n size → (n ≡ 17 → oneAt roll i ≤ 1) → ValuesFrom roll i (valuesOf (kindFor n (valuesAt roll i size)))
  values-at i (of-kind k) h = kind-values i (carries k) h

  module _ (at : ℕ) (known : KindLength (kindAt roll at) (lengthAt roll at)) where
    -- what is computed from the bytes is the token there, if neither a cut nor an after-comment byte is above 1
    pub token-at : cutAt roll at ≤ 1 → (kindAt roll at ≡ 17 → oneAt roll (at + headLength) ≤ 1) → TokenAt roll at (tokenOf (heldAt roll at))
    unfolding tokenOf heldAt
    token-at c h =
        record {
          kind-is = number-for known (valuesAt roll (at + headLength) (lengthAt roll at));
          start-is = refl;
          end-is = refl;
          cut-is = one-bit (cutAt roll at) c;
          values-are = values-at (at + headLength) known h;
        }

    module _ (t : Token) (w : TokenAt roll at t) where
      -- the record is as long as the token's
      pub length-is : lengthAt roll at ≡ recordLength t.kind
      length-is = known-length known ∙ rw (← w.kind-is) (length-for t.kind)

      -- the bytes hold nothing else than the token there
      pub held-is : heldAt roll at ≡ heldOf t
      unfolding heldAt
      held-is = rw (length-is, ← (joined-at (at + headLength) t.kind w.values-are), ← w.kind-is, ← w.start-is, ← w.end-is, ← w.cut-is)

      -- there is one token
      pub token-is : tokenOf (heldAt roll at) ≡ t
      token-is = ap tokenOf held-is ∙ token-held t (values-fit (at + headLength) (valuesOf t.kind) w.values-are)
