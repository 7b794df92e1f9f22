-- The host's entry, branch by branch.
use Prim.Native.Nat.{ℕ, ◌≤◌, ◌<◌}
use mathlib.Core.Path.{◌≡◌, refl, sym, ◌∙◌, ap}
use mathlib.Core.Bool.{Bool, true, false}
use mathlib.Core.List.{List, ◌++◌}
use lib.ListN.{length, drop}
use lib.Seq.{sets}
use lib.Dec.{leb}
use native.Mathlib.Omega.{arith}
use borrow.Author.Tests.{eq-eqb, ne_eqb, leb-true, leb-false}
use Rattle.std.specs.Prelude.{Result, Ok, Err, IsErrAnd}
use Rattle.chars.specs.computed.Valid.{validPrefix}
use Rattle.token.specs.paper.Kinds.{Token}
use Rattle.token.specs.computed.Answer.{Answer, tokenized, refused, answer}
use Rattle.token.specs.paper.Records.{records, tokenCount, recordBytes}
use Rattle.token.specs.code.Refusal as piece
use Rattle.token.specs.code.Records.{Needs, tokensIn, begun, storedFrom}
use Rattle.token.specs.declared.counts.Need.{Need}
use Rattle.token.specs.declared.refusal.Refusal as token
use Rattle.token.specs.declared.refusal.Refusal.TheVariants as p
use Rattle.entry.specs.declared.limits.Limits.{Limits}
use Rattle.entry.specs.paper.Refusals.{refusalNumber}
use Rattle.entry.specs.paper.Host.{seen}
use Rattle.entry.specs.computed.Check.{cleanOf}
use Rattle.entry.specs.computed.Host.{granted, rejected, lacking, tooMany, seenOf, Verdict, verdict, hostFor}
use Rattle.entry.specs.code.Refusal.{refusalBy}
use Rattle.entry.specs.code.Host.{judgedOf, Judged, scratchOf}
use Rattle.entry.specs.declared.refusal.Refusal.{Refusal}
use Rattle.entry.specs.declared.refusal.Refusal.TheVariants as refusal
use Rattle.entry.specs.declared.refusal.Refused.{Refused}
use Rattle.words.specs.Words.{blockOf}
use Rattle.token.proofs.Base.{zero-one}
use Rattle.token.proofs.theorems.Alone.{records-length}
use Rattle.words.proofs.Stores.{sets-front}
use Rattle.entry.proofs.host.Checks.{CheckedAs, long, over, invalid, good, CleanAs, unchecked, marked, clean, clean-as, clean-passed}
use Rattle.entry.proofs.host.Verdicts.{verdict-checked, verdict-rest, room-many, room-granted, room-lacking, room-rejected}

-- ---- judging: 17, 27, 18, 29, 1 to 16, 28

-- a refusal of a piece, by its number
piece-by : (w : token.Refusal) → refusalBy (piece.refusalNumber w) ≡ refusal.Piece w
unfolding refusalBy piece.refusalBy
piece-by p.LoneCr = refl
piece-by p.OpenComment = refl
piece-by p.NoPiece = refl
piece-by p.OpenBacktick = refl
piece-by p.EmptyBacktick = refl
piece-by p.LargeNumber = refl
piece-by p.OpenString = refl
piece-by p.LineFeed = refl
piece-by p.OpenTriple = refl
piece-by p.BackslashInTriple = refl
piece-by p.DollarBrace = refl
piece-by p.OpenEscape = refl
piece-by p.NoHexDigit = refl
piece-by p.NoEscape = refl
piece-by p.NoTick = refl
piece-by p.NoSymbol = refl

-- what a `?` hands on
pub is-err : (r : Result Need Refused) (e : Refused) → IsErrAnd r (λ x. x ≡ e) → r ≡ Err e
is-err (Err x) e h = ap Err h
is-err (Ok n) e h = absurd h

-- what a verdict is judged as
judged-checked : (r : Refusal) (a : ℕ) → refusalBy (refusalNumber r) ≡ r → Err (record { what = r; place = a }) ≡ judgedOf (rejected (refusalNumber r) a)
unfolding judgedOf
judged-checked r a e = ap (λ x. Err (record { what = x; place = a })) (sym e)

judged-piece : (w : token.Refusal) (a : ℕ) → Err (record { what = refusal.Piece w; place = a }) ≡ judgedOf (rejected (piece.refusalNumber w) a)
judged-piece w a = judged-checked (refusal.Piece w) a (piece-by w)

judged-granted : (ts : List Token) (n : Need) → Needs (tokenized ts) n → Ok n ≡ judgedOf (granted ts)
unfolding judgedOf
judged-granted ts n k = ap (λ m. Ok m) k.need

judged-lacking : (ts : List Token) (n : Need) → Needs (tokenized ts) n → Ok n ≡ judgedOf (lacking ts)
unfolding judgedOf
judged-lacking ts n k = ap (λ m. Ok m) k.need

module _ (limits : Limits) (s : List ℕ) where
  -- refused by a test
  pub judge-checked : (e : Refused) → Err e ≡ cleanOf limits.bytes s → (room : ℕ) → verdict limits s room ≡ rejected (refusalNumber e.what) e.place
  judge-checked e q room = verdict-checked limits s room e (sym q)

  pub checked-by : (e : Refused) → Err e ≡ cleanOf limits.bytes s → (room : ℕ) → Err e ≡ judgedOf (verdict limits s room)
  unfolding refusalBy
  checked-by e q room = go (clean-as limits.bytes s) q ∙ sym (ap judgedOf (judge-checked e q room))
    where
      at : (r : Refusal) (a : ℕ) → refusalBy (refusalNumber r) ≡ r → e ≡ record { what = r; place = a } → Err e ≡ judgedOf (rejected (refusalNumber e.what) e.place)
      at r a by z = rw z (judged-checked r a by)

      tested : {x : Result (Unit {0}) Refused} → CheckedAs limits.bytes s x → Err e ≡ x → Err e ≡ judgedOf (rejected (refusalNumber e.what) e.place)
      tested (long l) q = at refusal.TooLong 0 refl (cc)
      tested (over l m) q = at refusal.OverLimit 0 refl (cc)
      tested (invalid l m x) q = at refusal.NotUtf8 (validPrefix s) refl (cc)
      tested (good l m x) q = zero-one (cc)

      go : {x : Result (Unit {0}) Refused} → CleanAs limits.bytes s x → Err e ≡ x → Err e ≡ judgedOf (rejected (refusalNumber e.what) e.place)
      go (unchecked c) q = tested c q
      go (marked {a} l m x f) q = at refusal.DirectionMark a refl (cc)
      go (clean l m x f) q = zero-one (cc)

  module _ (u : Unit {0}) (q : Ok u ≡ cleanOf limits.bytes s) where
    passes : cleanOf limits.bytes s ≡ Ok tt
    passes = sym q

    -- refused by a piece
    pub judge-refused : (j a : ℕ) → answer s ≡ refused j a → (room : ℕ) → verdict limits s room ≡ rejected j a
    judge-refused j a e room = verdict-rest limits s room passes ∙ room-rejected limits.tokens room (answer s) j a e

    pub refused-by : (w : token.Refusal) (a : ℕ) → answer s ≡ refused (piece.refusalNumber w) a → (room : ℕ)
        → Err (record { what = refusal.Piece w; place = a }) ≡ judgedOf (verdict limits s room)
    refused-by w a e room = judged-piece w a ∙ sym (ap judgedOf (judge-refused (piece.refusalNumber w) a e room))

    module _ (n : Need) (h : Needs (answer s) n) where
      pub judge-many : tooMany limits.tokens n.tokens ≡ true → (room : ℕ) → verdict limits s room ≡ rejected 28 0
      judge-many f room = go (answer s) refl h
        where
          go : (w : Answer) → answer s ≡ w → Needs w n → verdict limits s room ≡ rejected 28 0
          go (tokenized ts) e k = verdict-rest limits s room passes ∙ room-many limits.tokens room (answer s) ts e (ap (λ (m : Need). tooMany limits.tokens m.tokens) (sym k.need) ∙ f)
          go (refused j a) e k = let g = k.is-tokenized in zero-one (cc)

      pub many-by : tooMany limits.tokens n.tokens ≡ true → (room : ℕ) → Err (record { what = refusal.TooManyTokens; place = 0 }) ≡ judgedOf (verdict limits s room)
      unfolding refusalBy
      many-by f room = judged-checked refusal.TooManyTokens 0 refl ∙ sym (ap judgedOf (judge-many f room))

      module _ (f : tooMany limits.tokens n.tokens ≡ false) where
        pub judge-read : Judged limits s n
        judge-read = record { in-limit = clean-passed limits.bytes s u q; checked = sym passes; needs = h; few = f }

        pub read-by : (room : ℕ) → Ok n ≡ judgedOf (verdict limits s room)
        read-by room = go (answer s) refl h
          where
            go : (w : Answer) → answer s ≡ w → Needs w n → Ok n ≡ judgedOf (verdict limits s room)
            go (tokenized ts) e k = room-by (leb (recordBytes ts) room) refl
              where
                few : tooMany limits.tokens (tokenCount ts) ≡ false
                few = ap (λ (m : Need). tooMany limits.tokens m.tokens) (sym k.need) ∙ f

                room-by : (b : Bool) → leb (recordBytes ts) room ≡ b → Ok n ≡ judgedOf (verdict limits s room)
                room-by true g =
                    judged-granted ts n k
                    ∙ sym (ap judgedOf (verdict-rest limits s room passes ∙ room-granted limits.tokens room (answer s) ts e few (leb-true _ _ g)))
                room-by false g =
                    judged-lacking ts n k
                    ∙ sym (ap judgedOf (verdict-rest limits s room passes ∙ room-lacking limits.tokens room (answer s) ts e few (leb-false _ _ g)))
            go (refused j a) e k = let g = k.is-tokenized in zero-one (cc)

  -- ---- what a buffer holds that is lent for judging

  module _ (scratch : List ℕ) where
    -- as it was, where a test refuses
    pub scratch-checked : (e : Refused) → Err e ≡ cleanOf limits.bytes s → scratch ≡ scratchOf limits s scratch
    unfolding scratchOf
    scratch-checked e q = rw (← q) refl

    -- the records that fit, where none does
    pub scratch-passed : (u : Unit {0}) → Ok u ≡ cleanOf limits.bytes s → storedFrom s begun scratch ≡ scratchOf limits s scratch
    unfolding scratchOf
    scratch-passed u q = rw (← q) refl

-- ---- what the host sees

module _ (limits : Limits) (s buf block : List ℕ) where
  pub entry-none : (length block ≡ 16 → ⊥) → seen 20 buf block ≡ hostFor limits s buf block
  unfolding hostFor
  entry-none h = simp (ne_eqb (length block) 16 h)

  module _ (h : length block ≡ 16) where
    by-verdict : (v : Verdict) → verdict limits s (length buf) ≡ v → seenOf v buf ≡ hostFor limits s buf block
    unfolding hostFor
    by-verdict v e = simp (eq-eqb (length block) 16 h, e)

    pub entry-refused : (blk : List ℕ) (j a : ℕ) → ((room : ℕ) → verdict limits s room ≡ rejected j a) → blk ≡ blockOf j a 0 0 → seen j buf blk ≡ hostFor limits s buf block
    unfolding seenOf
    entry-refused blk j a e q = ap (seen j buf) q ∙ by-verdict (rejected j a) (e (length buf))

    module _ (n : Need) (d : Judged limits s n) where
      was-tokenized : (ts : List Token) × (answer s ≡ tokenized ts) × (n.tokens ≡ length ts) × (n.bytes ≡ recordBytes ts)
      was-tokenized = go (answer s) refl d.needs
        where
          go : (w : Answer) → answer s ≡ w → Needs w n → (ts : List Token) × (answer s ≡ tokenized ts) × (n.tokens ≡ length ts) × (n.bytes ≡ recordBytes ts)
          go (tokenized ts) e k = (ts, e, ap (λ (m : Need). m.tokens) k.need, ap (λ (m : Need). m.bytes) k.need)
          go (refused j a) e k = let f = k.is-tokenized in zero-one (cc)

      pub entry-short : (blk : List ℕ) → length buf < n.bytes → blk ≡ blockOf 19 0 n.tokens n.bytes → seen 19 buf blk ≡ hostFor limits s buf block
      unfolding seenOf
      entry-short blk l q =
          let w = was-tokenized in
          let b = w.3 in
          ap (seen 19 buf) (q ∙ ap (λ k. blockOf 19 0 k n.bytes) w.2 ∙ ap (blockOf 19 0 (length w.0)) w.3)
          ∙ by-verdict (lacking w.0) (verdict-rest limits s (length buf) (sym d.checked) ∙ room-lacking limits.tokens (length buf) (answer s) w.0 w.1 (ap (tooMany limits.tokens) (sym w.2) ∙ d.few) (omega arith))

      pub entry-done : (out blk : List ℕ) → n.bytes ≤ length buf → out ≡ sets buf 0 (records (tokensIn (answer s))) → blk ≡ blockOf 0 0 n.tokens n.bytes
          → seen 0 out blk ≡ hostFor limits s buf block
      unfolding seenOf
      entry-done out blk l o q =
          let w = was-tokenized in
          let ts = w.0 in
          let b = w.3 in
          let y = records-length ts in
          let f : out ≡ records ts ++ drop (recordBytes ts) buf =
          o ∙ ap (λ v. sets buf 0 (records (tokensIn v))) w.1 ∙ sets-front buf (records ts) (omega arith) ∙ ap (λ k. records ts ++ drop k buf) y in
          ap (λ u. seen 0 u blk) f
          ∙ ap (seen 0 (records ts ++ drop (recordBytes ts) buf)) (q ∙ ap (λ u. blockOf 0 0 u n.bytes) w.2 ∙ ap (blockOf 0 0 (length ts)) w.3)
          ∙ by-verdict (granted ts) (verdict-rest limits s (length buf) (sym d.checked) ∙ room-granted limits.tokens (length buf) (answer s) ts w.1 (ap (tooMany limits.tokens) (sym w.2) ∙ d.few) (omega arith))
