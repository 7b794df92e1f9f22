-- What the host sees is what the refusals and their order declare: specs/Theorems.HostTheorems.
use Prim.Native.Nat.{ℕ, ◌≤◌, ◌<◌}
use mathlib.Core.Path.{◌≡◌, refl, ◌∙◌, ap}
use mathlib.Core.Bool.{Bool, true, false}
use mathlib.Core.Logic.{inl, inr}
use mathlib.Core.List.{List}
use lib.ListN.{length}
use lib.Dec.{eqb, leb}
use native.Mathlib.Omega.{arith}
use borrow.Author.Tests.{ltb-true, ltb-false, lt-ltb, le-ltb, leb-true, leb-false, eqb-true, eqb-false, eq-eqb, ne_eqb}
use Rattle.std.specs.Prelude.{◌⊎◌, Option, Some, None, IfSome, IsSomeAnd, Result, Err}
use Rattle.chars.specs.computed.Valid.{validPrefix}
use Rattle.chars.specs.paper.Text.{Text}
use Rattle.chars.specs.paper.Utf8.{WellFormed}
use Rattle.chars.specs.paper.Marks.{Unmarked}
use Rattle.chars.proofs.theorems.Promises.{valid-laws}
use Rattle.chars.proofs.theorems.Marks.{mark_laws}
use Rattle.token.specs.paper.Kinds.{Token}
use Rattle.token.specs.paper.Reading.{TokensOf}
use Rattle.token.specs.paper.Refusals as piece
use Rattle.token.specs.paper.Records.{tokenCount, recordBytes, mostBytes}
use Rattle.token.specs.computed.Answer.{Answer, answer}
use Rattle.entry.specs.declared.limits.Limits.{Limits}
use Rattle.entry.specs.declared.refusal.Refused.{Refused}
use Rattle.entry.specs.paper.Limits.{compiler, contact, contactNeed, Few, Keeps}
use Rattle.entry.specs.paper.Refusals.{refusalNumber}
use Rattle.entry.specs.computed.Check.{checkOf}
use Rattle.entry.specs.paper.Host.{Seen, seen, numberSeen, bufferSeen, Valid, Clean, Read, Rejects, Sees}
use Rattle.entry.specs.computed.Host.{granted, rejected, lacking, tooMany, Verdict, byRoom, verdict, seenOf, hostFor}
use Rattle.entry.specs.Theorems.{HostTheorems, CompilerTheorems, ContactTheorems, Accepts}
use Rattle.entry.proofs.host.Checks.{CheckedAs, long, over, invalid, good, CleanAs, unchecked, marked, clean, clean-as, check-long, check-over, check-invalid, clean-err, clean-mark, clean-good}
use Rattle.entry.proofs.host.Verdicts.{verdict-checked, verdict-rest, room-many, room-granted, room-lacking, room-rejected}
use Rattle.token.proofs.theorems.Theorems.{complete, refusal, need, answer-tokens, tokens-answer, theorems}
use Rattle.token.proofs.theorems.Bounded.{last-eof}
use Rattle.entry.proofs.theorems.Examples.{examples}
use Rattle.entry.proofs.theorems.Contacts.{contact-need}
open valid-laws use {valid, longest-one, valid-all, all-valid}
open mark_laws use {first-mark, unmarked}

-- the numbers of the refusals of a piece
escape-range : {b q : Text} {j : ℕ} → piece.BadEscape b j q → (1 ≤ j) × (j ≤ 16)
escape-range (piece.BadEscape.e12 o) = (omega arith, omega arith)
escape-range (piece.BadEscape.e13 n l o z) = (omega arith, omega arith)
escape-range (piece.BadEscape.e14 o z) = (omega arith, omega arith)

pub met-range : {s q : Text} {j : ℕ} → piece.Met s j q → (1 ≤ j) × (j ≤ 16)
met-range (piece.Met.m1 a b) = (omega arith, omega arith)
met-range (piece.Met.m2 a b) = (omega arith, omega arith)
met-range (piece.Met.m3 a b d) = (omega arith, omega arith)
met-range (piece.Met.m4 a) = (omega arith, omega arith)
met-range (piece.Met.m5 a) = (omega arith, omega arith)
met-range (piece.Met.m6 a b d) = (omega arith, omega arith)
met-range (piece.Met.m7 a b) = (omega arith, omega arith)
met-range (piece.Met.m8 a b d) = (omega arith, omega arith)
met-range (piece.Met.m9 a b) = (omega arith, omega arith)
met-range (piece.Met.m10 a b d) = (omega arith, omega arith)
met-range (piece.Met.m11 a b) = (omega arith, omega arith)
met-range (piece.Met.m12 a e) = escape-range e
met-range (piece.Met.m15 a b) = (omega arith, omega arith)
met-range (piece.Met.m16 a b d e) = (omega arith, omega arith)

-- ---- the limit for tokens, computed

few-tokens : (most : Option ℕ) (n : ℕ) → IfSome most (λ m. n ≤ m) → tooMany most n ≡ false
few-tokens None n h = refl
few-tokens (Some m) n h = le-ltb m n h

tokens-few : (most : Option ℕ) (n : ℕ) → tooMany most n ≡ false → IfSome most (λ m. n ≤ m)
tokens-few None n e = tt
tokens-few (Some m) n e = ltb-false m n e

many-tokens : (most : Option ℕ) (n : ℕ) → IsSomeAnd most (λ m. m < n) → tooMany most n ≡ true
many-tokens None n h = absurd h
many-tokens (Some m) n h = lt-ltb m n h

tokens-many : (most : Option ℕ) (n : ℕ) → tooMany most n ≡ true → IsSomeAnd most (λ m. m < n)
tokens-many None n e = cc
tokens-many (Some m) n e = ltb-true m n e

-- ---- what is met whatever is lent

module _ (limits : Limits) (script : List ℕ) (room : ℕ) where
  judged : Clean limits script → verdict limits script room ≡ byRoom limits.tokens room (answer script)
  judged h =
      let v = h.valid in
      let e = valid-all script v.utf8 in
      verdict-rest limits script room (clean-good limits.bytes script v.sized.in-limit v.sized.within (omega arith) ((unmarked script).1 h.unmarked))

  tested : (e : Refused) → checkOf limits.bytes script ≡ Err e → verdict limits script room ≡ rejected (refusalNumber e.what) e.place
  tested e q = verdict-checked limits script room e (clean-err limits.bytes script e q)

  -- what is declared is computed
  pub rejects-only : {j a : ℕ} → Rejects limits script j a → verdict limits script room ≡ rejected j a
  rejects-only (Rejects.seventeen l) = tested _ (check-long limits.bytes script l)
  rejects-only (Rejects.twentySeven l m) = tested _ (check-over limits.bytes script l m)
  rejects-only (Rejects.eighteen {n} z v m) =
      let q : validPrefix script ≡ n = longest-one (valid script) v in
      tested _ (check-invalid limits.bytes script z.in-limit z.within n q m)
  rejects-only (Rejects.twentyNine {a} v f) =
      let e = valid-all script v.utf8 in
      verdict-checked limits script room _ (clean-mark limits.bytes script v.sized.in-limit v.sized.within (omega arith) a ((first-mark script a).1 f))
  rejects-only (Rejects.refused {j} {a} c h) = judged c ∙ room-rejected limits.tokens room (answer script) j a ((refusal script j a).1 h)
  rejects-only (Rejects.twentyEight {ts} c h m) =
      judged c ∙ room-many limits.tokens room (answer script) ts (answer-tokens script ts h) (many-tokens limits.tokens (tokenCount ts) m)

  pub granted-only : {ts : List Token} → Read limits script ts → recordBytes ts ≤ room → verdict limits script room ≡ granted ts
  granted-only {ts} r m =
      judged r.clean
      ∙ room-granted limits.tokens room (answer script) ts (answer-tokens script ts r.tokensOf) (few-tokens limits.tokens (tokenCount ts) r.few) m

  pub lacking-only : {ts : List Token} → Read limits script ts → room < recordBytes ts → verdict limits script room ≡ lacking ts
  lacking-only {ts} r m =
      judged r.clean
      ∙ room-lacking limits.tokens room (answer script) ts (answer-tokens script ts r.tokensOf) (few-tokens limits.tokens (tokenCount ts) r.few) m

-- a script is refused, or read
pub data Met (limits : Limits) (script : List ℕ) : Type 0 where
  rejects : {j a : ℕ} → Rejects limits script j a → Met limits script
  reads : {ts : List Token} → Read limits script ts → Met limits script

module _ (limits : Limits) (script : List ℕ) where
  -- and one of both in every case
  pub met : Met limits script
  met = judged (clean-as limits.bytes script)
    where
      counted : Clean limits script → (ts : List Token) → TokensOf script ts → (b : Bool) → tooMany limits.tokens (tokenCount ts) ≡ b
          → Met limits script
      counted c ts k true m = rejects (Rejects.twentyEight c k (tokens-many limits.tokens (tokenCount ts) m))
      counted c ts k false m = reads (record { clean = c; tokensOf = k; few = tokens-few limits.tokens (tokenCount ts) m })

      read : Clean limits script → (a : Answer) → answer script ≡ a → Met limits script
      read c (Answer.tokenized ts) q = counted c ts (tokens-answer script ts q) (tooMany limits.tokens (tokenCount ts)) refl
      read c (Answer.refused j a) q = rejects (Rejects.refused c ((refusal script j a).0 q))

      tested : {x : Result (Unit {0}) Refused} {e : Refused} → CheckedAs limits.bytes script x → x ≡ Err e → Met limits script
      tested (long l) q = rejects (Rejects.seventeen l)
      tested (over l m) q = rejects (Rejects.twentySeven l m)
      tested (invalid l m v) q = rejects (Rejects.eighteen (record { in-limit = l; within = m }) (valid script) v)
      tested (good l m v) q = absurd (let z : ◌≡◌ {A = ℕ} 0 1 = cc in omega arith)

      as-valid : length script ≤ mostBytes → length script ≤ limits.bytes → length script ≤ validPrefix script → Valid limits script
      as-valid l m v = record { sized = record { in-limit = l; within = m }; utf8 = all-valid script v }

      judged : {x : Result (Unit {0}) Refused} → CleanAs limits.bytes script x → Met limits script
      judged (unchecked c) = tested c refl
      judged (marked {a} l m v f) = rejects (Rejects.twentyNine (as-valid l m v) ((first-mark script a).0 f))
      judged (clean l m v f) = read (record { valid = as-valid l m v; unmarked = (unmarked script).0 f }) (answer script) refl

  pub number-of : {j a : ℕ} → Rejects limits script j a → ((1 ≤ j) × (j ≤ 18)) ⊎ ((27 ≤ j) × (j ≤ 29))
  number-of (Rejects.seventeen l) = inl (omega arith, omega arith)
  number-of (Rejects.twentySeven l m) = inr (omega arith, omega arith)
  number-of (Rejects.eighteen z v m) = inl (omega arith, omega arith)
  number-of (Rejects.twentyNine v f) = inr (omega arith, omega arith)
  number-of (Rejects.refused c k) = let r = met-range k.first.met in let l = r.0 in let h = r.1 in inl (omega arith, omega arith)
  number-of (Rejects.twentyEight c k m) = inr (omega arith, omega arith)

  -- where there are tokens that keep the limits nothing of the script is refused
  pub keeps-read : WellFormed script → Unmarked script → length script ≤ mostBytes → length script ≤ limits.bytes → (ts : List Token) → TokensOf script ts
      → Few limits ts → Read limits script ts
  keeps-read utf8 u l m ts k f =
      record { clean = record { valid = record { sized = record { in-limit = l; within = m }; utf8 = utf8 }; unmarked = u }; tokensOf = k; few = f }

-- ---- what the host sees

module _ (limits : Limits) (script buffer block : List ℕ) where
  host-20 : (length block ≡ 16 → ⊥) → hostFor limits script buffer block ≡ seen 20 buffer block
  unfolding hostFor
  host-20 n = rw (ne_eqb (length block) 16 n)

  host-16 : length block ≡ 16 → (v : Verdict) → verdict limits script (length buffer) ≡ v → hostFor limits script buffer block ≡ seenOf v buffer
  unfolding hostFor
  host-16 e v h = rw (eq-eqb (length block) 16 e, h)

  -- what is declared is computed
  pub sees-only : {x : Seen} → Sees limits script buffer block x → hostFor limits script buffer block ≡ x
  unfolding seenOf
  sees-only (Sees.twenty n) = host-20 n
  sees-only (Sees.rejected {j} {a} e h) = host-16 e (rejected j a) (rejects-only limits script (length buffer) h)
  sees-only (Sees.nineteen {ts} e r m) = host-16 e (lacking ts) (lacking-only limits script (length buffer) r m)
  sees-only (Sees.accepted {ts} e r m) = host-16 e (granted ts) (granted-only limits script (length buffer) r m)

  put : {x : Seen} → Sees limits script buffer block x → Sees limits script buffer block (hostFor limits script buffer block)
  put h = rw (sees-only h) h

  -- and something is declared in every case
  pub sees-host : Sees limits script buffer block (hostFor limits script buffer block)
  sees-host = sixteen (eqb (length block) 16) refl
    where
      lent : length block ≡ 16 → {ts : List Token} → Read limits script ts → (b : Bool) → leb (recordBytes ts) (length buffer) ≡ b
          → Sees limits script buffer block (hostFor limits script buffer block)
      lent e {ts} r true h = put (Sees.accepted e r (leb-true (recordBytes ts) (length buffer) h))
      lent e {ts} r false h = put (Sees.nineteen e r (leb-false (recordBytes ts) (length buffer) h))

      judged-by : length block ≡ 16 → Met limits script → Sees limits script buffer block (hostFor limits script buffer block)
      judged-by e (rejects h) = put (Sees.rejected e h)
      judged-by e (reads {ts} r) = lent e r (leb (recordBytes ts) (length buffer)) refl

      sixteen : (b : Bool) → eqb (length block) 16 ≡ b → Sees limits script buffer block (hostFor limits script buffer block)
      sixteen true h = judged-by (eqb-true (length block) 16 h) (met limits script)
      sixteen false h = put (Sees.twenty (eqb-false (length block) 16 h))

  unchanged-by : {x : Seen} → Sees limits script buffer block x → (numberSeen x ≡ 0 → ⊥) → bufferSeen x ≡ buffer
  unchanged-by (Sees.twenty n) h = refl
  unchanged-by (Sees.rejected e k) h = refl
  unchanged-by (Sees.nineteen e r m) h = refl
  unchanged-by (Sees.accepted e r m) h = absurd (h refl)

  number-by : {x : Seen} → Sees limits script buffer block x → (numberSeen x ≤ 20) ⊎ ((27 ≤ numberSeen x) × (numberSeen x ≤ 29))
  number-by (Sees.twenty n) = inl (omega arith)
  number-by (Sees.rejected e k) = elim (number-of limits script k) [
    | inl h ↦ let l = h.1 in inl (omega arith)
    | inr h ↦ inr h
  ]
  number-by (Sees.nineteen e r m) = inl (omega arith)
  number-by (Sees.accepted e r m) = inl (omega arith)

  kept-by : {x : Seen} → Sees limits script buffer block x → numberSeen x ≡ 0 → Unmarked script × Keeps limits script
  kept-by (Sees.twenty n) h = absurd (omega arith)
  kept-by (Sees.rejected e k) h = elim (number-of limits script k) [
    | inl r ↦ let l = r.0 in absurd (omega arith)
    | inr r ↦ let l = r.0 in absurd (omega arith)
  ]
  kept-by (Sees.nineteen e r m) h = absurd (omega arith)
  kept-by (Sees.accepted {ts} e r m) h =
      (r.clean.unmarked, record { within = r.clean.valid.sized.within; tokens = ts; tokensOf = r.tokensOf; few = r.few })

  -- where the lent bytes are enough for every reading that keeps the limits
  pub accepts : limits.bytes ≤ mostBytes → WellFormed script → length block ≡ 16
      → ((ts : List Token) → TokensOf script ts → Few limits ts → recordBytes ts ≤ length buffer)
      → Accepts limits script buffer block
  accepts small utf8 e room =
      record {
        exactly = (
          kept-by sees-host,
          λ h. let k = h.1 in
              ap numberSeen (sees-only (Sees.accepted e (read-as h.0 k.tokens k.tokensOf k.within k.few) (room k.tokens k.tokensOf k.few))),
        );
        one-reading = (theorems script).one-reading;
        has-tokens = λ ps h. let c = complete script ps h in (c.0, c.2);
        writes = λ ps ts h t u m f.
            let k : TokensOf script ts = record { pieces = ps; reading = h; tokens = t } in
            sees-only (Sees.accepted e (read-as u ts k m f) (room ts k f));
      }
    where
      read-as : Unmarked script → (ts : List Token) → TokensOf script ts → length script ≤ limits.bytes → Few limits ts → Read limits script ts
      read-as u ts k m f = keeps-read limits script utf8 u (omega arith) m ts k f

  pub host-theorems : HostTheorems limits script buffer block
  host-theorems =
      record {
        sees = λ x. ((λ e. rw e at sees-host), sees-only);
        unchanged = unchanged-by sees-host;
        numbers = number-by sees-host;
        script-theorems = theorems script;
        lent-enough = λ small L. accepts small L.utf8 L.sixteen (λ ts k f. let n = need script ts k in let room = L.room in omega arith);
        examples = examples;
      }

-- ---- the compiler's limits, and a contact's

-- within the compiler's neither 27 nor 28 is met
pub compiler-number : (script : List ℕ) {j a : ℕ} → Rejects compiler script j a → ((1 ≤ j) × (j ≤ 18)) ⊎ (j ≡ 29)
compiler-number script (Rejects.seventeen l) = inl (omega arith, omega arith)
compiler-number script (Rejects.twentySeven l m) = absurd (omega arith)
compiler-number script (Rejects.eighteen z v m) = inl (omega arith, omega arith)
compiler-number script (Rejects.twentyNine v f) = inr refl
compiler-number script (Rejects.refused c k) = let r = met-range k.first.met in let l = r.0 in let h = r.1 in inl (omega arith, omega arith)
compiler-number script (Rejects.twentyEight c k m) = absurd m

module _ (script buffer block : List ℕ) where
  compiler-by : {x : Seen} → Sees compiler script buffer block x → (numberSeen x ≤ 20) ⊎ (numberSeen x ≡ 29)
  compiler-by (Sees.twenty n) = inl (omega arith)
  compiler-by (Sees.rejected e k) = elim (compiler-number script k) [
    | inl h ↦ inl (omega (arith, h.1))
    | inr h ↦ inr h
  ]
  compiler-by (Sees.nineteen e r m) = inl (omega arith)
  compiler-by (Sees.accepted e r m) = inl (omega arith)

  pub compiler_theorems : CompilerTheorems script buffer block
  compiler_theorems =
      record {
        compiler-numbers = compiler-by (sees-host compiler script buffer block);
        compiler-exactly = λ L l.
            let a = (host-theorems compiler script buffer block).lent-enough (omega arith) L in (
              (λ z. let h = a.exactly.0 z in let k = h.1.tokensOf in (h.0, (k.pieces, k.reading))),
              λ h. let p = h.1 in
                  let c = complete script p.0 p.1 in
                  a.exactly.1
                  (h.0, record { within = l; tokens = c.0; tokensOf = record { pieces = p.0; reading = p.1; tokens = c.2 }; few = tt }),
            );
      }

  pub contact_theorems : ContactTheorems script buffer block
  contact_theorems =
      record {
        contact-need = needs;
        contact-room = λ room. room-by room (sees-host contact script buffer block);
        contact-lent = λ utf8 room e. accepts contact script buffer block (omega arith) utf8 e
            (λ ts k f. let n = needs ts k f in omega arith);
      }
    where
      needs : (ts : List Token) → TokensOf script ts → Few contact ts → recordBytes ts ≤ contactNeed
      needs ts k f = contact-need ts (last-eof script ts k) f

      room-by : contactNeed ≤ length buffer → {x : Seen} → Sees contact script buffer block x → numberSeen x ≡ 19 → ⊥
      room-by room (Sees.twenty n) h = omega arith
      room-by room (Sees.rejected e k) h = elim (number-of contact script k) [
        | inl r ↦ let l = r.1 in omega arith
        | inr r ↦ let l = r.0 in omega arith
      ]
      room-by room (Sees.nineteen {ts} e r m) h = let n = needs ts r.tokensOf r.few in omega arith
      room-by room (Sees.accepted e r m) h = omega arith
