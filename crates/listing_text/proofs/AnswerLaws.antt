-- The text of an answer, and of a script.
use Prim.Native.Nat.{ℕ, ◌<◌, ◌≤◌, min}
use mathlib.Core.Path.{◌≡◌, sym, ◌∙◌, ap}
use mathlib.Core.Logic.{inl, inr}
use mathlib.Core.List.{List, [], ◌++◌}
use lib.ListN.{length, take, drop, length-replicate}
use lib.Seq.{take_all, take_at}
use native.Mathlib.Omega.{arith}
use borrow.Author.Tests.{le-leb, lt-leb, ne_eqb}
use Rattle.words.specs.Words.{le4, fourAt, blockOf}
use Rattle.words.proofs.Joins.{four-drop, four-le4}
use Rattle.chars.specs.paper.Quoted.{codes}
use Rattle.chars.proofs.theorems.Promises.{valid-laws}
use Rattle.token.specs.paper.Records.{mostNeed, records, tokenCount, recordBytes}
use Rattle.token.specs.computed.Listing.{refusedAt}
use Rattle.token.proofs.theorems.Alone.{records-length}
use Rattle.token.proofs.theorems.Bounded.{all-bounded, refused-within}
use Rattle.token.proofs.theorems.Theorems.{need}
use Rattle.entry.specs.paper.Limits.{compiler}
use Rattle.chars.proofs.theorems.Marks.{mark_laws}
use Rattle.entry.specs.paper.Host.{Seen, Rejects, Sees}
use Rattle.entry.specs.computed.Host.{hostOf}
use Rattle.entry.specs.computed.Listing.{verdictText, listingOf}
use Rattle.entry.proofs.theorems.Hosts.{compiler-number, granted-only, rejects-only, sees-host}
use Rattle.listing_text.specs.Lines.{recordLines, answerText, zeros, mostScript, recordsRoom, printed}
use Rattle.listing_text.proofs.TokenLines.{records-shown}
open valid-laws use {valid, longest-one, valid-all}

-- no more of a list than it has
pub take_min : (a : ℕ) (l : List ℕ) → take (min a (length l)) l ≡ take a l
take_min a l = grind (arith, take_all)

-- ---- the listing

-- what the block holds: its second number, and its fourth
block-place : (j a count bytes : ℕ) → a < 4294967296 → fourAt (blockOf j a count bytes) 4 ≡ a
unfolding blockOf le4
block-place j a count bytes h = four-drop (blockOf j a count bytes) 4 ∙ four-le4 a _ h

block-bytes : (j a count bytes : ℕ) → bytes < 4294967296 → fourAt (blockOf j a count bytes) 12 ≡ bytes
unfolding blockOf le4
block-bytes j a count bytes h = four-drop (blockOf j a count bytes) 12 ∙ four-le4 bytes [] h

-- a refusal's place lies within the script
reject-place : {script : List ℕ} {j a : ℕ} → Rejects compiler script j a → a ≤ length script
reject-place (Rejects.seventeen l) = omega arith
reject-place (Rejects.twentySeven l m) = omega arith
reject-place (Rejects.eighteen z v l) = omega arith
reject-place {script} {a} (Rejects.twentyNine v f) = let l = mark_laws.mark-within script a f.stands in omega arith
reject-place {script} {j} {a} (Rejects.refused c h) = refused-within script j a h
reject-place (Rejects.twentyEight c k m) = omega arith

-- What the host sees that lends enough for a short script gives the listing over its tokens.
seen-text : {script buffer block : List ℕ} {x : Seen} → Sees compiler script buffer block x → length block ≡ 16 → length script ≤ mostScript
    → mostNeed (length script) ≤ length buffer → answerText x ≡ listingOf script
unfolding answerText listingOf verdictText
seen-text (Sees.twenty z) b s m = absurd (z b)
seen-text {script} (Sees.rejected {j} {a} e h) b s m =
    let place = reject-place h in
    let some : j ≡ 0 → ⊥ =
    λ z. elim (compiler-number script h) [
      | inl r ↦ omega (arith, r.0)
      | inr r ↦ omega arith
    ] in
    simp (ne_eqb j 0 some)
    (ap (refusedAt j) (block-place j a 0 0 (omega arith)) ∙ sym (ap verdictText (rejects-only compiler script (mostNeed (length script)) h)))
seen-text {script} (Sees.nineteen {ts} e r l) b s m = let n = need script ts r.tokensOf in absurd (omega arith)
seen-text {script} {buffer} (Sees.accepted {ts} e r l) b s m =
    let n = need script ts r.tokensOf in
    let size = recordBytes ts in
    let held = records ts ++ drop size buffer in
    ap (λ k. recordLines (take k held)) (block-bytes 0 0 (tokenCount ts) size (omega arith))
    ∙ ap recordLines (take_at (records ts) (drop size buffer) size (records-length ts))
    ∙ records-shown (length script) (omega arith) ts (all-bounded script ts r.tokensOf)
    ∙ sym (ap verdictText (granted-only compiler script (mostNeed (length script)) r n))

pub long-text : (script : List ℕ) → mostScript < length script → printed script ≡ codes "long\n"
unfolding printed
long-text script h = simp (lt-leb (length script) mostScript h)

pub zeros-length : (n : ℕ) → length (zeros n) ≡ n
unfolding zeros
zeros-length n = length-replicate n 0

pub short-text : (script : List ℕ) → length script ≤ mostScript → answerText (hostOf script (zeros recordsRoom) (zeros 16)) ≡ printed script
unfolding printed
short-text script h =
    let room = zeros-length recordsRoom in
    simp (le-leb (length script) mostScript h) (seen-text (sees-host compiler script (zeros recordsRoom) (zeros 16)) (zeros-length 16) h (omega arith))

pub ruleset texts = (long-text, short-text)
