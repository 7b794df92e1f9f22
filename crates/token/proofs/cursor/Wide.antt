-- Where characters past ASCII are passed, one may go byte by byte, also inside them.
use Rattle.token.proofs.cursor.Words.{ℕ, ◌+◌, ◌≤◌, ◌<◌, ◌≡◌, refl, sym, ◌∙◌, List, ◌∷◌, length, get_or, Char, Text, from, PastWide, text-laws}
open text-laws use {wide-past}

module _ {A : Type 0} (s : List ℕ) (f : Text → A) (pass : (c : Char) (u : Text) → 0x80 ≤ c.code → f (c ∷ u) ≡ f u) where
  past : {t u : Text} → PastWide t u → f t ≡ f u
  past PastWide.stays = refl
  past (PastWide.passes {c} {s} w p) = pass c s w ∙ past p

  pub byte-by-byte : (i : ℕ) → i < length s → 0x80 ≤ get_or s i 0 → f (from s (i + 1)) ≡ f (from s i)
  byte-by-byte i h e = let p = wide-past s i h e in past p.1 ∙ sym (past p.0)
