-- The code of a character, by the bytes at its place.
use Rattle.std.proofs.Common.{ℕ, ◌+◌, ◌*◌, ◌%◌, ◌≤◌, ◌<◌, ◌≡◌, ◌∙◌, ap, List, drop, get_or, get_or-drop, add-zero, le-leb, ne_eqb}
use Rattle.std.proofs.lemmas.Bool.{lt-leb}
use Rattle.chars.specs.paper.Utf8.{codeOf}

module _ (s : List ℕ) (i : ℕ) where
  byte : (k : ℕ) → get_or (drop i s) k 0 ≡ get_or s (i + k) 0
  byte k = get_or-drop i s k 0

  byte0 : get_or (drop i s) 0 0 ≡ get_or s i 0
  byte0 = byte 0 ∙ ap (λ k. get_or s k 0) (add-zero i)

  pub code-one : (w : ℕ) → w ≤ 1 → get_or s i 0 ≡ codeOf w (drop i s)
  unfolding codeOf
  code-one w h = simp (byte0, le-leb w 1 h)

  pub code-two : (w b : ℕ) → w ≡ 2 → b ≡ get_or s (i + 1) 0 % 64 → get_or s i 0 % 32 * 64 + b ≡ codeOf w (drop i s)
  unfolding codeOf
  code-two w b h e = rw h (simp (byte0, byte 1, e))

  pub code-three : (w b c : ℕ) → w ≡ 3 → b ≡ get_or s (i + 1) 0 % 64 → c ≡ get_or s (i + 2) 0 % 64 → get_or s i 0 % 16 * 4096 + b * 64 + c ≡ codeOf w (drop i s)
  unfolding codeOf
  code-three w b c h e f = rw h (simp (byte0, byte 1, byte 2, e, f))

  pub code-four : (w b c d : ℕ) → 1 < w → (w ≡ 2 → ⊥) → (w ≡ 3 → ⊥) → b ≡ get_or s (i + 1) 0 % 64 → c ≡ get_or s (i + 2) 0 % 64 → d ≡ get_or s (i + 3) 0 % 64
      → get_or s i 0 % 8 * 262144 + b * 4096 + c * 64 + d ≡ codeOf w (drop i s)
  unfolding codeOf
  code-four w b c d h m n e f g = simp (lt-leb w 1 h, ne_eqb w 2 m, ne_eqb w 3 n, byte0, byte 1, byte 2, byte 3, e, f, g)
