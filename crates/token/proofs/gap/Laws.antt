-- Comments: bytes that are no mark first, then byte by byte.
use Rattle.token.proofs.cursor.Words.{ℕ, suc, ◌+◌, ◌-◌, ◌*◌, ◌≤◌, ◌<◌, ◌≡◌, refl, sym, ◌∙◌, ap, Bool, true, false, cond, not, ◌&&◌, ◌||◌, List, ◌∷◌, some, none, ◌⊎◌, length, drop, get_or, get_or-eq_default, eqb, leb, arith, Char, Text, from, afterRun, end, text-laws, begins, endsLine, endOfLine, opensLine, opensBlock, closesBlock, close, cursorAt, closedOf, fourOpen, nestAt, fourMore, fourPassed, openings, Some, None}
use Rattle.token.proofs.Loops.{Going, going-on, going-stop, steps-keep}
use Rattle.token.proofs.cursor.Wide.{byte-by-byte}
use Rattle.token.specs.declared.gap.Nest.{Nest}
use Rattle.token.proofs.cursor.Bytes.{two-bytes, one-byte, inside}
use Rattle.token.proofs.cursor.Runs.{passed-to}
open text-laws use {at-ascii, at-end, place-from}

-- ---- two ASCII characters at a place

pub record Pair (s : List ℕ) (i x y : ℕ) : Type 0 where
  pub text : from s i ≡ record { code = x; at = i } ∷ record { code = y; at = i + 1 } ∷ from s (i + 2)
  pub within : i + 2 ≤ length s

pub pair-at : (s : List ℕ) (i x y : ℕ) → 1 ≤ x → x < 0x80 → 1 ≤ y → y < 0x80 → eqb (get_or s i 0) x && eqb (get_or s (i + 1) 0) y ≡ true → Pair s i x y
pair-at s i x y a b c d e = grind (arith, at-ascii, inside)

pub pair-past : {s : List ℕ} {i x y : ℕ} → Pair s i x y → from s (i + 2) ≡ drop 2 (from s i)
pair-past h = sym (ap (drop 2) h.text)

-- the three openings and closings
pub opens-line : (s : List ℕ) (i : ℕ) → opensLine (from s i) ≡ eqb (get_or s i 0) 0x2F && eqb (get_or s (i + 1) 0) 0x2F
unfolding begins
opens-line s i = two-bytes 0x2F 0x2F (omega arith) (omega arith) (omega arith) (omega arith) s i

pub opens-block : (s : List ℕ) (i : ℕ) → opensBlock (from s i) ≡ eqb (get_or s i 0) 0x2F && eqb (get_or s (i + 1) 0) 0x2A
unfolding begins
opens-block s i = two-bytes 0x2F 0x2A (omega arith) (omega arith) (omega arith) (omega arith) s i

pub closes-block : (s : List ℕ) (i : ℕ) → closesBlock (from s i) ≡ eqb (get_or s i 0) 0x2A && eqb (get_or s (i + 1) 0) 0x2F
unfolding begins
closes-block s i = two-bytes 0x2A 0x2F (omega arith) (omega arith) (omega arith) (omega arith) s i

-- the comment that begins at i
pub line-opens : (s : List ℕ) (i : ℕ) → opensLine (from s i) ≡ true → Pair s i 0x2F 0x2F
line-opens s i e = pair-at s i 0x2F 0x2F (omega arith) (omega arith) (omega arith) (omega arith) (sym (opens-line s i) ∙ e)

pub line-begins : (s : List ℕ) (i : ℕ) → opensLine (from s i) ≡ true → (drop 2 (from s i) ≡ from s (i + 2)) × (i + 2 ≤ length s)
line-begins s i e = let p = line-opens s i e in (sym (pair-past p), p.within)

pub block-opens : (s : List ℕ) (i : ℕ) → opensBlock (from s i) ≡ true → Pair s i 0x2F 0x2A
block-opens s i e = pair-at s i 0x2F 0x2A (omega arith) (omega arith) (omega arith) (omega arith) (sym (opens-block s i) ∙ e)

-- the two line ends
pub lf-bytes : (s : List ℕ) (i : ℕ) → begins "\n" (from s i) ≡ eqb (get_or s i 0) 0x0A
unfolding begins
lf-bytes s i = one-byte 0x0A (omega arith) (omega arith) s i

pub crlf-bytes : (s : List ℕ) (i : ℕ) → begins "\r\n" (from s i) ≡ eqb (get_or s i 0) 0x0D && eqb (get_or s (i + 1) 0) 0x0A
unfolding begins
crlf-bytes s i = two-bytes 0x0D 0x0A (omega arith) (omega arith) (omega arith) (omega arith) s i

pub ruleset line_ends = (lf-bytes, crlf-bytes)

-- ---- line comments

abbrev inLine : Text → Bool
inLine t = not (endOfLine t)

wide-run : (c : Char) (u : Text) → 0x80 ≤ c.code → afterRun inLine (c ∷ u) ≡ afterRun inLine u
unfolding afterRun begins
wide-run c u h = grind arith

-- the run to the line end, by what stands where it begins
pub line-at : (s : List ℕ) (i : ℕ) → afterRun inLine (from s i) ≡ cond (endsLine (from s i)) (from s i) (afterRun inLine (from s (i + 1)))
unfolding afterRun
line-at s i =
    let w = byte-by-byte s (afterRun inLine) wide-run i in
    grind (arith, at-end, at-ascii, lf-bytes, crlf-bytes, w)

pub line-done : (s : List ℕ) (i : ℕ) → length s ≤ i → afterRun inLine (from s i) ≡ from s i
unfolding afterRun
line-done s i h = rw (at-end s i h)

pub ruleset line_runs = (line-at, line-done)

-- no byte above both line-end bytes begins a line end: such bytes are passed together
pub line-past : (s : List ℕ) (i r : ℕ) → i ≤ length s → r ≡ end (λ b. leb 0x0E b && leb b 0xFF) s i
    → (i ≤ r) × (r ≤ length s) × (afterRun inLine (from s r) ≡ afterRun inLine (from s i))
line-past s = passed-to (afterRun inLine) s (λ b. leb 0x0E b && leb b 0xFF) (λ k h e. grind (arith, line-at, lf-bytes, crlf-bytes))

-- ---- block comments

-- a character that neither opens nor closes is passed
pass : (d : ℕ) (c : Char) (u : Text) → closesBlock (c ∷ u) ≡ false → opensBlock (c ∷ u) ≡ false → close d 0 (c ∷ u) ≡ close d 0 u
unfolding close
pass d c u x y = rw (x, y)

pass-wide : (d : ℕ) (c : Char) (u : Text) → 0x80 ≤ c.code → close d 0 (c ∷ u) ≡ close d 0 u
unfolding close begins
pass-wide d c u h = grind arith

module _ (s : List ℕ) (i : ℕ) where
  -- one byte is passed where neither mark stands
  block-on : (d : ℕ) → i < length s → (get_or s i 0 ≡ 0x2A → get_or s (i + 1) 0 ≡ 0x2F → ⊥) → (get_or s i 0 ≡ 0x2F → get_or s (i + 1) 0 ≡ 0x2A → ⊥)
      → close d 0 (from s i) ≡ close d 0 (from s (i + 1))
  block-on d h m n =
      let w = byte-by-byte s (close d 0) (pass-wide d) i in
      grind (arith, at-ascii, pass, closes-block, opens-block, w)

-- what two bytes do, by the number that they make
abbrev pub pairNumber : List ℕ → ℕ → ℕ
pairNumber s i = get_or s i 0 + 256 * get_or s (i + 1) 0

slash-star : (s : List ℕ) (i : ℕ) → get_or s i 0 < 256 → pairNumber s i ≡ 0x2A2F → Pair s i 0x2F 0x2A
slash-star s i l q = grind (arith, at-ascii, inside)

star-slash : (s : List ℕ) (i : ℕ) → get_or s i 0 < 256 → pairNumber s i ≡ 0x2F2A → Pair s i 0x2A 0x2F
star-slash s i l q = grind (arith, at-ascii, inside)

module _ (s : List ℕ) (i d : ℕ) (l : get_or s i 0 < 256) where
  pub close-more : pairNumber s i ≡ 0x2A2F → close (d + 1) 0 (from s (i + 2)) ≡ close d 0 (from s i)
  unfolding close begins
  close-more q = let t = (slash-star s i l q).text in grind arith

  pub close-less : pairNumber s i ≡ 0x2F2A → (d ≡ 0 → ⊥) → close (d - 1) 0 (from s (i + 2)) ≡ close d 0 (from s i)
  unfolding close begins
  close-less q n = let t = (star-slash s i l q).text in let m : d ≡ suc (d - 1) = omega arith in grind arith

  pub close-ends : pairNumber s i ≡ 0x2F2A → d ≡ 0 → close d 0 (from s i) ≡ some (from s (i + 2))
  unfolding close begins
  close-ends q z = let t = (star-slash s i l q).text in grind arith

  pub close-on : i < length s → (pairNumber s i ≡ 0x2A2F → ⊥) → (pairNumber s i ≡ 0x2F2A → ⊥) → close d 0 (from s (i + 1)) ≡ close d 0 (from s i)
  close-on h x y = sym (block-on s i d h (λ u v. y (omega arith)) (λ u v. x (omega arith)))

-- where at most one byte is left, nothing closes
pub close-last : (s : List ℕ) (i d : ℕ) → length s ≤ i + 1 → close d 0 (from s i) ≡ none
unfolding close
close-last s i d h = grind (arith, at-end, block-on, get_or-eq_default)

-- where the text that is left begins
pub closed-at : (s : List ℕ) (i : ℕ) → i ≤ length s → closedOf (length s) (some (from s i)) ≡ Some (cursorAt i)
unfolding closedOf
closed-at s i h = rw (place-from s i h)

pub closed-none : (n : ℕ) → closedOf n none ≡ None
unfolding closedOf
closed-none n = refl

pub ruleset block_turns = (close-more, close-less, close-ends, close-on, close-last, closed-at, closed-none)

-- bytes that are no mark are passed together
abbrev pub noMark : ℕ → Bool
noMark b = not (((eqb b 0x2A || eqb b 0x2F) || eqb b 0x2A) || eqb b 0x2F)

pub block-past : (s : List ℕ) (d i r : ℕ) → i ≤ length s → r ≡ end noMark s i → (i ≤ r) × (r ≤ length s) × (close d 0 (from s r) ≡ close d 0 (from s i))
block-past s d = passed-to (close d 0) s noMark (λ k m e. grind (arith, block-on))

-- the code's test for four more that open
pub open-or : (s : List ℕ) (i : ℕ) → (fourOpen s i ≡ false) ⊎ (i + 8 ≤ length s)
unfolding fourOpen
open-or s i = grind arith

-- the steps from a place on, with so many open, give what the steps from the start on give
abbrev pub OpeningsFrom : List ℕ → ℕ → ℕ → ℕ → Type 0
OpeningsFrom s at i d = Going (fourMore s) fourPassed (openings s at) (nestAt i d) (length s - i)

pub openings-start : (s : List ℕ) (at : ℕ) → OpeningsFrom s at at 0
unfolding openings
openings-start s at = record { turns = length s - at; enough = omega arith; same = refl }

pub openings-on : (s : List ℕ) (at i d : ℕ) → fourOpen s i ≡ true → OpeningsFrom s at i d → OpeningsFrom s at (i + 8) (d + 4)
openings-on s at i d e g = going-on (fourMore s) fourPassed (openings s at) (nestAt i d) _ _ e (grind (arith, open-or)) g

pub openings-stop : (s : List ℕ) (at i d : ℕ) → fourOpen s i ≡ false → OpeningsFrom s at i d → nestAt i d ≡ openings s at
openings-stop s at i d e g = going-stop (fourMore s) fourPassed (openings s at) (nestAt i d) _ e g

pub ruleset open_turns = (open-or, openings-start, openings-on)

-- four more that open
module _ (s : List ℕ) (small : (k : ℕ) → get_or s k 0 < 256) (i : ℕ) (e : fourOpen s i ≡ true) where
  open-four : (d : ℕ) → close d 0 (from s i) ≡ close (d + 4) 0 (from s (i + 8))
  unfolding fourOpen
  open-four d =
      let a = close-more s i d (small i) in
      let b = close-more s (i + 2) (d + 1) (small (i + 2)) in
      let c = close-more s (i + 4) (d + 2) (small (i + 4)) in
      let g = close-more s (i + 6) (d + 3) (small (i + 6)) in
      grind arith

-- where the openings are passed, so many are open that the outermost comment is closed as before
pub opened : (s : List ℕ) (small : (k : ℕ) → get_or s k 0 < 256) (i : ℕ) (n : Nest) → n ≡ openings s i → i ≤ length s
    → (n.at ≤ length s) × (n.depth ≤ n.at) × (close n.depth 0 (from s n.at) ≡ close 0 0 (from s i))
unfolding openings
opened s small i n q h = rw q (steps-keep (fourMore s) fourPassed Same turn (length s - i) (nestAt i 0) (h, omega arith, refl))
  where
    Same : Nest → Type 0
    Same m = (m.at ≤ length s) × (m.depth ≤ m.at) × (close m.depth 0 (from s m.at) ≡ close 0 0 (from s i))

    turn : (m : Nest) → fourMore s m ≡ true → Same m → Same (fourPassed m)
    turn m e p = (grind (arith, open-or), omega (arith, p.1), sym (open-four s small m.at e m.depth) ∙ p.2)
