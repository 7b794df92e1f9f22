-- String content as the code strips it, by bytes: a text's last character is a quote exactly where its last byte is one.
use Rattle.token.proofs.cursor.Words.{ℕ, zero, suc, ◌+◌, ◌-◌, ◌≤◌, ◌<◌, ◌≡◌, refl, sym, ◌∙◌, ap, true, false, ◌&&◌, ◌||◌, and-false, List, [], ◌∷◌, ◌++◌, reverse, append-nil, append_assoc, length, drop, get_or, length-append, take-append-drop, drop-append_seam, eqb, leb, add-zero, sub-zero, arith, eqb-true, ne_eqb, eq-eqb, le-leb, leb-true, lt-ltb, le-ltb, Char, Text, from, place, charEnd, begins, quote, textOf, closed, closeString, strip, plainContent, lastOff, sixteenAt, blocksOff, spanAt, blockMore, blockLess, blocksTaken, end, passed, Suffix, ScriptText, text-laws, cases_Bool, cases_lt, ⊎_elim}
use mathlib.Core.List.{reverse_aux, reverse_aux-append}
use Rattle.token.specs.declared.string.Span.{Span}
use Rattle.token.proofs.Loops.{steps-keep}
use Rattle.token.specs.declared.kinds.TokenKind.TheVariants as tk
use Rattle.token.proofs.cursor.Bytes.{past}
use Rattle.token.proofs.cursor.Runs.{twice}
use Rattle.token.proofs.string.Escapes.{same-place}
use Rattle.token.proofs.string.Laws.{quote-byte, plain-strict}
open text-laws use {text-at, text-drop, at-char, at-end, next-on, place-from, ascii-next, wide-tail}

-- ---- one turn of the definition

quote-first : (c : Char) (s t : Text) → quote (c ∷ s) ≡ quote (c ∷ t)
unfolding begins
quote-first c s t = refl

strip-none : (t back : Text) (e : ℕ) → strip 0 t back e ≡ tk.Str e e
unfolding strip
strip-none [] back e = refl
strip-none (c ∷ t) back e = refl

module _ (k : ℕ) (c : Char) (t : Text) (e : ℕ) where
  strip-bare : (back : Text) → quote (c ∷ t) ≡ false → strip (suc k) (c ∷ t) back e ≡ tk.Str c.at e
  unfolding strip
  strip-bare back q = rw (ne_eqb (suc k) 0 (λ z. omega arith), q)

  strip-two : (d : Char) (back : Text) → 1 ≤ k → quote (c ∷ t) ≡ true → quote (d ∷ back) ≡ true → strip (suc k) (c ∷ t) (d ∷ back) e ≡ strip (suc k - 2) t back d.at
  unfolding strip
  strip-two d back h q x = rw (ne_eqb (suc k) 0 (λ z. omega arith), q, le-leb 2 (suc k) (omega arith), x)

  strip-one : (back : Text) → quote (c ∷ t) ≡ true → leb 2 (suc k) && quote back ≡ false → strip (suc k) (c ∷ t) back e ≡ strip (suc k - 1) t back e
  unfolding strip
  strip-one back q x = rw (ne_eqb (suc k) 0 (λ z. omega arith), q, x)

-- ---- the last character before b

module _ (s : List ℕ) (b : ℕ) (within : b ≤ length s) (d : Char) (stands : ScriptText s (d ∷ from s b)) where
  here : from s d.at ≡ d ∷ from s b
  here = (text-at s d (from s b) stands).0

  starts : d.at < length s
  starts = let f = here in grind (arith, at-end)

  ends : charEnd s d.at ≡ b
  ends = same-place s b (charEnd s d.at) within (next-on s d.at starts).1 (ap (drop 1) (sym (at-char s d.at starts) ∙ here))

  first-byte : quote (d ∷ []) ≡ eqb (get_or s d.at 0) 0x22
  first-byte = quote-first d [] (from s b) ∙ ap quote (sym here) ∙ quote-byte s d.at

  -- a quote is its last byte
  last-one : get_or s d.at 0 ≡ 0x22 → d.at ≡ b - 1
  last-one q = let n = ascii-next s d.at starts (omega arith) in let e = ends in omega arith

  last-byte : quote (d ∷ []) ≡ eqb (get_or s (b - 1) 0) 0x22
  last-byte =
      let n = next-on s d.at starts in
      let e = ends in
      let w = wide-tail s d.at starts (b - 1) in
      let q = ascii-next s d.at starts in
      first-byte ∙ grind arith

  last-at : quote (d ∷ []) ≡ true → d.at ≡ b - 1
  last-at q = last-one (eqb-true (get_or s d.at 0) 0x22 (sym first-byte ∙ q))

-- ---- the loop

-- From a to b a text is left. What was dropped behind it and before it, the definition still carries.
pub record Left (s : List ℕ) (start end a b : ℕ) : Type 0 where
  pub ordered : a ≤ b
  pub within : b ≤ length s
  pub text : Text
  pub split : from s a ≡ text ++ from s b
  pub behind : Text
  pub ahead : Text
  pub same : strip (length text) (text ++ behind) (reverse_aux text ahead) b ≡ plainContent (length s) (from s start) (from s end)

-- at first nothing was dropped
pub left-all : (s : List ℕ) (start end : ℕ) → start ≤ end → end ≤ length s → Suffix (from s end) (from s start) → Left s start end start end
unfolding plainContent
left-all s start end h k x =
    let t = textOf (from s start) (from s end) in
    record {
      ordered = h;
      within = k;
      text = t;
      split = sym (ap (λ r. t ++ r) x.rest-is ∙ take-append-drop (length (from s start) - length (from s end)) (from s start));
      behind = [];
      ahead = [];
      same = ap (λ r. strip (length t) r (reverse t) end) (append-nil t) ∙ ap (strip (length t) t (reverse t)) (sym (place-from s end k));
    }

-- a last character
snoc : (c : Char) (v : Text) → (w : Text) × (d : Char) × (c ∷ v ≡ w ++ (d ∷ []))
snoc c [] = ([], c, refl)
snoc c (d ∷ v) = let h = snoc d v in (c ∷ h.0, h.1, ap {B = Text} (λ z. c ∷ z) h.2)

longer : {A : Type 0} (c : Char) (v r : Text) → r ≡ c ∷ (v ++ r) → A
longer c v r e = absurd (let z : length r ≡ suc (length (v ++ r)) = ap length e in let y = length-append v r in omega arith)

module _ (s : List ℕ) (start end a b : ℕ) where
  pub left-end : Left s start end a b → b ≤ a → tk.Str a b ≡ plainContent (length s) (from s start) (from s end)
  left-end h k = go h.text h.split h.same
    where
      go : (t : Text) → from s a ≡ t ++ from s b → strip (length t) (t ++ h.behind) (reverse_aux t h.ahead) b ≡ plainContent (length s) (from s start) (from s end)
          → tk.Str a b ≡ plainContent (length s) (from s start) (from s end)
      go [] x y = let o = h.ordered in let z : a ≡ b = omega arith in rw z (sym (strip-none h.behind h.ahead b) ∙ y)
      go (c ∷ v) x y = longer c v (from s b) (let o = h.ordered in let z : b ≡ a = omega arith in ap (from s) z ∙ x)

  pub left-stop : Left s start end a b → a < b → (get_or s a 0 ≡ 0x22 → ⊥) → tk.Str a b ≡ plainContent (length s) (from s start) (from s end)
  left-stop h k n = go h.text h.split h.same
    where
      inner : a < length s
      inner = let w = h.within in omega arith

      go : (t : Text) → from s a ≡ t ++ from s b → strip (length t) (t ++ h.behind) (reverse_aux t h.ahead) b ≡ plainContent (length s) (from s start) (from s end)
          → tk.Str a b ≡ plainContent (length s) (from s start) (from s end)
      go [] x y = absurd (let z = same-place s b a h.within (omega (arith, inner)) x in omega arith)
      go (c ∷ v) x y =
          let q = quote-first c (v ++ h.behind) (v ++ from s b) ∙ ap quote (sym x) ∙ quote-byte s a ∙ ne_eqb (get_or s a 0) 0x22 n in
          let p : c.at ≡ a = ap (place (length s)) (sym x) ∙ place-from s a (omega (arith, inner)) in
          ap (λ j. tk.Str j b) (sym p) ∙ sym (strip-bare (length v) c (v ++ h.behind) b (reverse_aux v (c ∷ h.ahead)) q) ∙ y

-- ---- a last quote, if one is left

module _ (s : List ℕ) (a b : ℕ) where
  pub off-most : lastOff s a b ≤ b
  unfolding lastOff
  off-most = grind arith

-- one turn: a first quote, and a last one if one is left
module _ (s : List ℕ) (start end a b : ℕ) (h : Left s start end a b) (k : a < b) (byte : get_or s a 0 ≡ 0x22) where
  abbrev LeftBetween : ℕ → ℕ → Type 0
  LeftBetween e f = Left s start end e f

  inner : a < length s
  inner = let w = h.within in omega arith

  tail : (c : Char) (v : Text) → from s a ≡ c ∷ (v ++ from s b) → from s (a + 1) ≡ v ++ from s b
  tail c v x = sym (past s a inner (omega arith)) ∙ ap (drop 1) x

  quoted : (c : Char) (v t : Text) → from s a ≡ c ∷ (v ++ from s b) → quote (c ∷ t) ≡ true
  quoted c v t x = quote-first c t (v ++ from s b) ∙ ap quote (sym x) ∙ quote-byte s a ∙ eq-eqb (get_or s a 0) 0x22 byte

  abbrev Same : Text → Type 0
  Same t = strip (length t) (t ++ h.behind) (reverse_aux t h.ahead) b ≡ plainContent (length s) (from s start) (from s end)

  -- the quote was all that was left
  left-last : (c : Char) → from s a ≡ c ∷ from s b → Same (c ∷ []) → LeftBetween (a + 1) (lastOff s (a + 1) b)
  unfolding lastOff
  left-last c x y =
      let t = tail c [] x in
      let z : a + 1 ≡ b = same-place s b (a + 1) h.within (omega (arith, inner)) t in
      rw (le-ltb (a + 1) b (omega arith))
      (record {
        ordered = omega arith;
        within = h.within;
        text = [];
        split = t;
        behind = h.behind;
        ahead = c ∷ h.ahead;
        same = sym (strip-one 0 c h.behind b (c ∷ h.ahead) (quoted c [] h.behind x) refl) ∙ y;
      })

  -- w and the character d are left behind it
  module _ (c : Char) (w : Text) (d : Char) (v : Text) (snocs : v ≡ w ++ (d ∷ [])) (x : from s a ≡ c ∷ (v ++ from s b)) (y : Same (c ∷ v)) where
    size : length v ≡ length w + 1
    size = ap length snocs ∙ length-append w (d ∷ [])

    more : (r : Text) → v ++ r ≡ w ++ (d ∷ r)
    more r = ap (λ t. t ++ r) snocs ∙ append_assoc w (d ∷ []) r

    turned : (r : Text) → reverse_aux v r ≡ d ∷ reverse_aux w r
    turned r = ap (λ t. reverse_aux t r) snocs ∙ reverse_aux-append w (d ∷ []) r

    rest : from s (a + 1) ≡ w ++ (d ∷ from s b)
    rest = tail c v x ∙ more (from s b)

    stands : ScriptText s (d ∷ from s b)
    stands = rw (← drop-append_seam w (d ∷ from s b), ← rest) (text-drop s (length w) (from s (a + 1)) (a + 1, refl))

    further : a + 1 < b
    further = ⊎_elim (λ l. l) (λ g.
        let z : a + 1 ≡ b = omega arith in
        absurd (let l : length (from s b) ≡ length (w ++ (d ∷ from s b)) = ap length (ap (from s) (sym z) ∙ rest) in omega (arith, length-append w (d ∷ from s b)))) (cases_lt (a + 1) b)

    left-two : quote (d ∷ []) ≡ true → LeftBetween (a + 1) (lastOff s (a + 1) b)
    unfolding lastOff
    left-two q =
        let at = last-at s b h.within d stands q in
        let e = sym (last-byte s b h.within d stands) ∙ q in
        let n : suc (length v) - 2 ≡ length w = omega (arith, size) in
        let f = further in
        let g : strip (length w) (w ++ (d ∷ h.behind)) (reverse_aux w (c ∷ h.ahead)) d.at ≡ strip (suc (length v)) (c ∷ (v ++ h.behind)) (reverse_aux v (c ∷ h.ahead)) b =
        sym (rw (turned (c ∷ h.ahead), more h.behind, ← n) (strip-two (length v) c (w ++ (d ∷ h.behind)) b d (reverse_aux w (c ∷ h.ahead)) (omega (arith, size)) (quoted c v _ x) (quote-first d _ [] ∙ q))) in
        rw (lt-ltb (a + 1) b further, e)
        (record {
          ordered = omega arith;
          within = let l = h.within in omega arith;
          text = w;
          split = rest ∙ ap (λ r. w ++ r) (sym (here s b h.within d stands) ∙ ap (from s) at);
          behind = d ∷ h.behind;
          ahead = c ∷ h.ahead;
          same = ap (strip (length w) (w ++ (d ∷ h.behind)) (reverse_aux w (c ∷ h.ahead))) (sym at) ∙ g ∙ y;
        })

    left-one : quote (d ∷ []) ≡ false → LeftBetween (a + 1) (lastOff s (a + 1) b)
    unfolding lastOff
    left-one q =
        let e = sym (last-byte s b h.within d stands) ∙ q in
        let n : suc (length v) - 1 ≡ length v = omega arith in
        let f = further in
        let back : quote (reverse_aux v (c ∷ h.ahead)) ≡ false = ap quote (turned (c ∷ h.ahead)) ∙ quote-first d _ [] ∙ q in
        rw (lt-ltb (a + 1) b further, e)
        (record {
          ordered = omega arith;
          within = h.within;
          text = v;
          split = tail c v x;
          behind = h.behind;
          ahead = c ∷ h.ahead;
          same =
              ap (λ m. strip m (v ++ h.behind) (reverse_aux v (c ∷ h.ahead)) b) (sym n)
              ∙ sym (strip-one (length v) c (v ++ h.behind) b (reverse_aux v (c ∷ h.ahead)) (quoted c v _ x) (rw back (and-false (leb 2 (suc (length v)))))) ∙ y;
        })

  pub left-next : LeftBetween (a + 1) (lastOff s (a + 1) b)
  left-next = go h.text h.split h.same
    where
      go : (t : Text) → from s a ≡ t ++ from s b → Same t → LeftBetween (a + 1) (lastOff s (a + 1) b)
      go [] x y = absurd (let z = same-place s b a h.within (omega (arith, inner)) x in omega arith)
      go (c ∷ []) x y = left-last c x y
      go (c ∷ u ∷ v) x y =
          let n = snoc u v in
          ⊎_elim (left-two c n.0 n.1 (u ∷ v) n.2 x y) (left-one c n.0 n.1 (u ∷ v) n.2 x y) (cases_Bool (quote (n.1 ∷ [])))

-- a plain string ends behind its start
pub string-tail : (s : List ℕ) (start end : ℕ) → quote (from s start) ≡ true → closeString false (from s start) ≡ closed (from s end) → Suffix (from s end) (from s start)
string-tail s start end q c = (plain-strict (from s start) (from s end) q c).0

-- ---- several turns at once

abbrev pub Quotes : List ℕ → ℕ → ℕ → Type 0
Quotes s i j = (k : ℕ) → i ≤ k → k < j → get_or s k 0 ≡ 0x22

-- n quotes at each end of the bytes from a to b
pub record Ends (s : List ℕ) (n a b : ℕ) : Type 0 where
  pub apart : a + n + n ≤ b
  pub first : Quotes s a (a + n)
  pub last : Quotes s (b - n) b

module _ (s : List ℕ) (start end n a b : ℕ) where
  -- one turn that takes a quote off both ends
  left-both : Ends s (suc n) a b → Left s start end a b → Left s start end (a + 1) (b - 1)
  unfolding lastOff
  left-both h l =
      let k = h.apart in
      rw (lt-ltb (a + 1) b (omega arith), h.last (b - 1) (omega arith) (omega arith)) at (left-next s start end a b l (omega arith) (h.first a (omega arith) (omega arith)))

  ends-next : Ends s (suc n) a b → Ends s n (a + 1) (b - 1)
  ends-next h =
      let k = h.apart in
      record { apart = omega arith; first = λ m u v. h.first m (omega arith) (omega arith); last = λ m u v. h.last m (omega arith) (omega arith) }

-- n such turns
pub left-many : (s : List ℕ) (start end n a b : ℕ) → Ends s n a b → Left s start end a b → Left s start end (a + n) (b - n)
left-many s start end zero a b h l = rw (add-zero a, sub-zero b) l
left-many s start end (suc n) a b h l =
    let x : a + suc n ≡ a + 1 + n = omega arith in
    let y : b - suc n ≡ b - 1 - n = omega arith in
    rw (x, y) (left-many s start end n (a + 1) (b - 1) (ends-next s start end n a b h) (left-both s start end n a b h l))

-- a run of quotes, byte by byte
pub quotes-each : (s : List ℕ) (i : ℕ) → Quotes s i (end (λ b. eqb b 0x22 || eqb b 0x22) s i)
quotes-each s i k u v = eqb-true (get_or s k 0) 0x22 (sym (twice _) ∙ passed (λ b. eqb b 0x22 || eqb b 0x22) s i k u v)

module _ (s : List ℕ) where
  sixteen-quotes : (i : ℕ) → sixteenAt s i ≡ true → Quotes s i (i + 16)
  sixteen-quotes i e k u v = quotes-each s i k u (omega (arith, leb-true 16 _ e))

  blocks-ends : (a b : ℕ) → blocksOff s a b ≡ true → Ends s 16 a b
  unfolding blocksOff
  blocks-ends a b e =
      let f : (leb (a + 32) b ≡ true) × (sixteenAt s a ≡ true) × (sixteenAt s (b - 16) ≡ true) = grind arith in
      let h = leb-true (a + 32) b f.0 in
      record { apart = omega arith; first = sixteen-quotes a f.1; last = λ k u v. sixteen-quotes (b - 16) f.2 k u (omega arith) }

  pub blocks_apart : (a b : ℕ) → blocksOff s a b ≡ true → a + 32 ≤ b
  blocks_apart a b e = let k = (blocks-ends a b e).apart in omega arith

  -- all that can be made by sixteens
  pub left-taken : (start end : ℕ) (c : Span) → c ≡ blocksTaken s start end → Left s start end start end → Left s start end c.start c.end
  unfolding blocksTaken
  left-taken start end c q l =
      rw q
      (steps-keep (blockMore s) blockLess (λ d. Left s start end d.start d.end) (λ d e k. left-many s start end 16 d.start d.end (blocks-ends d.start d.end e) k)
      (end - start) (spanAt start end) l)

pub ruleset strip_turns = (left-next, off-most)
