-- From the mask of one load to the bytes that stand there, and from these to a run.
use Rattle.std.proofs.Common.{◌≡◌, ℕ, zero, suc, ◌+◌, ◌*◌, ◌%◌, ◌^◌, ◌<◌, ◌≤◌, eqb, ltb, leb, Bool, true, false, not, ◌&&◌, ◌||◌, cond, List, [], ◌∷◌, map, length, drop, refl, sym, ap, ap₂, ◌∙◌, inl, inr, arith, length-drop, eq-eqb, ne_eqb, le-leb, bit_or, bit_and}
use Rattle.std.proofs.lemmas.Simd.{length-chunk, chunk-drop, mask_l-mod, leading_from_mask_l, trailing_mask_l}
use Rattle.std.proofs.lemmas.List.{length-map}
use Rattle.std.proofs.lemmas.List.Folds.{prefix_len-append}
use Rattle.std.proofs.lemmas.List.Sums.{prefix_len-le-length}
use Rattle.std.proofs.lemmas.Bool.{lt-leb, cases_eq, false_from_ne_true}
use Rattle.std.specs.List.{prefix_len}
use lib.Count.{count_trailing_zeros}
use lib.Lanes.{chunk, mask_l, top}
use Rattle.chars.specs.code.Runs.{stepsIn, stepsOver}

-- ---- lanes that a test computes

-- what a comparison puts into a lane
abbrev pub lane : Bool → ℕ
lane b = cond b 255 0

each-lane : (f : ℕ → ℕ) (p : ℕ → Bool) → ((x : ℕ) → top 7 (f x) ≡ p x) → (v : List ℕ) → map (top 7) (map f v) ≡ map p v
each-lane f p e [] = refl
each-lane f p e (x ∷ v) = ap₂ (λ b l. b ∷ l) (e x) (each-lane f p e v)

-- the mask of lanes that are computed from v one by one
pub masked : (f : ℕ → ℕ) (p : ℕ → Bool) → ((x : ℕ) → top 7 (f x) ≡ p x) → (v z : List ℕ) → length v ≤ 64 → z ≡ map f v
    → mask_l (map (top 7) z) % 2 ^ 64 ≡ mask_l (map p v)
masked f p e v z few i =
    ap (λ l. mask_l (map (top 7) l) % 2 ^ 64) i ∙ ap (λ l. mask_l l % 2 ^ 64) (each-lane f p e v) ∙ mask_l-mod (map p v) 64 (omega (arith, few, length-map v p))

either : (a b : Bool) → top 7 (bit_or (lane a) (lane b)) ≡ (a || b)
either a b = grind arith

both : (a b : Bool) → top 7 (bit_and (lane a) (lane b)) ≡ (a && b)
both a b = grind arith

pub out-of : (low high x : ℕ) → top 7 (bit_or (lane (ltb x low)) (lane (ltb high x))) ≡ not (leb low x && leb x high)
out-of low high x = either (ltb x low) (ltb high x) ∙ grind arith

pub above : (high x : ℕ) → top 7 (lane (ltb high x)) ≡ not (leb 0 x && leb x high)
above high x = go (ltb high x) refl
  where
    go : (b : Bool) → ltb high x ≡ b → top 7 (lane b) ≡ not (leb 0 x && leb x high)
    go b e = grind arith

pub other : (a b x : ℕ) → top 7 (bit_and (lane (not (eqb x a))) (lane (not (eqb x b)))) ≡ not (eqb x a || eqb x b)
other a b x = both (not (eqb x a)) (not (eqb x b)) ∙ grind arith

-- by four comparisons, one after another
pub none : (a b c d : Bool) → top 7 (bit_or (bit_or (bit_or (lane a) (lane b)) (lane c)) (lane d)) ≡ not (not (((a || b) || c) || d))
none a b c d = grind arith

-- ---- a run, n bytes at a time

module _ (q : ℕ → Bool) where
  abbrev out : ℕ → Bool
  out b = not (q b)

  inside-out : (x : ℕ) → q x ≡ not (out x)
  inside-out x = grind arith

  same-run : (l : List ℕ) → prefix_len q l ≡ prefix_len (λ x. not (out x)) l
  same-run [] = refl
  same-run (x ∷ l) = ap₂ (λ b n. cond b (1 + n) 0) (inside-out x) (same-run l)

  none-fails : (b : Bool) (n l m : ℕ) → n ≤ l → cond (not b) (1 + n) 0 ≡ 1 + l → (n ≡ l → m ≡ 0) → cond b 1 0 + 2 * m ≡ 0
  none-fails true n l m le e z = absurd (let no : ⊥ = omega arith in no)
  none-fails false n l m le e z = let w = z (omega arith) in omega arith

  all-pass : (l : List ℕ) → prefix_len (λ x. not (out x)) l ≡ length l → mask_l (map out l) ≡ 0
  all-pass [] e = refl
  all-pass (x ∷ l) e = none-fails (out x) _ (length l) _ (prefix_len-le-length (λ y. not (out y)) l) (omega arith) (all-pass l)

  module _ (n : ℕ) (s : List ℕ) (i : ℕ) (room : i + n ≤ length s) where
    abbrev block : List ℕ
    block = chunk i n s

    abbrev rest : ℕ
    rest = prefix_len q (drop (i + n) s)

    split : prefix_len q (drop i s) ≡ cond (eqb (prefix_len q block) (length block)) (length block + rest) (prefix_len q block)
    split = ap (prefix_len q) (chunk-drop i n s) ∙ prefix_len-append q block (drop (i + n) s)

    -- no byte of the block is outside: it goes on behind it
    pub run-on : (m : ℕ) → m ≡ mask_l (map out block) → m ≡ 0 → prefix_len q (drop i s) ≡ n + rest
    run-on m e z =
        split ∙ ap (λ b. cond b (length block + rest) (prefix_len q block)) (eq-eqb _ _ (same-run block ∙ leading_from_mask_l out block (sym e ∙ z)))
        ∙ ap (λ m. m + rest) (length-chunk i n s room)

    some-fails : 0 < mask_l (map out block) → prefix_len q block ≡ length block → ⊥
    some-fails m e = let z = all-pass block (sym (same-run block) ∙ e) in omega arith

    -- it ends at the first that is outside
    pub run-stops : n ≤ 64 → (m : ℕ) → m ≡ mask_l (map out block) → 0 < m → prefix_len q (drop i s) ≡ count_trailing_zeros 64 m
    run-stops few m e h =
        let some : 0 < mask_l (map out block) = omega arith in
        split ∙ ap (λ b. cond b (length block + rest) (prefix_len q block)) (ne_eqb _ _ (some-fails some)) ∙ same-run block
        ∙ sym (trailing_mask_l out 64 block (omega (arith, length-chunk i n s room)) some) ∙ ap (count_trailing_zeros 64) (sym e)

    some-few : 0 < mask_l (map out block) → prefix_len q (drop i s) < n
    some-few m =
        let e = split ∙ ap (λ b. cond b (length block + rest) (prefix_len q block)) (ne_eqb _ _ (some-fails m)) in
        let ne = some-fails m in
        omega (arith, e, length-chunk i n s room, prefix_len-le-length q block)

    -- does it have them all?
    pub block-in : (m : ℕ) → m ≡ mask_l (map out block) → eqb m 0 ≡ leb n (prefix_len q (drop i s))
    block-in m e = elim (cases_eq m 0) [
      | inl z ↦ eq-eqb m 0 z ∙ sym (le-leb n (prefix_len q (drop i s)) (omega (arith, run-on m e z)))
      | inr z ↦ ne_eqb m 0 z ∙ sym (lt-leb n (prefix_len q (drop i s)) (some-few (omega arith)))
    ]

  -- so many bytes do not stand there
  pub block-out : (n : ℕ) (s : List ℕ) (i : ℕ) → 0 < n → length s < i + n → false ≡ leb n (prefix_len q (drop i s))
  block-out n s i some h = sym (lt-leb n (prefix_len q (drop i s)) (omega (arith, prefix_len-le-length q (drop i s), length-drop i s)))

-- ---- a loop that passes `step` bytes at a time, by a test of them

-- where the test does not hold, the loop ends
pub over-end : (step : ℕ) (test : List ℕ → ℕ → Bool) (s : List ℕ) (i : ℕ) → test s i ≡ false → i ≡ stepsOver step test s i
unfolding stepsIn
over-end step test s i e = grind arith

-- where the test holds, so many bytes stand
module _ (step : ℕ) (test : List ℕ → ℕ → Bool) (s : List ℕ) (moves : 0 < step) (stand : (i : ℕ) → test s i ≡ true → i + step ≤ length s) where
  none-past : (i : ℕ) → length s ≤ i → test s i ≡ false
  none-past i l = false_from_ne_true (test s i) (λ e. let h = stand i e in omega arith)

  -- one step more than suffices changes nothing
  one-more : (n i : ℕ) → length s ≤ i + n → stepsIn (suc n) step (test s) i ≡ stepsIn n step (test s) i
  unfolding stepsIn
  one-more zero i l = rw (none-past i (omega arith))
  one-more (suc n) i l = ap (λ x. cond (test s i) x i) (one-more n (i + step) (omega arith))

  steps-on : (n i : ℕ) → length s ≤ n → test s i ≡ true → stepsIn n step (test s) (i + step) ≡ stepsIn n step (test s) i
  unfolding stepsIn
  steps-on zero i l e = absurd (let h = stand i e in omega arith)
  steps-on (suc n) i l e = one-more n (i + step) (omega arith) ∙ rw e

  pub over-on : (i : ℕ) → test s i ≡ true → stepsOver step test s (i + step) ≡ stepsOver step test s i
  over-on i = steps-on (length s) i (omega arith)
