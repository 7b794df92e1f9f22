-- Characters and symbols at a place of a script, by the character that is peeked.
use Rattle.token.proofs.lexer.Laws.{drop-place}
use Rattle.token.proofs.ident.Laws.{token-at, next-later}
use Rattle.token.proofs.lexer.Words.{ℕ, ◌+◌, ◌≤◌, ◌<◌, ◌≡◌, refl, sym, ◌∙◌, ap, subst, Bool, true, false, cond, not, ◌&&◌, ◌||◌, and-true, and_comm, or-false, ◌⊎◌, inl, inr, List, ◌∷◌, Some, None, Err, same_Some, none-some, length, drop, get_or, eqb, ltb, arith, ltb-true, ltb-false, lt-ltb, leb-true, le-leb, eqb-true, eq-eqb, ne_eqb, between, oneOf, isIdStart, isOpSign, isPrintable, Char, Text, from, place, headIs, idStart, afterRun, and-both, alike, code_laws, class-laws, text-laws, sign-no-semi, no-sign, no-start, begins, backslash, apostrophe, isAny, opSign, freeSign, opensComment, plainChar, Found, Esc, unbroken, broken, afterSlash, afterIdent, tickNext, escapedOf, scanCharSym, classAt, upToBlank, startsWord, inWord, wideClass, asksMore, inOperator, isSign, inRun, cursorAt, hereOf, runTo, lowBefore, pieceOf, tokenTo, refusedFor, refusedBy, refusalBy, escEnd, escapeOf, endAt, escapedChar, symbolOf, plainOf, endOf, runSymbolEnd, Cursor, Refused, zero-one, by-test}
use Rattle.token.specs.declared.names.Here as names
use Rattle.token.specs.declared.kinds.TokenKind.TheVariants as tk
use Rattle.token.specs.declared.refusal.Refusal.TheVariants as refusal
use Rattle.chars.specs.declared.classes.Classes.{Classes}
use Rattle.chars.specs.declared.utf8.Decoded.{Decoded}
use Rattle.chars.specs.code.Classes.{answers}
use Rattle.token.specs.code.Cursor.{peekAt}
use Rattle.token.proofs.theorems.Runs.{after-next}
use Rattle.token.proofs.byte_class.Laws.{class-start, class-sign, class-wide}
use Rattle.token.proofs.cursor.Bytes.{any-byte, one-byte, inside, past}
use Rattle.token.proofs.cursor.Laws.{Here, peeked}
use Rattle.token.proofs.names.Bytes.{class-inside}
use Rattle.token.proofs.names.Laws.{no-more, run-clear, run-rest, word-bounds, word-done, word-kept, word-over, here-is, run-here}
use Rattle.token.proofs.ident.Signs.{low-byte, wide-clear}
open code_laws use {agree, carry-span, in-between}
open class-laws use {sign-no-start}
open text-laws use {text-drop, text-place, at-char, at-ascii, at-end, place-from, wide-code}

-- ---- `'`

module _ (s : List ℕ) (i : ℕ) where
  pub tick-byte : apostrophe (from s i) ≡ eqb (get_or s i 0) 0x27
  tick-byte = any-byte "'" refl s i ∙ or-false (eqb (get_or s i 0) 0x27)

  pub past-tick : eqb (get_or s i 0) 0x27 ≡ true → (i + 1 ≤ length s) × (drop 1 (from s i) ≡ from s (i + 1))
  past-tick e =
      let b = eqb-true (get_or s i 0) 0x27 e in
      let h = inside s i (omega arith) in
      (omega arith, past s i h (omega arith))

-- the byte behind an escape
pub tick_next : (s : List ℕ) (i : ℕ) → i ≤ length s
    → pieceOf (length s) (tickNext (from s i)) ≡ cond (eqb (get_or s i 0) 0x27) (tokenTo tk.CharSym (cursorAt (i + 1))) (refusedFor refusal.NoTick i)
unfolding pieceOf refusalBy
tick_next s i h =
    by-test (eqb (get_or s i 0) 0x27) (λ e. let t = past-tick s i e in rw (tick-byte s i ∙ e, e) (sym (token-at s tk.CharSym (cursorAt (i + 1)) _ t.0 (sym t.1))))
    (λ e. rw (tick-byte s i ∙ e, e) (ap (refusedBy 15) (place-from s i h)))

-- ---- an escape, from behind its backslash

module _ (s : List ℕ) (i : ℕ) where
  pub escape-ends : i ≤ length s → (end : Cursor) → endAt end ≡ escapeOf (length s) (from s i)
      → (end.at ≤ length s) × (tickNext (from s end.at) ≡ escapedChar (from s i))
  unfolding escapeOf
  escape-ends h end e = go (afterSlash (from s i)) e
    where
      go : (a : Esc) → endAt end ≡ escEnd (length s) (from s i) a → (end.at ≤ length s) × (tickNext (from s end.at) ≡ escapedOf (from s i) a)
      go (unbroken k) e =
          let y : end ≡ cursorAt (place (length s) (drop k (from s i))) = cc in
          let z : end.at ≡ place (length s) (drop k (from s i)) = ap (λ d. d.at) y in
          let w = (drop-place k s i h).1 in
          (omega arith, ap (λ j. tickNext (from s j)) z ∙ ap tickNext (text-place s (drop k (from s i)) (text-drop s k (from s i) (i, refl))))
      go (broken j q) e = zero-one (cc)

  pub escape-wrong : (e : Refused) → Err e ≡ escapeOf (length s) (from s i) → Err e ≡ pieceOf (length s) (escapedChar (from s i))
  unfolding escapeOf pieceOf
  escape-wrong w e = go (afterSlash (from s i)) e
    where
      go : (a : Esc) → Err w ≡ escEnd (length s) (from s i) a → Err w ≡ pieceOf (length s) (escapedOf (from s i) a)
      go (unbroken k) e = zero-one (cc)
      go (broken k q) e = cc

-- ---- a symbol, by the first character of its name

symbol-at : (c : Char) (r t : Text) → t ≡ c ∷ r
    → symbolOf t ≡ cond (isIdStart c.code) (Found.token tk.CharSym (afterIdent false r))
    (cond (isOpSign c.code && not (opensComment t)) (Found.token tk.CharSym (afterRun freeSign t))
    (cond (oneOf ";" c.code && not (opSign r)) (Found.token tk.CharSym r) (Found.stuck 16 t)))
unfolding symbolOf
symbol-at c r t e = rw e

-- no escape: a character that stands for itself, or a symbol
plain-at : (c : Char) (r t : Text) → t ≡ c ∷ r → backslash t ≡ false
    → plainOf t ≡ cond (isPrintable c.code && apostrophe r) (Found.token tk.CharSym (drop 1 r)) (symbolOf t)
unfolding plainOf
plain-at c r t e f = rw (f, e, and-true (isPrintable c.code))

-- ---- where it ends

end-token : (s : List ℕ) (e : ℕ) (t : Text) (f : Found) → e ≤ length s → from s e ≡ t → f ≡ Found.token tk.CharSym t → Some (cursorAt e) ≡ endOf (length s) f
end-token s e t f h q z = rw (z, ← q, place-from s e h)

end-none : (n : ℕ) (t : Text) (f : Found) → f ≡ Found.stuck 16 t → None ≡ endOf n f
end-none n t f z = rw z

pub none-at-end : (s : List ℕ) (i : ℕ) → length s ≤ i → None ≡ endOf (length s) (plainOf (from s i))
unfolding plainOf symbolOf begins
none-at-end s i h = rw (at-end s i h)

no-backslash : (s : List ℕ) (i : ℕ) → (get_or s i 0 ≡ 0x5C → ⊥) → backslash (from s i) ≡ false
unfolding begins
no-backslash s i n = one-byte 0x5C (omega arith) (omega arith) s i ∙ ne_eqb (get_or s i 0) 0x5C n

-- the run of operator signs that stands there
pub run-symbol : (s : List ℕ) (i : ℕ) (e : Cursor) → opensComment (from s i) ≡ false → e.at ≤ length s → from s e.at ≡ afterRun freeSign (from s i)
    → Some e ≡ runSymbolEnd (length s) (from s i)
unfolding runSymbolEnd
run-symbol s i e o l q = sym (rw (o, ← q, place-from s e.at l))

pub no-run : (s : List ℕ) (i : ℕ) → opensComment (from s i) ≡ true → None ≡ runSymbolEnd (length s) (from s i)
unfolding runSymbolEnd
no-run s i o = sym (rw o)

-- by the character that stands there
module _ (s : List ℕ) (i code next : ℕ) (h : Here s i code next) where
  -- an operator sign
  run-ends : isOpSign code ≡ true → runSymbolEnd (length s) (from s i) ≡ endOf (length s) (symbolOf (from s i))
  unfolding runSymbolEnd
  run-ends f =
      by-test (opensComment (from s i)) (λ q.
      rw q (end-none (length s) (from s i) _ (symbol-at _ _ (from s i) h.text ∙ rw (sign-no-start code f, f, q, sign-no-semi code f)))) (λ q.
      let z : symbolOf (from s i) ≡ Found.token tk.CharSym (afterRun freeSign (from s i)) = symbol-at _ _ (from s i) h.text ∙ rw (sign-no-start code f, f, q) in
      rw q (sym (ap (endOf (length s)) z)))

  module _ (n : get_or s i 0 ≡ 0x5C → ⊥) where
    closed-is : plainOf (from s i) ≡ cond (isPrintable code && eqb (get_or s next 0) 0x27) (Found.token tk.CharSym (drop 1 (from s next))) (symbolOf (from s i))
    closed-is =
        plain-at _ _ (from s i) h.text (no-backslash s i n)
        ∙ ap (λ b. cond (isPrintable code && b) (Found.token tk.CharSym (drop 1 (from s next))) (symbolOf (from s i))) (tick-byte s next)

    pub closed-ends : isPrintable code && eqb (get_or s next 0) 0x27 ≡ true → Some (cursorAt (next + 1)) ≡ endOf (length s) (plainOf (from s i))
    closed-ends e =
        let u = past-tick s next (and-both (isPrintable code) (eqb (get_or s next 0) 0x27) e).1 in
        end-token s (next + 1) _ _ u.0 (sym u.1) (closed-is ∙ rw e)

    -- where no character is closed, a symbol
    module _ (z : isPrintable code && eqb (get_or s next 0) 0x27 ≡ false) where
      symbol : endOf (length s) (symbolOf (from s i)) ≡ endOf (length s) (plainOf (from s i))
      symbol = sym (ap (endOf (length s)) (closed-is ∙ rw z))

      pub run-found : isOpSign code ≡ true → runSymbolEnd (length s) (from s i) ≡ endOf (length s) (plainOf (from s i))
      run-found f = run-ends f ∙ symbol

      pub word-found : isIdStart code ≡ true → (e : ℕ) → e ≤ length s → from s e ≡ afterIdent false (from s next) → Some (cursorAt e) ≡ endOf (length s) (plainOf (from s i))
      word-found f e l q = end-token s e _ _ l q (symbol-at _ _ (from s i) h.text ∙ rw f) ∙ symbol

      -- neither a sign nor an id start
      module _ (g : isOpSign code ≡ false) (f : isIdStart code ≡ false) where
        rest-is : symbolOf (from s i) ≡ cond (eqb code 0x3B && not (opSign (from s next))) (Found.token tk.CharSym (from s next)) (Found.stuck 16 (from s i))
        rest-is = symbol-at _ _ (from s i) h.text ∙ rw (f, g, or-false (eqb code 0x3B))

        pub semi-found : eqb code 0x3B && not (opSign (from s next)) ≡ true → Some (cursorAt next) ≡ endOf (length s) (plainOf (from s i))
        semi-found e = end-token s next (from s next) _ h.within refl (rest-is ∙ rw e) ∙ symbol

        pub none-found : eqb code 0x3B && not (opSign (from s next)) ≡ false → None ≡ endOf (length s) (plainOf (from s i))
        none-found e = end-none (length s) (from s i) _ (rest-is ∙ rw e) ∙ symbol

-- ---- ASCII, by its byte

module _ (s : List ℕ) (i : ℕ) (n : get_or s i 0 ≡ 0x5C → ⊥) where
  abbrev byte : ℕ
  byte = get_or s i 0

  abbrev closes : Bool
  closes = eqb (get_or s (i + 1) 0) 0x27 && between 0x20 0x7E byte

  behind : i < length s → byte < 0x80 → Here s i byte (i + 1)
  behind h l = record { text = at-ascii s i h l; in-script = h; on = omega arith; within = omega arith }

  printed : byte < 0x80 → closes ≡ isPrintable byte && eqb (get_or s (i + 1) 0) 0x27
  unfolding isPrintable
  printed l =
      and_comm (eqb (get_or s (i + 1) 0) 0x27) (between 0x20 0x7E byte) ∙ ap (λ z. z && eqb (get_or s (i + 1) 0) 0x27) (agree _ _ (carry-span (λ b. alike (between 0x20 0x7E b) (isPrintable b)) 0 128 byte refl (omega arith) l))

  pub char-ends : closes ≡ true → Some (cursorAt (i + 1 + 1)) ≡ endOf (length s) (plainOf (from s i))
  char-ends e =
      let k = in-between 0x20 0x7E byte (and-both (eqb (get_or s (i + 1) 0) 0x27) (between 0x20 0x7E byte) e).1 in
      let h = inside s i (omega (arith, k.0)) in
      let l : byte < 0x80 = omega (arith, k.1) in
      closed-ends s i byte (i + 1) (behind h l) n (sym (printed l) ∙ e)

-- an id start of ASCII, and the place behind it
pub start-behind : (s : List ℕ) (i : ℕ) → not (upToBlank (classAt s i)) && startsWord (classAt s i) ≡ true
    → (i < length s) × (i + 1 ≤ length s) × (from s (i + 1) ≡ drop 1 (from s i)) × (get_or s i 0 < 0x80) × (isIdStart (get_or s i 0) ≡ true)
start-behind s i u =
    let h = class-inside s i (λ z. not (upToBlank z) && startsWord z) refl u in
    let b = and-both (ltb (get_or s i 0) 0x80) (isIdStart (get_or s i 0)) (sym (class-start (get_or s i 0)) ∙ u) in
    let l = ltb-true (get_or s i 0) 0x80 b.0 in
    (h, omega arith, sym (ap (drop 1) (at-ascii s i h l)), l, b.1)

-- The identifier from i on, whose first character ends at j, and whose ASCII id characters and underscores end at e.
module _ (s : List ℕ) (i j : ℕ) (h : i < length s) (k : j ≤ length s) (r : from s j ≡ drop 1 (from s i)) (e : names.Here) (q : e ≡ hereOf s (runTo inWord s j)) where
  pub name-word : (i < e.at) × (e.at ≤ length s) × (inWord e.class.number ≡ false)
  name-word =
      let l = next-later s i j h k r in
      let w = word-bounds s i j h l k r in
      let p = (here-is s e _ q).0 in
      (omega (arith, l, w.0, p), omega (arith, w.1, p), ap (λ (z : names.Here). inWord z.class.number) q ∙ word-done s j)

  -- it goes on there
  pub name-more : (t : Text) → t ≡ afterIdent (lowBefore s i e.at) (from s e.at) → t ≡ afterIdent false (from s j)
  name-more t p =
      p ∙ ap (λ x. afterIdent (lowBefore s i x) (from s x)) (here-is s e _ q).0 ∙ word-kept s i j h (next-later s i j h k r) k r ∙ ap (afterIdent false) (sym r)

  -- nothing makes more of it
  pub name-over : asksMore e.class.number ≡ false → from s e.at ≡ afterIdent false (from s j)
  name-over m =
      let v = no-more e.class.number (lowBefore s i e.at) (ap (λ a. a && (not (isSign e.class.number) || lowBefore s i e.at)) m) in
      name-more (from s e.at) (sym (word-over s e (run-here s _ e q) name-word.2 (lowBefore s i e.at) v.0 v.1))

-- a symbol that ends with its ASCII bytes
module _ (s : List ℕ) (i : ℕ) (n : get_or s i 0 ≡ 0x5C → ⊥) (z : eqb (get_or s (i + 1) 0) 0x27 && between 0x20 0x7E (get_or s i 0) ≡ false) where
  open-here : get_or s i 0 < 0x80 → isPrintable (get_or s i 0) && eqb (get_or s (i + 1) 0) 0x27 ≡ false
  open-here l = sym (printed s i n l) ∙ z

  module _ (e : names.Here) where
    pub ascii-run : inOperator e.class.number ≡ false → inRun (classAt s i) ≡ true → e ≡ hereOf s (runTo inRun s (i + 1)) → Some (cursorAt e.at) ≡ endOf (length s) (plainOf (from s i))
    ascii-run m k q =
        let o : isSign (classAt s i) ≡ true = let l = leb-true 160 (classAt s i) k in le-leb 142 (classAt s i) (omega arith) in
        let b = and-both (ltb (get_or s i 0) 0x80) (isOpSign (get_or s i 0)) (sym (class-sign (get_or s i 0)) ∙ o) in
        let l = ltb-true (get_or s i 0) 0x80 b.0 in
        let h = class-inside s i inRun refl k in
        let r = run-rest s i h k e q m in
        run-symbol s i (cursorAt e.at) (run-clear s i k) r.1 r.2 ∙ run-found s i _ (i + 1) (behind s i n h l) n (open-here l) b.1

  -- an identifier
  pub ascii-word : not (upToBlank (classAt s i)) && startsWord (classAt s i) ≡ true → (e : ℕ) → e ≤ length s → from s e ≡ afterIdent false (from s (i + 1))
      → Some (cursorAt e) ≡ endOf (length s) (plainOf (from s i))
  ascii-word u e k q = let b = start-behind s i u in word-found s i _ (i + 1) (behind s i n b.0 b.3) n (open-here b.3) b.4 e k q

  -- an operator
  pub ascii-op : isSign (classAt s i) ≡ true → runSymbolEnd (length s) (from s i) ≡ endOf (length s) (plainOf (from s i))
  ascii-op o =
      let b = and-both (ltb (get_or s i 0) 0x80) (isOpSign (get_or s i 0)) (sym (class-sign (get_or s i 0)) ∙ o) in
      let l = ltb-true (get_or s i 0) 0x80 b.0 in
      run-found s i _ (i + 1) (behind s i n (class-inside s i isSign refl o) l) n (open-here l) b.1

  -- a `;` that no sign follows
  pub ascii-semi : get_or s i 0 ≡ 0x3B → opSign (from s (i + 1)) ≡ false → Some (cursorAt (i + 1)) ≡ endOf (length s) (plainOf (from s i))
  ascii-semi e o =
      let h = inside s i (omega (arith, e)) in
      let l : get_or s i 0 < 0x80 = omega (arith, e) in
      semi-found s i _ (i + 1) (behind s i n h l) n (open-here l) (ap isOpSign e ∙ no-sign ";" refl 0x3B refl) (ap isIdStart e ∙ no-start ";" refl 0x3B refl) (rw (e, o) refl)

  -- none of these, and nothing past ASCII
  pub ascii-none : not (upToBlank (classAt s i)) && startsWord (classAt s i) ≡ false → isSign (classAt s i) ≡ false
      → eqb (get_or s i 0) 0x3B && not (opSign (from s (i + 1))) ≡ false → eqb (classAt s i) wideClass ≡ false → None ≡ endOf (length s) (plainOf (from s i))
  ascii-none u o e w =
      by-test (ltb i (length s)) (λ y.
      let h = ltb-true i (length s) y in
      let l = low-byte (get_or s i 0) w in
      let low : (p : ℕ → Bool) → ltb (get_or s i 0) 0x80 && p (get_or s i 0) ≡ false → p (get_or s i 0) ≡ false =
      λ p z. sym (ap (λ x. x && p (get_or s i 0)) (lt-ltb (get_or s i 0) 0x80 l)) ∙ z in
      none-found s i _ (i + 1) (behind s i n h l) n (open-here l) (low isOpSign (sym (class-sign (get_or s i 0)) ∙ o)) (low isIdStart (sym (class-start (get_or s i 0)) ∙ u)) e)
      (λ y. none-at-end s i (ltb-false i (length s) y))

-- ---- past ASCII, by one look

module _ (s : List ℕ) (i : ℕ) (w : eqb (classAt s i) wideClass ≡ true) (d : Decoded) (c : Cursor) (p : Some (d, c) ≡ peekAt s i) where
  high : 0x80 ≤ get_or s i 0
  high = leb-true 0x80 (get_or s i 0) (sym (class-wide (get_or s i 0)) ∙ w)

  no-slash : get_or s i 0 ≡ 0x5C → ⊥
  no-slash e = let h = high in omega arith

  pub wide-here : Here s i d.code c.at
  wide-here = let k = peeked s i d c p in subst (Here s i d.code) (sym k.1) k.0.here

  pub wide-behind : from s c.at ≡ drop 1 (from s i)
  wide-behind = sym (ap (drop 1) wide-here.text)

  -- what the four classes say
  told : (f : Classes → Bool) → f d.classes ≡ f (answers d.code)
  told f = ap f (peeked s i d c p).0.classes

  printed-is : d.classes.printable && eqb (get_or s c.at 0) 0x27 ≡ isPrintable d.code && eqb (get_or s c.at 0) 0x27
  printed-is = ap (λ z. z && eqb (get_or s c.at 0) 0x27) (told (λ z. z.printable))

  pub wide-closed : d.classes.printable && eqb (get_or s c.at 0) 0x27 ≡ true → Some (cursorAt (c.at + 1)) ≡ endOf (length s) (plainOf (from s i))
  wide-closed e = closed-ends s i d.code c.at wide-here no-slash (sym printed-is ∙ e)

  module _ (z : d.classes.printable && eqb (get_or s c.at 0) 0x27 ≡ false) where
    open-wide : isPrintable d.code && eqb (get_or s c.at 0) 0x27 ≡ false
    open-wide = sym printed-is ∙ z

    pub wide-name : d.classes.id_start ≡ true → (e : ℕ) → e ≤ length s → from s e ≡ afterIdent false (from s c.at) → Some (cursorAt e) ≡ endOf (length s) (plainOf (from s i))
    wide-name f e k q = word-found s i d.code c.at wide-here no-slash open-wide (sym (told (λ z. z.id_start)) ∙ f) e k q

    -- the first sign is free, since no comment begins past ASCII
    pub wide-run : d.classes.op_sign ≡ true → (e : Cursor) → e.at ≤ length s → from s e.at ≡ afterRun freeSign (from s c.at) → Some e ≡ endOf (length s) (plainOf (from s i))
    wide-run f e k q =
        let o = sym (told (λ z. z.op_sign)) ∙ f in
        let y = wide-clear s i w in
        let x : freeSign (from s i) ≡ true = ap (λ b. opSign (from s i) && not b) y ∙ and-true (opSign (from s i)) ∙ ap opSign wide-here.text ∙ o in
        let r : afterRun freeSign (from s i) ≡ afterRun freeSign (from s c.at) =
        ap (afterRun freeSign) wide-here.text ∙ after-next freeSign _ (from s c.at) (ap freeSign (sym wide-here.text) ∙ x) in
        run-symbol s i e y k (q ∙ sym r) ∙ run-found s i d.code c.at wide-here no-slash open-wide o

    pub wide-none : d.classes.id_start ≡ false → d.classes.op_sign ≡ false → None ≡ endOf (length s) (plainOf (from s i))
    wide-none f g =
        let h = wide-here in
        let m = high in
        let a = wide-code s i m in
        let t : eqb d.code 0x3B ≡ false =
        sym (ap (headIs (λ b. eqb b 0x3B)) h.text) ∙ ap (headIs (λ b. eqb b 0x3B)) (at-char s i h.in-script) ∙ ne_eqb _ 0x3B (λ e. omega arith) in
        none-found s i d.code c.at h no-slash open-wide (sym (told (λ z. z.op_sign)) ∙ g) (sym (told (λ z. z.id_start)) ∙ f)
        (ap (λ b. b && not (opSign (from s c.at))) t)

-- ---- from the `'` on; m is the text after it

-- a symbol or a character, or refusal 16
abbrev Answered : Text → Found → Type 0
Answered m f = ((r : Text) × (f ≡ Found.token tk.CharSym r)) ⊎ (f ≡ Found.stuck 16 m)

answered : (m : Text) (b : Bool) (w : Text) (x : Found) → Answered m x → Answered m (cond b (Found.token tk.CharSym w) x)
answered m true w x h = inl (w, refl)
answered m false w x h = h

plain-answer : (m : Text) → Answered m (plainOf m)
unfolding plainOf symbolOf
plain-answer m =
    answered m (plainChar m && apostrophe (drop 1 m)) _ _ (answered m (idStart m) _ _ (answered m (freeSign m) _ _
    (answered m (isAny ";" m && not (opSign (drop 1 m))) _ _ (inr refl))))

pub plain-stands : (n : ℕ) (m : Text) (e : Cursor) → Some e ≡ endOf n (plainOf m) → tokenTo tk.CharSym e ≡ pieceOf n (plainOf m)
unfolding pieceOf
plain-stands n m e q = elim (plain-answer m) [
  | inl (r, f) ↦ ap (tokenTo tk.CharSym) (same_Some e (cursorAt (place n r)) (q ∙ ap (endOf n) f)) ∙ sym (ap (pieceOf n) f)
  | inr f ↦ absurd (none-some e (sym (q ∙ ap (endOf n) f)))
]

pub plain-refused : (s : List ℕ) (i : ℕ) → i ≤ length s → None ≡ endOf (length s) (plainOf (from s i)) → refusedFor refusal.NoSymbol i ≡ pieceOf (length s) (plainOf (from s i))
unfolding pieceOf refusalBy
plain-refused s i h q = elim (plain-answer (from s i)) [
  | inl (r, f) ↦ absurd (none-some (cursorAt (place (length s) r)) (q ∙ ap (endOf (length s)) f))
  | inr f ↦ rw (f, place-from s i h)
]

scan-is : (t m : Text) → drop 1 t ≡ m → scanCharSym t ≡ cond (backslash m) (escapedChar (drop 1 m)) (plainOf m)
unfolding scanCharSym plainOf symbolOf
scan-is t m e = rw (← e)

module _ (s : List ℕ) (i : ℕ) (o : apostrophe (from s i) ≡ true) where
  pub tick-opened : (i + 1 ≤ length s) × (drop 1 (from s i) ≡ from s (i + 1))
  tick-opened = past-tick s i (sym (tick-byte s i) ∙ o)

  pub plain-is : (get_or s (i + 1) 0 ≡ 0x5C → ⊥) → scanCharSym (from s i) ≡ plainOf (from s (i + 1))
  plain-is n = scan-is (from s i) (from s (i + 1)) tick-opened.1 ∙ rw (no-backslash s (i + 1) n)

  pub escape-is : get_or s (i + 1) 0 ≡ 0x5C → (i + 2 ≤ length s) × (scanCharSym (from s i) ≡ escapedChar (from s (i + 1 + 1)))
  unfolding begins
  escape-is e =
      let h = inside s (i + 1) (omega arith) in
      let b : backslash (from s (i + 1)) ≡ true = one-byte 0x5C (omega arith) (omega arith) s (i + 1) ∙ eq-eqb (get_or s (i + 1) 0) 0x5C e in
      (omega arith, scan-is (from s i) (from s (i + 1)) tick-opened.1 ∙ (rw b) ∙ ap escapedChar (past s (i + 1) h (omega arith)))
