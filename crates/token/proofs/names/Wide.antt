-- Words and runs of operator signs with their characters past ASCII: a run of characters, of which the loops pass those of ASCII by their classes and the
-- others by one look at each, or by the width of a sign.
use Rattle.token.proofs.lexer.Words.{◌≡◌, refl, sym, ◌∙◌, ap, ap₂, subst, ℕ, ◌+◌, ◌≤◌, ◌<◌, Bool, true, false, not, ◌&&◌, ◌||◌, List, [], ◌∷◌, Some, None, length, get_or, eqb, leb-true, ne_eqb, lt-ltb, arith, and-true, or-false, clash, or-neither, under-no-id, isIdChar, isOpSign, Char, Text, from, place, idChar, afterRun, text-laws, class-laws, opSign, classAt, otherClass, wideClass, inWord, inRun, hereOf, runTo, wordChar, runChar, sign-byte, nul-no-sign, Here, isAny, and-both, eqb-true}
use Rattle.std.proofs.Common.{Option}
use Rattle.chars.specs.code.Text.{stepAt, signWidth, idOfTwo}
use Rattle.chars.specs.declared.classes.Classes.{Classes}
use Rattle.chars.specs.declared.utf8.Decoded.{Decoded}
use Rattle.token.proofs.byte_class.Laws.{class-word, class-run, class-wide}
use Rattle.token.proofs.cursor.Bytes.{any-byte}
use Rattle.token.proofs.cursor.Laws.{seen, sign-at, no-sign-at}
use Rattle.token.proofs.ident.Laws.{head-low}
use Rattle.token.proofs.ident.Signs.{low-byte}
use Rattle.token.proofs.names.Bytes.{pass-keep, pass-within, pass-done, class-inside}
open text-laws use {ascii-next, place-from, run-next, run-stays}
open class-laws use {byte-id}

-- a run of characters: those of ASCII are told by their class, the others by an answer of one look
pub record Kind (p : Text → Bool) (q : ℕ → Bool) (f : Classes → Bool) : Type 0 where
  pub nil : p [] ≡ false
  pub outside : q otherClass ≡ false
  pub not-wide : q wideClass ≡ false
  pub ascii : (s : List ℕ) (i : ℕ) → get_or s i 0 < 0x80 → p (from s i) ≡ q (classAt s i)
  pub wide : (s : List ℕ) (i : ℕ) (d : Decoded) → eqb (classAt s i) wideClass ≡ true → Some d ≡ stepAt s i → p (from s i) ≡ f d.classes

high : (s : List ℕ) (i : ℕ) → eqb (classAt s i) wideClass ≡ true → 0x80 ≤ get_or s i 0
high s i w = leb-true 0x80 (get_or s i 0) (sym (class-wide (get_or s i 0)) ∙ w)

pub word-kind : Kind wordChar inWord (λ k. k.id_char)
word-kind = record {
  nil = refl;
  outside = refl;
  not-wide = refl;
  ascii = λ s i l.
      let b = get_or s i 0 in
      ap₂ (λ x y. x || y) (head-low isIdChar s i (byte-id 0) l) (any-byte "_" refl s i ∙ or-false (eqb b 0x5F))
      ∙ sym (ap (λ z. (z && isIdChar b) || eqb b 0x5F) (lt-ltb b 0x80 l)) ∙ sym (class-word b);
  wide = λ s i d w e.
      let n = seen s i d e in
      let h = high s i w in
      ap₂ (λ x y. x || y) (ap idChar n.here.text ∙ sym (ap (λ (z : Classes). z.id_char) n.classes)) (any-byte "_" refl s i ∙ or-false (eqb (get_or s i 0) 0x5F) ∙ ne_eqb (get_or s i 0) 0x5F (λ q. omega arith))
      ∙ or-false d.classes.id_char;
}

pub run-kind : Kind runChar inRun (λ k. k.op_sign)
run-kind = record {
  nil = refl;
  outside = refl;
  not-wide = refl;
  ascii = λ s i l.
      let b = get_or s i 0 in
      ap₂ (λ x y. x && not y) (head-low isOpSign s i nul-no-sign l ∙ sign-byte b l) (any-byte "/" refl s i ∙ or-false (eqb b 0x2F)) ∙ sym (class-run b);
  wide = λ s i d w e.
      let n = seen s i d e in
      let h = high s i w in
      ap₂ (λ x y. x && not y) (ap opSign n.here.text ∙ sym (ap (λ (z : Classes). z.op_sign) n.classes)) (any-byte "/" refl s i ∙ or-false (eqb (get_or s i 0) 0x2F) ∙ ne_eqb (get_or s i 0) 0x2F (λ q. omega arith))
      ∙ and-true d.classes.op_sign;
}

-- ---- the loops

-- a run goes on behind its first character
run-on : (p : Text → Bool) (c : Char) (t : Text) → p (c ∷ t) ≡ true → afterRun p (c ∷ t) ≡ afterRun p t
unfolding afterRun
run-on p c t e = rw (e, afterRun)

module _ {p : Text → Bool} {q : ℕ → Bool} {f : Classes → Bool} (k : Kind p q f) (s : List ℕ) where
  low : (i : ℕ) → q (classAt s i) ≡ true → get_or s i 0 < 0x80
  low i e = low-byte (get_or s i 0) (ne_eqb (classAt s i) wideClass (λ z. clash (sym k.not-wide ∙ ap q (sym z) ∙ e)))

  -- where the bytes of ASCII end that are passed first
  pub record Passed (at e : ℕ) : Type 0 where
    pub within : e ≤ length s
    pub on : at ≤ e
    pub run : afterRun p (from s e) ≡ afterRun p (from s at)
    pub stops : q (classAt s e) ≡ false

  pub ascii-passed : (at : ℕ) → at ≤ length s → Passed at (runTo q s at)
  ascii-passed at h =
      let in-script : (j : ℕ) → q (classAt s j) ≡ true → j < length s = λ j e. class-inside s j q k.outside e in
      let w = pass-within (λ j. q (classAt s j)) s in-script at h in
      record {
        within = w.1;
        on = w.0;
        run = pass-keep (λ j. q (classAt s j)) s in-script at (λ j. afterRun p (from s j) ≡ afterRun p (from s at))
            (λ j l e r. ap (λ i. afterRun p (from s i)) (sym (ascii-next s j l (low j e))) ∙ run-next p s j l (k.ascii s j (low j e) ∙ e) ∙ r) refl;
        stops = pass-done (λ j. q (classAt s j)) s in-script at;
      }

  pub passed-on : {at i e : ℕ} → Passed at i → Passed i e → Passed at e
  passed-on a b = record { within = b.within; on = omega (arith, a.on, b.on); run = b.run ∙ a.run; stops = b.stops }

  -- from where the ASCII behind a place ends, a run ends where it does from that place on
  pub read-on : (at : ℕ) → at ≤ length s → (j : ℕ) → j ≡ runTo q s at
      → (j ≤ length s) × (hereOf s (place (length s) (afterRun p (from s j))) ≡ hereOf s (place (length s) (afterRun p (from s at))))
  read-on at h j z =
      let a = ascii-passed at h in
      (subst (λ i. i ≤ length s) (sym z) a.within, ap (λ t. hereOf s (place (length s) t)) (ap (λ i. afterRun p (from s i)) z ∙ a.run))

  module _ {at i : ℕ} (g : Passed at i) where
    ended : p (from s i) ≡ false → i ≡ place (length s) (afterRun p (from s at))
    ended n = sym (ap (place (length s)) (sym g.run ∙ run-stays p (from s i) n) ∙ place-from s i g.within)

    -- ASCII stands there, and stops it
    pub ascii-done : eqb (classAt s i) wideClass ≡ false → i ≡ place (length s) (afterRun p (from s at))
    ascii-done w = ended (k.ascii s i (low-byte (get_or s i 0) w) ∙ g.stops)

    module _ (w : eqb (classAt s i) wideClass ≡ true) (d : Decoded) (e : Some d ≡ stepAt s i) where
      -- a character past ASCII stops it
      pub wide-done : f d.classes ≡ false → i ≡ place (length s) (afterRun p (from s at))
      wide-done n = ended (k.wide s i d w e ∙ n)

      -- or is passed
      pub wide-next : f d.classes ≡ true → (i < i + d.width) × (i + d.width ≤ length s) × (afterRun p (from s (i + d.width)) ≡ afterRun p (from s at))
      wide-next y =
          let n = (seen s i d e).here in
          (n.on, n.within, sym (ap (afterRun p) n.text ∙ run-on p _ (from s (i + d.width)) (ap p (sym n.text) ∙ k.wide s i d w e ∙ y)) ∙ g.run)

      -- with others up to j, and the ASCII behind them
      pub wide-passed : f d.classes ≡ true → (j : ℕ) → i + d.width ≤ j → j ≤ length s → afterRun p (from s j) ≡ afterRun p (from s (i + d.width)) → Passed at (runTo q s j)
      wide-passed y j o h r =
          let n = wide-next y in
          let a = ascii-passed j h in
          record { within = a.within; on = omega (arith, g.on, n.0, o, a.on); run = a.run ∙ r ∙ n.2; stops = a.stops }

  -- ---- a place with its class, as the loops keep it

  abbrev pub Kept : ℕ → Here → Type 0
  Kept at e = (e ≡ hereOf s e.at) × Passed at e.at

  pub first : (at : ℕ) → at ≤ length s → (e : Here) → e ≡ hereOf s (runTo q s at) → Kept at e
  first at h e z =
      let y : e.at ≡ runTo q s at = ap (λ (x : Here). x.at) z in
      (z ∙ ap (hereOf s) (sym y), subst (Passed at) (sym y) (ascii-passed at h))

  module _ {at : ℕ} {e : Here} (g : Kept at e) {b r : Bool} (t : r ≡ eqb e.class.number wideClass) (u : r ≡ b) where
    pub class-is : eqb (classAt s e.at) wideClass ≡ b
    class-is = sym (ap (λ (x : Here). eqb x.class.number wideClass) g.0) ∙ sym t ∙ u

  module _ {at : ℕ} {e : Here} (g : Kept at e) where
    pub kept-ascii : eqb (classAt s e.at) wideClass ≡ false → e ≡ hereOf s (place (length s) (afterRun p (from s at)))
    kept-ascii w = g.0 ∙ ap (hereOf s) (ascii-done g.1 w)

    module _ (w : eqb (classAt s e.at) wideClass ≡ true) where
      pub kept-inside : e.at < length s
      kept-inside = class-inside s e.at (λ z. eqb z wideClass) refl w

      module _ (d : Decoded) (z : Some d ≡ stepAt s e.at) where
        pub kept-wide : f d.classes ≡ false → e ≡ hereOf s (place (length s) (afterRun p (from s at)))
        kept-wide n = g.0 ∙ ap (hereOf s) (wide-done g.1 w d z n)

        pub kept-next : f d.classes ≡ true → (e.at < e.at + d.width) × (e.at + d.width ≤ length s)
        kept-next y = let a = wide-next g.1 w d z y in (a.0, a.1)

        pub kept-far : f d.classes ≡ true → (j : ℕ) → e.at + d.width ≤ j → j ≤ length s → afterRun p (from s j) ≡ afterRun p (from s (e.at + d.width))
            → (y : Here) → y ≡ hereOf s (runTo q s j) → Kept at y × (e.at < y.at) × (y.at ≤ length s)
        kept-far n j l h r y x =
            let a = wide-next g.1 w d z n in
            let b = wide-passed g.1 w d z n j l h r in
            let v : y.at ≡ runTo q s j = ap (λ (x : Here). x.at) x in
            let o = ascii-passed j h in
            ((x ∙ ap (hereOf s) (sym v), subst (Passed at) (sym v) b), omega (arith, a.0, l, o.on, v), omega (arith, o.within, v))

        pub kept-on : f d.classes ≡ true → (y : Here) → y ≡ hereOf s (runTo q s (e.at + d.width)) → Kept at y × (e.at < y.at) × (y.at ≤ length s)
        kept-on n = kept-far n (e.at + d.width) (omega arith) (wide-next g.1 w d z n).1 refl

-- ---- id characters of two bytes

-- both runs go on from i as from the place at
pub record Letters (s : List ℕ) (at i : ℕ) : Type 0 where
  pub within : i ≤ length s
  pub on : at ≤ i
  pub words : afterRun wordChar (from s i) ≡ afterRun wordChar (from s at)
  pub ids : afterRun idChar (from s i) ≡ afterRun idChar (from s at)

two-is : (o : Option Decoded) → idOfTwo o ≡ true → (d : Decoded) × (Some d ≡ o) × (d.width ≡ 2) × (d.classes.id_char ≡ true)
two-is None e = clash e
two-is (Some d) e = let k = and-both (eqb d.width 2) d.classes.id_char e in (d, refl, eqb-true d.width 2 k.0, k.1)

pub letters-on : (s : List ℕ) (at i : ℕ) → Letters s at i → idOfTwo (stepAt s i) ≡ true → Letters s at (i + 2)
letters-on s at i g e =
    let t = two-is (stepAt s i) e in
    let d = t.0 in
    let n = seen s i d t.1 in
    let h = n.here in
    let a : idChar (from s i) ≡ true = ap idChar h.text ∙ sym (ap (λ (z : Classes). z.id_char) n.classes) ∙ t.3 in
    let b : wordChar (from s i) ≡ true = ap (λ z. z || isAny "_" (from s i)) a in
    let r : (p : Text → Bool) → p (from s i) ≡ true → afterRun p (from s (i + d.width)) ≡ afterRun p (from s i) =
    λ p y. sym (ap (afterRun p) h.text ∙ run-on p _ (from s (i + d.width)) (ap p (sym h.text) ∙ y)) in
    subst (λ k. Letters s at (i + k)) t.2
    (record { within = h.within; on = let o = h.on in omega (arith, g.on, o); words = r wordChar b ∙ g.words; ids = r idChar a ∙ g.ids })

-- ---- the loop over signs, which asks for the width of one

module _ (s : List ℕ) {at : ℕ} {e : Here} (g : Kept run-kind s at e) (w : eqb (classAt s e.at) wideClass ≡ true) where
  pub sign-none : None ≡ signWidth (stepAt s e.at) → e ≡ hereOf s (place (length s) (afterRun runChar (from s at)))
  sign-none q = let a = no-sign-at s e.at (kept-inside run-kind s g w) q in kept-wide run-kind s g w a.look a.there a.sign

  module _ (n : ℕ) (q : Some n ≡ signWidth (stepAt s e.at)) where
    pub sign-next : (e.at < e.at + n) × (e.at + n ≤ length s)
    sign-next =
        let a = sign-at s e.at n q in
        subst (λ k. (e.at < e.at + k) × (e.at + k ≤ length s)) (sym a.width) (kept-next run-kind s g w a.look a.there a.sign)

    pub sign-on : (y : Here) → y ≡ hereOf s (runTo inRun s (e.at + n)) → Kept run-kind s at y × (e.at < y.at) × (y.at ≤ length s)
    sign-on y x =
        let a = sign-at s e.at n q in
        kept-on run-kind s g w a.look a.there a.sign y (subst (λ k. y ≡ hereOf s (runTo inRun s (e.at + k))) a.width x)

-- what a test of a class says of the class that stands there
pub told : (f : ℕ → Bool) {k j : ℕ} {r b : Bool} → k ≡ j → r ≡ f k → r ≡ b → f j ≡ b
told f q n e = ap f (sym q) ∙ sym n ∙ e

-- ---- id characters, underscores left out

-- a run of them from a place on ends where that from the start on does
pub record Ids (s : List ℕ) (at i : ℕ) : Type 0 where
  pub within : i ≤ length s
  pub run : afterRun idChar (from s i) ≡ afterRun idChar (from s at)

module _ {s : List ℕ} {at i : ℕ} (g : Ids s at i) where
  ids-ended : idChar (from s i) ≡ false → i ≡ place (length s) (afterRun idChar (from s at))
  ids-ended n = sym (ap (place (length s)) (sym g.run ∙ run-stays idChar (from s i) n) ∙ place-from s i g.within)

  module _ (w : eqb (classAt s i) wideClass ≡ true) where
    pub ids-inside : i < length s
    ids-inside = class-inside s i (λ z. eqb z wideClass) refl w

    module _ (d : Decoded) (e : Some d ≡ stepAt s i) where
      answer : idChar (from s i) ≡ d.classes.id_char
      answer = let n = seen s i d e in ap idChar n.here.text ∙ sym (ap (λ (z : Classes). z.id_char) n.classes)

      pub ids-wide : d.classes.id_char ≡ false → i ≡ place (length s) (afterRun idChar (from s at))
      ids-wide n = ids-ended (answer ∙ n)

      pub ids-on : d.classes.id_char ≡ true → (i < i + d.width) × Ids s at (i + d.width)
      ids-on y =
          let n = (seen s i d e).here in
          (n.on, record { within = n.within; run = sym (ap (afterRun idChar) n.text ∙ run-on idChar _ (from s (i + d.width)) (ap idChar (sym n.text) ∙ answer ∙ y)) ∙ g.run })

  -- ASCII, by its class
  module _ (w : eqb (classAt s i) wideClass ≡ false) where
    byte-low : get_or s i 0 < 0x80
    byte-low = low-byte (get_or s i 0) w

    byte-answer : idChar (from s i) ≡ isIdChar (get_or s i 0)
    byte-answer = head-low isIdChar s i (byte-id 0) byte-low

    by-word : inWord (classAt s i) ≡ isIdChar (get_or s i 0) || eqb (get_or s i 0) 0x5F
    by-word = class-word (get_or s i 0) ∙ ap (λ z. (z && isIdChar (get_or s i 0)) || eqb (get_or s i 0) 0x5F) (lt-ltb (get_or s i 0) 0x80 byte-low)

    pub ids-other : inWord (classAt s i) ≡ false → i ≡ place (length s) (afterRun idChar (from s at))
    ids-other n = ids-ended (byte-answer ∙ (or-neither (isIdChar (get_or s i 0)) (eqb (get_or s i 0) 0x5F) (sym by-word ∙ n)).0)

    module _ (y : inWord (classAt s i) ≡ true) where
      pub ids-in : i < length s
      ids-in = class-inside s i inWord refl y

      pub ids-under : get_or s i 0 ≡ 0x5F → i ≡ place (length s) (afterRun idChar (from s at))
      ids-under u = ids-ended (byte-answer ∙ under-no-id (get_or s i 0) (rw u))

      pub ids-next : (get_or s i 0 ≡ 0x5F → ⊥) → Ids s at (i + 1)
      ids-next n =
          let o : isIdChar (get_or s i 0) ≡ true = sym (or-false (isIdChar (get_or s i 0))) ∙ ap (λ z. isIdChar (get_or s i 0) || z) (sym (ne_eqb (get_or s i 0) 0x5F n)) ∙ sym by-word ∙ y in
          record { within = let h = ids-in in omega arith; run = ap (λ j. afterRun idChar (from s j)) (sym (ascii-next s i ids-in byte-low)) ∙ run-next idChar s i ids-in (byte-answer ∙ o) ∙ g.run }
