-- What begins with an operator sign, with an id start, or with neither.
use Rattle.token.proofs.lexer.Words.{◌≡◌, refl, sym, ◌∙◌, ap, ap₂, ℕ, ◌+◌, ◌<◌, ◌≤◌, Bool, true, false, not, ◌&&◌, ◌||◌, List, [], ◌∷◌, length, drop, get_or, eqb, leb, ltb, ltb-true, eqb-true, not-true, String, codes, oneOf, isIdStart, isOpSign, asciiSigns, Text, from, headIs, idStart, Some, afterRun, lowStart, every, clash, and-both, or-neither, code_laws, text-laws, isAny, opSign, freeSign, opensComment, Found, scan, scanIdent, scanOperator, classAt, wideClass, slashClass, otherClass, upToBlank, startsWord, isSign, pieceOf, refusalBy, Good, Refuses, Counts, Stand, sign-not, start-not, slash-no-start, Start, startOf, scanAs, or-false}
use Rattle.chars.specs.paper.Quoted.{member}
use Rattle.chars.specs.code.Text.{stepAt}
use Rattle.chars.specs.declared.utf8.Decoded.{Decoded}
use Rattle.token.proofs.cursor.Laws.{seen}
use Rattle.token.specs.declared.refusal.Refusal.TheVariants as refusal
use Rattle.token.proofs.cursor.Bytes.{any-byte}
use Rattle.token.proofs.byte_class.Laws.{class-start, class-one, class-other, class-wide, others}
use Rattle.token.proofs.ident.Laws.{head-inside}
use Rattle.token.proofs.ident.Signs.{comment-class, sign-in, sign-low, sign-here, sign-text, wide-sign, wide-start}
use Rattle.token.proofs.lexer.Laws.{wordless, other-at, ascii-head, ascii-start}
use Rattle.token.proofs.names.Bytes.{class-inside}
use Rattle.token.proofs.theorems.Dispatch.{clear-head, Clear, clear, scan-by, starts-operator, starts-word}
use Rattle.token.proofs.theorems.Runs.{after-next}
use Rattle.token.proofs.walk.Laws.{refuses-here}
use Rattle.token.proofs.walk.Pieces.{by-class}
use Rattle.token.proofs.walk.Words.{start-byte, word-inside}
open code_laws use {no-member}
open text-laws use {at-ascii}

head-any : (p : ℕ → Bool) (t : String) → every (λ x. not (p x)) (codes t) ≡ true → (r : Text) → headIs p r ≡ true → isAny t r ≡ false
head-any p t q [] e = refl
head-any p t q (c ∷ r) e = no-member p (codes t) c.code q e

-- past what a test holds of, a run of it goes on
past-one : (p : Text → Bool) (t : Text) → p [] ≡ false → p t ≡ true → afterRun p (drop 1 t) ≡ afterRun p t
past-one p [] z e = clash (sym z ∙ e)
past-one p (c ∷ r) z e = sym (after-next p c r e)

-- what the scanner reads by f begins there: no gap piece stands there
pub record Begun (s : List ℕ) (i : ℕ) (f : Found) : Type 0 where
  pub within : i < length s
  pub no_gap : isAny " \t\n\r" (from s i) ≡ false
  pub no_comment : opensComment (from s i) ≡ false
  pub is : pieceOf (length s) f ≡ pieceOf (length s) (scan (length s) (from s i))

module _ (s : List ℕ) (i : ℕ) (p : ℕ → Bool) (q : every (λ x. not (p x)) (codes " \t\n\r") ≡ true) (e : headIs p (from s i) ≡ true)
    (x : Start) (r : Clear (from s i) → startOf (from s i) ≡ x) where
  sign-begun : opensComment (from s i) ≡ false → Begun s i (scanAs (length s) x (from s i))
  sign-begun y =
      record {
        within = head-inside p s i e;
        no_gap = head-any p " \t\n\r" q (from s i) e;
        no_comment = y;
        is = ap (pieceOf (length s)) (sym (scan-by (length s) (from s i) x (r (clear (from s i) y))));
      }

  -- nor a sign
  pub begun : p 0x2F ≡ false → Begun s i (scanAs (length s) x (from s i))
  begun z = let k = clear-head p z (from s i) e in sign-begun (rw (k.line, k.block))

-- ---- an operator sign

module _ (s : List ℕ) (i : ℕ) (e : opSign (from s i) ≡ true) (y : opensComment (from s i) ≡ false) where
  pub run-begun : Begun s i (scanOperator (from s i))
  run-begun = sign-begun s i isOpSign (sign-not " \t\n\r" refl) e Start.operator (λ z. starts-operator (from s i) z e) y

  pub sign-next : (j : ℕ) → from s j ≡ drop 1 (from s i) → afterRun freeSign (from s j) ≡ afterRun freeSign (from s i)
  sign-next j q = ap (afterRun freeSign) q ∙ past-one freeSign (from s i) refl (ap₂ (λ a b. a && not b) e y)

-- of ASCII, by its class
module _ {s : List ℕ} {x : Stand} (g : Good s x) where
  module _ (k : isSign x.class.number ≡ true) where
    pub ascii-sign : opSign (from s x.at) ≡ true
    ascii-sign = sign-here s x.at (by-class g isSign k)

    pub ascii-sign-inside : x.at < length s
    ascii-sign-inside = sign-in s x.at (by-class g isSign k)

    pub behind-sign : from s (x.at + 1) ≡ drop 1 (from s x.at)
    behind-sign = sym (ap (drop 1) (at-ascii s x.at ascii-sign-inside (sign-low s x.at (by-class g isSign k))))

  module _ (k : eqb x.class.number slashClass ≡ true) where
    pub slash-opens : {b : Bool} → b ≡ oneOf "*/" (get_or s (x.at + 1) 0) → opensComment (from s x.at) ≡ b
    slash-opens e = comment-class s x.at ∙ ap (λ z. z && oneOf "*/" (get_or s (x.at + 1) 0)) (by-class g (λ z. eqb z slashClass) k) ∙ sym e

  -- one other than `/` begins no comment
  pub other-clear : eqb x.class.number slashClass ≡ false → opensComment (from s x.at) ≡ false
  other-clear k = comment-class s x.at ∙ ap (λ z. z && oneOf "*/" (get_or s (x.at + 1) 0)) (by-class g (λ z. eqb z slashClass) k)

-- ---- an id start

pub start-begun : (s : List ℕ) (i : ℕ) → idStart (from s i) ≡ true → Begun s i (scanIdent (length s) (from s i))
start-begun s i e = begun s i isIdStart (start-not " \t\n\r" refl) e Start.word (λ z. starts-word (from s i) z e) slash-no-start

-- of ASCII, by its class
module _ {s : List ℕ} {x : Stand} (g : Good s x) (a : upToBlank x.class.number ≡ false) (b : startsWord x.class.number ≡ true) where
  pub ascii-starts : (idStart (from s x.at) ≡ true) × (from s (x.at + 1) ≡ drop 1 (from s x.at))
  ascii-starts = let u = ascii-start s x.at (word-inside g a b) (start-byte g a b) in (u.0, u.2)

-- ---- a character past ASCII

module _ {s : List ℕ} {x : Stand} (g : Good s x) (k : eqb x.class.number wideClass ≡ true) where
  wide-here : eqb (classAt s x.at) wideClass ≡ true
  wide-here = by-class g (λ z. eqb z wideClass) k

  pub wide-clear : opensComment (from s x.at) ≡ false
  wide-clear = comment-class s x.at ∙ ap (λ z. eqb z slashClass && oneOf "*/" (get_or s (x.at + 1) 0)) (eqb-true (classAt s x.at) wideClass wide-here)

  pub wide-in : x.at < length s
  wide-in = class-inside s x.at (λ z. eqb z wideClass) refl wide-here

  module _ (d : Decoded) (e : Some d ≡ stepAt s x.at) where
    pub refuses-wide : d.classes.op_sign ≡ false → d.classes.id_start ≡ false → (c : Counts) (out : List ℕ)
        → Refuses s x c out (record { what = refusal.NoPiece; place = x.at })
    unfolding refusalBy
    refuses-wide f n c out =
        let w : isAny wordless (from s x.at) ≡ false = any-byte wordless refl s x.at ∙ no-member (leb 0x80) (codes wordless) (get_or s x.at 0) refl (sym (class-wide (get_or s x.at 0)) ∙ wide-here) in
        refuses-here wide-in 3 (other-at (length s) (from s x.at) wide-clear w (wide-start s x.at d e ∙ n) (wide-sign s x.at d e ∙ f)) c out

    -- past it
    pub wide-past : (x.at + d.width ≤ length s) × (from s (x.at + d.width) ≡ drop 1 (from s x.at))
    wide-past = let n = (seen s x.at d e).here in (n.within, sym (ap (drop 1) n.text))

-- ---- what begins no token

-- the class that is left, where a byte has none of the others
pub other-left : {s : List ℕ} {x : Stand} → Good s x → upToBlank x.class.number ≡ false → member others x.class.number ≡ false → eqb x.class.number otherClass ≡ true
other-left {s} {x} g a b =
    let q : upToBlank x.class.number || (eqb x.class.number otherClass || member others x.class.number) ≡ true = rw (sym g.class) at (class-one (get_or s x.at 0)) in
    sym (or-false (eqb x.class.number otherClass)) ∙ sym (ap₂ (λ u v. u || (eqb x.class.number otherClass || v)) a b) ∙ q

module _ {s : List ℕ} {x : Stand} (g : Good s x) (h : x.at < length s) (k : eqb x.class.number otherClass ≡ true) where
  pub refuses-other : (c : Counts) (out : List ℕ) → Refuses s x c out (record { what = refusal.NoPiece; place = x.at })
  unfolding refusalBy
  refuses-other d out =
      let b = get_or s x.at 0 in
      let z : classAt s x.at ≡ otherClass = eqb-true _ _ (by-class g (λ z. eqb z otherClass) k) in
      let a = and-both (ltb b 0x80) (not (oneOf wordless b || (lowStart b || oneOf asciiSigns b))) (sym (class-other b) ∙ ap (λ z. eqb z otherClass) z) in
      let l = ltb-true b 0x80 a.0 in
      let n = or-neither (oneOf wordless b) (lowStart b || oneOf asciiSigns b) (not-true _ a.1) in
      let c = comment-class s x.at ∙ ap (λ z. eqb z slashClass && oneOf "*/" (get_or s (x.at + 1) 0)) z in
      let i : isIdStart b ≡ false = sym (ap (λ y. y && isIdStart b) a.0) ∙ sym (class-start b) ∙ ap (λ z. not (upToBlank z) && startsWord z) z in
      refuses-here h 3
      (other-at (length s) (from s x.at) c (any-byte wordless refl s x.at ∙ n.0) (ascii-head s x.at h isIdStart l ∙ i) (sign-text s x.at l ∙ ap isSign z)) d out
