-- Operator signs, by the classes of their bytes, and past ASCII by the width of a sign or by one look.
use Rattle.token.proofs.lexer.Words.{◌≡◌, refl, sym, ◌∙◌, ap, ap₂, subst, ℕ, ◌+◌, ◌≤◌, ◌<◌, Bool, true, false, cond, not, ◌&&◌, List, ◌∷◌, length, get_or, eqb, leb-false, ne_eqb, eqb-true, ◌-◌, arith, and-true, or-false, lt-leb, Option, none, some, codes, oneOf, isOpSign, Some, None, Char, Text, idStart, from, afterRun, clash, and-both, text-laws, opSign, freeSign, opensComment, runOf, wordOf, symbolKeywords, wordKeywords, Found, codesTo, runOr, scanOperator, classOf, classAt, keywordClass, signKeywordClass, wideClass, slashClass, isSign, signIn, asciiSign, runBefore, LeftTo, Kw, TokenKind, nul-no-sign, sign-byte, by-test}
use Rattle.token.specs.declared.kinds.TokenKind.TheVariants as tk
use Rattle.chars.specs.code.Text.{stepAt, signWidth}
use Rattle.chars.specs.declared.classes.Classes.{Classes}
use Rattle.chars.specs.declared.utf8.Decoded.{Decoded}
use Rattle.token.proofs.cursor.Laws.{seen, sign-at, no-sign-at}
use Rattle.token.proofs.ident.Laws.{comment_bytes, head-low}
use Rattle.token.proofs.byte_class.Laws.{class-sign, class-keyword, class-sign-keyword, class-slash, class-wide}
use Rattle.token.proofs.keyword.Laws.{run-at, word-at, first-none}
use Rattle.token.proofs.names.Bytes.{class-inside}
open text-laws use {ascii-next, run-next, run-stays}

-- ---- what a class excludes

-- it is not past ASCII
pub low-byte : (b : ℕ) → eqb (classOf b) wideClass ≡ false → b < 0x80
low-byte b e = leb-false 0x80 b (sym (class-wide b) ∙ e)

-- ---- comments

-- a `/` and the byte behind it
pub comment-class : (s : List ℕ) (j : ℕ) → opensComment (from s j) ≡ eqb (classAt s j) slashClass && oneOf "*/" (get_or s (j + 1) 0)
comment-class s j =
    comment_bytes s j ∙ ap (λ x. x && oneOf "*/" (get_or s (j + 1) 0)) (sym (or-false (eqb (get_or s j 0) 0x2F)) ∙ sym (class-slash (get_or s j 0)))

-- ---- a sign, free or not

-- the code's test: a `/` by the byte behind it, another sign by its class
pub slash_sign : (f : Bool) (k : ℕ) (o : Bool) → f && eqb k slashClass ≡ true → not o ≡ isSign k && not (f && (eqb k slashClass && o))
slash_sign true k o e = let q = eqb-true k slashClass e in rw q refl
slash_sign false k o e = clash e

pub plain_sign : (f : Bool) (k : ℕ) (o : Bool) → f && eqb k slashClass ≡ false → isSign k ≡ isSign k && not (f && (eqb k slashClass && o))
plain_sign true k o e = rw e (sym (and-true (isSign k)))
plain_sign false k o e = sym (and-true (isSign k))

pub ruleset sign_tests = (slash_sign, plain_sign)

-- a character past ASCII opens no comment
pub wide-clear : (s : List ℕ) (j : ℕ) → eqb (classAt s j) wideClass ≡ true → opensComment (from s j) ≡ false
wide-clear s j w = comment-class s j ∙ ap (λ z. eqb z slashClass && oneOf "*/" (get_or s (j + 1) 0)) (eqb-true (classAt s j) wideClass w)

-- a run goes on behind its first character
run-on : (p : Text → Bool) (c : Char) (t : Text) → p (c ∷ t) ≡ true → afterRun p (c ∷ t) ≡ afterRun p t
unfolding afterRun
run-on p c t e = rw (e, afterRun)

sign-is : (f : Bool) (t : Text) → signIn f t ≡ opSign t && not (f && opensComment t)
sign-is true t = refl
sign-is false t = sym (and-true (opSign t))

module _ (s : List ℕ) (j : ℕ) where
  pub sign-in : isSign (classAt s j) ≡ true → j < length s
  sign-in e = class-inside s j isSign refl e

  pub sign-low : isSign (classAt s j) ≡ true → get_or s j 0 < 0x80
  sign-low e = low-byte _ (ne_eqb (classAt s j) wideClass (λ q. clash (sym (ap isSign q) ∙ e)))

  pub sign-text : get_or s j 0 < 0x80 → opSign (from s j) ≡ isSign (classAt s j)
  sign-text l = head-low isOpSign s j nul-no-sign l ∙ sign-byte (get_or s j 0) l ∙ sym (class-sign (get_or s j 0))

  module _ (free : Bool) where
    -- a sign of ASCII, by its class
    pub sign-same : get_or s j 0 < 0x80 → signIn free (from s j) ≡ asciiSign free s j
    sign-same l = sign-is free (from s j) ∙ ap₂ (λ x y. x && not (free && y)) (sign-text l) (comment-class s j)

    -- past it
    pub ascii-on : asciiSign free s j ≡ true → (j < length s) × (afterRun (signIn free) (from s (j + 1)) ≡ afterRun (signIn free) (from s j))
    ascii-on e =
        let k = (and-both (isSign (classAt s j)) (not (free && (eqb (classAt s j) slashClass && oneOf "*/" (get_or s (j + 1) 0)))) e).0 in
        let h = sign-in k in
        let l = sign-low k in
        (h, ap (λ i. afterRun (signIn free) (from s i)) (sym (ascii-next s j h l)) ∙ run-next (signIn free) s j h (sign-same l ∙ e))

    -- one past ASCII, which begins no comment
    module _ (d : Decoded) (w : eqb (classAt s j) wideClass ≡ true) (e : Some d ≡ stepAt s j) where
      wide-here : signIn free (from s j) ≡ d.classes.op_sign
      wide-here =
          let n = seen s j d e in
          let o : opSign (from s j) ≡ d.classes.op_sign = ap opSign n.here.text ∙ sym (ap (λ (z : Classes). z.op_sign) n.classes) in
          sign-is free (from s j) ∙ ap₂ (λ x y. x && not (free && y)) o (wide-clear s j w) ∙ plain free d.classes.op_sign
        where
          plain : (f o : Bool) → o && not (f && false) ≡ o
          plain true o = and-true o
          plain false o = and-true o

      pub wide-on : d.classes.op_sign ≡ true → (j + d.width ≤ length s) × (j < j + d.width) × (afterRun (signIn free) (from s (j + d.width)) ≡ afterRun (signIn free) (from s j))
      wide-on o =
          let n = seen s j d e in
          (n.here.within, n.here.on, sym (ap (afterRun (signIn free)) n.here.text ∙ run-on (signIn free) _ (from s (j + d.width)) (ap (signIn free) (sym n.here.text) ∙ wide-here ∙ o)))

      pub wide-stop : d.classes.op_sign ≡ false → afterRun (signIn free) (from s j) ≡ from s j
      wide-stop o = run-stays (signIn free) (from s j) (wide-here ∙ o)

    -- the same by the width of a sign
    module _ (w : eqb (classAt s j) wideClass ≡ true) where
      pub width-on : (n : ℕ) → Some n ≡ signWidth (stepAt s j) → (j + n ≤ length s) × (j < j + n) × (afterRun (signIn free) (from s (j + n)) ≡ afterRun (signIn free) (from s j))
      width-on n q =
          let a = sign-at s j n q in
          subst (λ k. (j + k ≤ length s) × (j < j + k) × (afterRun (signIn free) (from s (j + k)) ≡ afterRun (signIn free) (from s j))) (sym a.width) (wide-on a.look w a.there a.sign)

      pub width-stop : None ≡ signWidth (stepAt s j) → afterRun (signIn free) (from s j) ≡ from s j
      width-stop q = let a = no-sign-at s j (class-inside s j (λ z. eqb z wideClass) refl w) q in wide-stop a.look w a.there a.sign

    -- where neither a sign of ASCII stands nor a character past it, none does
    pub sign-stop : asciiSign free s j ≡ false → eqb (classAt s j) wideClass ≡ false → signIn free (from s j) ≡ false
    sign-stop e f = sign-same (low-byte _ f) ∙ e

-- by its class
module _ (s : List ℕ) (j : ℕ) where
  pub sign-here : isSign (classAt s j) ≡ true → opSign (from s j) ≡ true
  sign-here e = sign-text s j (sign-low s j e) ∙ e

  -- past ASCII by one look
  pub wide-sign : (d : Decoded) → Some d ≡ stepAt s j → opSign (from s j) ≡ d.classes.op_sign
  wide-sign d e = let n = seen s j d e in ap opSign n.here.text ∙ sym (ap (λ (z : Classes). z.op_sign) n.classes)

-- an id start, by one look
pub wide-start : (s : List ℕ) (j : ℕ) (d : Decoded) → Some d ≡ stepAt s j → idStart (from s j) ≡ d.classes.id_start
wide-start s j d e = let n = seen s j d e in ap idStart n.here.text ∙ sym (ap (λ (z : Classes). z.id_start) n.classes)

-- where neither a sign nor a character past ASCII stands, the run of free signs is at its end, and no comment opens
pub run-over : (s : List ℕ) (j : ℕ) → classAt s j < wideClass → (from s j ≡ afterRun freeSign (from s j)) × (opensComment (from s j) ≡ false)
run-over s j l =
    let w = low-byte _ (ne_eqb (classAt s j) wideClass (λ f. absurd (omega (arith, f)))) in
    let z : isSign (classAt s j) ≡ false = lt-leb slashClass (classAt s j) (omega arith) in
    let y : eqb (classAt s j) slashClass ≡ false = ne_eqb (classAt s j) slashClass (λ f. absurd (omega (arith, f))) in
    let c = comment-class s j ∙ ap (λ x. x && oneOf "*/" (get_or s (j + 1) 0)) y in
    (sym (run-stays freeSign (from s j) (ap₂ (λ a b. a && not b) (sign-text s j w ∙ z) c)), c)

-- ---- operators that are keywords

-- the kind of a word or an operator, by its keyword
abbrev pub kindOr : TokenKind → Option Kw → TokenKind
kindOr k none = k
kindOr k (some w) = tk.Kw w

-- what the scanner finds, by the keyword that the code finds
pub scan-before : (t r : Text) → r ≡ afterRun freeSign t → scanOperator t ≡ Found.token (kindOr tk.OpId (runBefore t r)) r
unfolding scanOperator
scan-before t r e = ap (λ q. runOr q (runOf (codesTo t q))) (sym e) ∙ by (runOf (codesTo t r))
  where
    by : (o : Option Kw) → runOr r o ≡ Found.token (kindOr tk.OpId (cond (opensComment r) none o)) r
    by none = by-test (opensComment r) (λ z. rw z) (λ z. rw z)
    by (some k) = by-test (opensComment r) (λ z. rw z) (λ z. rw z)

-- another first sign than one of four begins none
pub run-none : (s : List ℕ) (i e : ℕ) → LeftTo s i e → eqb (classAt s i) signKeywordClass ≡ false → runOf (codesTo (from s i) (from s e)) ≡ none
run-none s i e l q = run-at s i e l.0 l.1 l.2 ∙ first-none (codes ":=#@") symbolKeywords (e - i) s i refl (sym (class-sign-keyword (get_or s i 0)) ∙ q)

-- and another first letter than one of seven no word
pub word-none : (s : List ℕ) (i e : ℕ) → LeftTo s i e → eqb (classAt s i) keywordClass ≡ false → wordOf (codesTo (from s i) (from s e)) ≡ none
word-none s i e l q = word-at s i e l.0 l.1 l.2 ∙ first-none (codes "cefimrt") wordKeywords (e - i) s i refl (sym (class-keyword (get_or s i 0)) ∙ q)

pub before-none : (s : List ℕ) (i e : ℕ) → LeftTo s i e → eqb (classAt s i) signKeywordClass ≡ false → runBefore (from s i) (from s e) ≡ none
before-none s i e l q = by-test (opensComment (from s e)) (λ b. rw b) (λ b. rw b (run-none s i e l q))
