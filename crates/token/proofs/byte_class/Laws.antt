-- What the class of a byte says of it: each is one computed test at the codes of ASCII.
use Prim.Native.String.{String}
use Rattle.token.proofs.cursor.Words.{ℕ, zero, suc, ◌+◌, ◌*◌, ◌≤◌, ◌<◌, ◌≡◌, refl, sym, ◌∙◌, ap, Bool, true, false, not, ◌&&◌, ◌||◌, List, [], ◌∷◌, arith, eqb-true, le-leb, le-ltb, ne_eqb, eqb, leb, ltb, length, get_or, codes, oneOf, and-both, every, span, alike, code_laws, class-laws, signOf, signNumber, classOf, blankClass, crClass, tickClass, backtickClass, lfClass, digitClass, keywordClass, quoteClass, wideClass, slashClass, upToBlank, startsWord, inWord, isSign, inRun, cases_lt, inl, inr}
use Rattle.chars.specs.paper.Classes.{isIdStart, isIdChar, isOpSign, asciiSigns}
use Rattle.chars.specs.promises.Classes.{lowId, lowStart}
use Rattle.chars.specs.paper.Quoted.{member}
use Rattle.token.specs.code.ByteClass.{otherClass, startClass, dollarClass, signClass, backslashClass, signKeywordClass, isOrdinary, inOperator}
open code_laws use {agree, carry, carry-span, no-member, every-sub}
open class-laws use {byte-id, byte-sign, byte-start}

-- ---- a table that passes one computed test has the class of each byte

abbrev checks : (ℕ → ℕ → Bool) → ℕ → List ℕ → Bool
checks p a [] = true
checks p a (x ∷ t) = p a x && checks p (suc a) t

check-at : (p : ℕ → ℕ → Bool) (a : ℕ) (t : List ℕ) (i b : ℕ) → b ≡ a + i → checks p a t ≡ true → i < length t → p b (get_or t i 0) ≡ true
check-at p a [] i b q e h = absurd (omega arith)
check-at p a (x ∷ t) zero b q e h = let z : b ≡ a = omega arith in rw z (and-both (p a x) (checks p (suc a) t) e).0
check-at p a (x ∷ t) (suc i) b q e h = check-at p (suc a) t i b (omega arith) (and-both (p a x) (checks p (suc a) t) e).1 (omega arith)

abbrev isTable : List ℕ → Bool
isTable t = checks (λ b x. eqb x (classOf b)) 0 t

pub classes : (t : List ℕ) → length t ≡ 256 → isTable t ≡ true → (b : ℕ) → b < 256 → get_or t b 0 ≡ classOf b
classes t n e b h = eqb-true (get_or t b 0) (classOf b) (check-at (λ b x. eqb x (classOf b)) 0 t b b (omega arith) e (omega arith))

-- ---- a test of a class is a test of the byte: computed at each code of ASCII, and at the one class past it

past-ascii : (b : ℕ) → 0x80 ≤ b → classOf b ≡ wideClass
unfolding classOf
past-ascii b h = rw (le-leb 0x80 b h)

says : (f g : ℕ → Bool) → every (λ b. alike (f (classOf b)) (g b)) (span 0 128) ≡ true → ((b : ℕ) → 0x80 ≤ b → f wideClass ≡ g b) → (b : ℕ) → f (classOf b) ≡ g b
says f g e w b = elim (cases_lt b 0x80) [
  | inl h ↦ agree (f (classOf b)) (g b) (carry-span (λ b. alike (f (classOf b)) (g b)) 0 128 b e (omega arith) h)
  | inr h ↦ ap f (past-ascii b h) ∙ w b h
]

-- a test that fails past ASCII
low : (p : ℕ → Bool) (b : ℕ) → 0x80 ≤ b → false ≡ ltb b 0x80 && p b
low p b h = sym (rw (le-ltb b 0x80 h))

-- a quoted set of ASCII has nothing past it
none-past : (t : String) → every (λ b. ltb b 0x80) (codes t) ≡ true → (b : ℕ) → 0x80 ≤ b → false ≡ oneOf t b
none-past t e b h =
    sym (no-member (λ b. not (ltb b 0x80)) (codes t) b (every-sub (λ b. ltb b 0x80) (λ x. not (not (ltb x 0x80))) (codes t) e (λ c q. rw q)) (rw (le-ltb b 0x80 h)))

numbers : every (λ b. eqb (classOf b) (2 * signNumber b)) (codes "()[]{},;.") ≡ true
unfolding classOf signNumber signOf
numbers = refl

-- the classes but those of signs, blanks and what begins no token
abbrev pub others : List ℕ
others =
    crClass ∷ tickClass ∷ backtickClass ∷ lfClass ∷ digitClass ∷ startClass ∷ dollarClass ∷ keywordClass ∷ quoteClass ∷ wideClass ∷ slashClass ∷ signClass ∷ backslashClass ∷ signKeywordClass ∷ []

module _ (b : ℕ) where
  pub class-start : not (upToBlank (classOf b)) && startsWord (classOf b) ≡ ltb b 0x80 && isIdStart b
  unfolding classOf signNumber signOf
  class-start = says (λ e. not (upToBlank e) && startsWord e) (λ b. ltb b 0x80 && lowStart b) refl (low lowStart) b ∙ sym (byte-start b)

  pub class-word : inWord (classOf b) ≡ (ltb b 0x80 && isIdChar b) || eqb b 0x5F
  unfolding classOf signNumber signOf
  class-word =
      says inWord (λ b. (ltb b 0x80 && lowId b) || eqb b 0x5F) refl (λ b h. sym (rw (le-ltb b 0x80 h, ne_eqb b 0x5F (λ e. absurd (omega (arith, e)))))) b
      ∙ ap (λ z. z || eqb b 0x5F) (sym (byte-id b))

  pub class-sign : isSign (classOf b) ≡ ltb b 0x80 && isOpSign b
  unfolding classOf signNumber signOf
  class-sign = says isSign (λ b. ltb b 0x80 && oneOf asciiSigns b) refl (low (oneOf asciiSigns)) b ∙ sym (byte-sign b)

  pub class-run : inRun (classOf b) ≡ (ltb b 0x80 && isOpSign b) && not (eqb b 0x2F)
  unfolding classOf signNumber signOf
  class-run =
      says inRun (λ b. (ltb b 0x80 && oneOf asciiSigns b) && not (eqb b 0x2F)) refl (λ b h. sym (rw (le-ltb b 0x80 h))) b
      ∙ ap (λ z. z && not (eqb b 0x2F)) (sym (byte-sign b))

  pub class-wide : eqb (classOf b) wideClass ≡ leb 0x80 b
  unfolding classOf signNumber signOf
  class-wide = says (λ e. eqb e wideClass) (leb 0x80) refl (λ b h. sym (le-leb 0x80 b h)) b

  pub class-ordinary : isOrdinary (classOf b) ≡ not (oneOf "\n\"$\\" b)
  unfolding classOf signNumber signOf
  class-ordinary = says isOrdinary (λ b. not (oneOf "\n\"$\\" b)) refl (λ b h. ap not (none-past "\n\"$\\" refl b h)) b

  -- the classes of one byte, of blanks, of digits, of signs
  pub class-blank : eqb (classOf b) blankClass ≡ oneOf " \t" b
  unfolding classOf signNumber signOf
  class-blank = says (λ e. eqb e blankClass) (oneOf " \t") refl (λ b h. none-past " \t" refl b h) b

  pub class-signs : upToBlank (classOf b) ≡ oneOf "()[]{},;." b || oneOf " \t" b
  unfolding classOf signNumber signOf
  class-signs =
      says upToBlank (λ b. oneOf "()[]{},;." b || oneOf " \t" b) refl
      (λ b h. sym (ap (λ z. z || oneOf " \t" b) (sym (none-past "()[]{},;." refl b h)) ∙ sym (none-past " \t" refl b h))) b

  pub class-lf : eqb (classOf b) lfClass ≡ oneOf "\n" b
  unfolding classOf signNumber signOf
  class-lf = says (λ e. eqb e lfClass) (oneOf "\n") refl (λ b h. none-past "\n" refl b h) b

  pub class-cr : eqb (classOf b) crClass ≡ oneOf "\r" b
  unfolding classOf signNumber signOf
  class-cr = says (λ e. eqb e crClass) (oneOf "\r") refl (λ b h. none-past "\r" refl b h) b

  pub class-tick : eqb (classOf b) tickClass ≡ oneOf "'" b
  unfolding classOf signNumber signOf
  class-tick = says (λ e. eqb e tickClass) (oneOf "'") refl (λ b h. none-past "'" refl b h) b

  pub class-backtick : eqb (classOf b) backtickClass ≡ oneOf "`" b
  unfolding classOf signNumber signOf
  class-backtick = says (λ e. eqb e backtickClass) (oneOf "`") refl (λ b h. none-past "`" refl b h) b

  pub class-quote : eqb (classOf b) quoteClass ≡ oneOf "\"" b
  unfolding classOf signNumber signOf
  class-quote = says (λ e. eqb e quoteClass) (oneOf "\"") refl (λ b h. none-past "\"" refl b h) b

  pub class-slash : eqb (classOf b) slashClass ≡ oneOf "/" b
  unfolding classOf signNumber signOf
  class-slash = says (λ e. eqb e slashClass) (oneOf "/") refl (λ b h. none-past "/" refl b h) b

  pub class-digit : eqb (classOf b) digitClass ≡ oneOf "0123456789" b
  unfolding classOf signNumber signOf
  class-digit = says (λ e. eqb e digitClass) (oneOf "0123456789") refl (λ b h. none-past "0123456789" refl b h) b

  pub class-keyword : eqb (classOf b) keywordClass ≡ oneOf "cefimrt" b
  unfolding classOf signNumber signOf
  class-keyword = says (λ e. eqb e keywordClass) (oneOf "cefimrt") refl (λ b h. none-past "cefimrt" refl b h) b

  pub class-sign-keyword : eqb (classOf b) signKeywordClass ≡ oneOf ":=#@" b
  unfolding classOf signNumber signOf
  class-sign-keyword = says (λ e. eqb e signKeywordClass) (oneOf ":=#@") refl (λ b h. none-past ":=#@" refl b h) b

  -- what begins no token
  pub class-other : eqb (classOf b) otherClass ≡ ltb b 0x80 && not (oneOf " \t\n\r()[]{},;.0123456789`\"'" b || (lowStart b || oneOf asciiSigns b))
  unfolding classOf signNumber signOf
  class-other =
      says (λ e. eqb e otherClass) (λ b. ltb b 0x80 && not (oneOf " \t\n\r()[]{},;.0123456789`\"'" b || (lowStart b || oneOf asciiSigns b))) refl
      (low (λ b. not (oneOf " \t\n\r()[]{},;.0123456789`\"'" b || (lowStart b || oneOf asciiSigns b)))) b

  -- what goes on with a run is past ASCII or an operator sign
  pub class-operator : inOperator (classOf b) && not (eqb (classOf b) wideClass) && not (isSign (classOf b)) ≡ false
  unfolding classOf signNumber signOf
  class-operator = says (λ e. inOperator e && not (eqb e wideClass) && not (isSign e)) (λ b. false) refl (λ b h. refl) b

  -- no operator sign begins a word
  pub class-apart : inRun (classOf b) && startsWord (classOf b) ≡ false
  unfolding classOf signNumber signOf
  class-apart = says (λ e. inRun e && startsWord e) (λ b. false) refl (λ b h. refl) b

  -- a class is one of these
  pub class-one : upToBlank (classOf b) || member (otherClass ∷ others) (classOf b) ≡ true
  unfolding classOf signNumber signOf
  class-one = says (λ e. upToBlank e || member (otherClass ∷ others) e) (λ b. true) refl (λ b h. refl) b

  -- of one of the nine signs: twice its kind's number
  pub class-number : oneOf "()[]{},;." b ≡ true → classOf b ≡ 2 * signNumber b
  class-number e = eqb-true (classOf b) (2 * signNumber b) (carry (λ b. eqb (classOf b) (2 * signNumber b)) (codes "()[]{},;.") b numbers e)
