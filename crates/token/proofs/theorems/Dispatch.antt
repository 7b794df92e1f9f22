-- One piece: what the scanner finds stands, what stands is what it finds, and where nothing stands a refusal is met.
use Rattle.std.proofs.Common.{ℕ, ◌≡◌, refl, sym, ◌∙◌, ap, Bool, true, false, cond, not, ◌||◌, inl, inr, [], ◌∷◌, drop, eqb, arith, eqb-true, List}
use Prim.Native.String.{String}
use Rattle.token.proofs.theorems.Words.{some, codes, oneOf, isIdStart, isOpSign, Char, Text, headIs, idStart, clash, and-both, every, code_laws, class-laws, plainAscii, sign-not, no-sign, start-not, isDigit, isAny, begins, startsWith, opensLine, opensBlock, opensComment, endsLine, quote, digit, opSign, freeSign, apostrophe, Kind, TokenType, withoutValues, One, both, TokenShape, HasShape, Stands, Valued, Met, GapKind, Found, Start, startOf, starts, signOf, scanAs, scan, scanReturn, scanString, plainOf, TokenKind, by-test, false_from_ne_true, or_parts, no-start, code-is, others, ◌then◌}
use Rattle.token.specs.declared.kinds.TokenKind.TheVariants as tk
use Rattle.token.proofs.theorems.Families.{number-stands, stood, Fell, fell-at, Outcome, operator-stands, head-other, apart, apart', begins-any, one-drop, tick-stands, body-finds, word-stands, backtick-stands, content-is, pair-stands, line-stands, block-stands}
use Rattle.token.proofs.theorems.Heads.{no-start-met, by-sign, slash}
open code_laws use {carry-not, carry-span, every-sub, in-between}
open class-laws use {sign-no-start}

-- no comment opens
pub record Clear (s : Text) : Type 0 where
  pub line : opensLine s ≡ false
  pub block : opensBlock s ≡ false

-- ---- the class of a piece's start, each with its one fact

pub data Fact (s : Text) : Start → Type 0 where
  line : opensLine s ≡ true → Fact s Start.line
  block : opensBlock s ≡ true → Fact s Start.block
  blank : Clear s → isAny " \t" s ≡ true → Fact s Start.blank
  lf : Clear s → isAny "\n" s ≡ true → Fact s Start.lf
  cr : Clear s → isAny "\r" s ≡ true → Fact s Start.cr
  sign : Clear s → isAny "()[]{},;." s ≡ true → Fact s Start.sign
  number : Clear s → digit s ≡ true → Fact s Start.number
  word : Clear s → idStart s ≡ true → Fact s Start.word
  operator : Clear s → freeSign s ≡ true → Fact s Start.operator
  backtick : Clear s → isAny "`" s ≡ true → Fact s Start.backtick
  string : Clear s → quote s ≡ true → Fact s Start.string
  charSym : Clear s → apostrophe s ≡ true → Fact s Start.charSym
  other : starts s ≡ false → Fact s Start.other

step : {s : Text} (b : Bool) {x y : Start} → (b ≡ true → Fact s x) → (b ≡ false → Fact s y) → Fact s (cond b x y)
step true f g = f refl
step false f g = g refl

pub start-fact : (s : Text) → Fact s (startOf s)
unfolding startOf
start-fact s =
    step (opensLine s) Fact.line (λ a. step (opensBlock s) Fact.block (λ b. let z : Clear s = record { line = a; block = b } in
    step (isAny " \t" s) (Fact.blank z) (λ c. step (isAny "\n" s) (Fact.lf z) (λ d. step (isAny "\r" s) (Fact.cr z) (λ e.
    step (isAny "()[]{},;." s) (Fact.sign z) (λ f. step (digit s) (Fact.number z) (λ g. step (idStart s) (Fact.word z) (λ h.
    step (opSign s) (λ i. Fact.operator z (rw (i, a, b))) (λ i. step (isAny "`" s) (Fact.backtick z) (λ j. step (quote s) (Fact.string z) (λ k.
    step (apostrophe s) (Fact.charSym z) (λ l. Fact.other (rw (c, d, e, f, g, h, i, j, k, l))))))))))))))

-- ---- one class against another

pub quote-any : (s : Text) → quote s ≡ isAny "\"" s
unfolding begins
quote-any s = begins-any 34 s

pub digit-one : (c : ℕ) → isDigit c ≡ true → oneOf "0123456789" c ≡ true
unfolding isDigit
digit-one c e = let h = in-between 48 57 c e in carry-span (oneOf "0123456789") 48 10 c refl h.0 (omega arith)

pub clear : (s : Text) → opensComment s ≡ false → Clear s
clear s e = let h = or_parts (opensLine s) (opensBlock s) e in record { line = h.0; block = h.1 }

pub clear-head : (p : ℕ → Bool) → p 47 ≡ false → (s : Text) → headIs p s ≡ true → Clear s
unfolding begins
clear-head p z [] e = clash e
clear-head p z (c ∷ s) e =
    by-test (eqb c.code 47) (λ q. clash (sym z ∙ sym (ap p (eqb-true c.code 47 q)) ∙ e)) (λ q. record { line = rw q; block = rw q })

-- ---- the class that a start has

-- blanks, line ends and the nine signs, and the tests behind theirs
abbrev early : String
early = " \t\n\r()[]{},;."

abbrev quotes : Text → Start
quotes s = cond (isAny "`" s) Start.backtick (cond (quote s) Start.string (cond (apostrophe s) Start.charSym Start.other))

abbrev later : Text → Start
later s = cond (digit s) Start.number (cond (idStart s) Start.word (cond (opSign s) Start.operator (quotes s)))

module _ (s : Text) (z : Clear s) where
  pub starts-blank : isAny " \t" s ≡ true → startOf s ≡ Start.blank
  unfolding startOf
  starts-blank e = rw (z.line, z.block, e)

  pub starts-lf : isAny "\n" s ≡ true → startOf s ≡ Start.lf
  unfolding startOf
  starts-lf e = rw (z.line, z.block, apart " \t" (oneOf "\n") refl s e, e)

  pub starts-cr : isAny "\r" s ≡ true → startOf s ≡ Start.cr
  unfolding startOf
  starts-cr e = rw (z.line, z.block, apart " \t" (oneOf "\r") refl s e, apart "\n" (oneOf "\r") refl s e, e)

  pub starts-sign : isAny "()[]{},;." s ≡ true → startOf s ≡ Start.sign
  unfolding startOf
  starts-sign e =
      let p = oneOf "()[]{},;." in
      rw (z.line, z.block, apart " \t" p refl s e, apart "\n" p refl s e, apart "\r" p refl s e, e)

  past-early : (p : ℕ → Bool) → every (λ x. not (p x)) (codes early) ≡ true → headIs p s ≡ true → startOf s ≡ later s
  unfolding startOf
  past-early p h e = rw (z.line, z.block, none " \t" refl, none "\n" refl, none "\r" refl, none "()[]{},;." refl)
    where
      none : (a : String) → every (oneOf early) (codes a) ≡ true → isAny a s ≡ false
      none a k = apart a p (every-sub (oneOf early) (λ x. not (p x)) (codes a) k (λ c q. rw (carry-not p (codes early) c h q))) s e

  pub starts-number : digit s ≡ true → startOf s ≡ Start.number
  unfolding isDigit
  starts-number e = past-early isDigit refl e ∙ rw e

  pub starts-word : idStart s ≡ true → startOf s ≡ Start.word
  starts-word e = past-early isIdStart (start-not early refl) e ∙ rw (head-other isIdStart isDigit no-digit s e, e)
    where
      no-digit : (c : ℕ) → isIdStart c ≡ true → isDigit c ≡ false
      no-digit c f = false_from_ne_true (isDigit c) (λ q. clash (sym (no-start "0123456789" refl c (digit-one c q)) ∙ f))

  pub starts-operator : opSign s ≡ true → startOf s ≡ Start.operator
  unfolding isDigit
  starts-operator e =
      past-early isOpSign (sign-not early refl) e ∙ rw (head-other isOpSign isDigit no-digit s e, head-other isOpSign isIdStart sign-no-start s e, e)
    where
      no-digit : (c : ℕ) → isOpSign c ≡ true → isDigit c ≡ false
      no-digit c f = false_from_ne_true (isDigit c) (λ q. clash (sym (no-sign "0123456789" refl c (digit-one c q)) ∙ f))

  past-words : (a : String) → every (λ x. not (oneOf a x)) (codes early) ≡ true → every (λ x. not (isDigit x)) (codes a) ≡ true
      → every (oneOf others) (codes a) ≡ true → every plainAscii (codes a) ≡ true → isAny a s ≡ true → startOf s ≡ quotes s
  past-words a h i j k e =
      past-early (oneOf a) h e ∙ rw (apart' a isDigit i s e, apart' a isIdStart (start-not a j) s e, apart' a isOpSign (sign-not a k) s e)

  pub starts-backtick : isAny "`" s ≡ true → startOf s ≡ Start.backtick
  unfolding isDigit
  starts-backtick e = past-words "`" refl refl refl refl e ∙ rw e

  pub starts-string : quote s ≡ true → startOf s ≡ Start.string
  unfolding isDigit
  starts-string e = let q = sym (quote-any s) ∙ e in past-words "\"" refl refl refl refl q ∙ rw (apart "`" (oneOf "\"") refl s q, e)

  pub starts-tick : apostrophe s ≡ true → startOf s ≡ Start.charSym
  unfolding isDigit
  starts-tick e =
      past-words "'" refl refl refl refl e ∙ rw (apart "`" (oneOf "'") refl s e, quote-any s, apart "\"" (oneOf "'") refl s e, e)

-- and where no test holds
pub starts-other : (s : Text) → starts s ≡ false → startOf s ≡ Start.other
unfolding startOf begins
starts-other s e =
    rw (no-comment (codes "/"), no-comment (codes "*"))
    (none (isAny " \t" s) (isAny "\n" s) (isAny "\r" s) (isAny "()[]{},;." s) (digit s) (idStart s) (opSign s) (isAny "`" s)
    (quote s) (apostrophe s) e)
  where
    no-comment : (t : List ℕ) → startsWith (47 ∷ t) s ≡ false
    no-comment t = false_from_ne_true (startsWith (47 ∷ t) s) (λ q. clash (sym e ∙ by-sign s (slash t s q)))

    none : (a b d f g h i j k l : Bool) → a || b || d || f || g || h || i || j || k || l ≡ false
        → cond a Start.blank (cond b Start.lf (cond d Start.cr (cond f Start.sign (cond g Start.number (cond h Start.word (cond i Start.operator
        (cond j Start.backtick (cond k Start.string (cond l Start.charSym Start.other))))))))) ≡ Start.other
    none false false false false false false false false false false e = refl
    none _ _ _ _ _ _ _ _ _ _ e = clash (sym e)

pub starts-line : (s : Text) → opensLine s ≡ true → startOf s ≡ Start.line
unfolding startOf
starts-line s e = rw e

block-no-line : {s r : Text} → (One (isAny "/") then One (isAny "*")) s r → opensLine s ≡ false
unfolding begins
block-no-line (both (One.one {c = a} e) (One.one {c = b} f)) = rw (code-is 47 a.code e, code-is 42 b.code f)

pub starts-block : (s : Text) → opensBlock s ≡ true → startOf s ≡ Start.block
unfolding startOf
starts-block s e = rw (block-no-line (pair-stands 47 42 s (unfold begins in e)), e)

-- ---- what the scanner's answer says of a kind

pub data Hit (n : ℕ) (s r : Text) (f : Found) : Kind → Type 0 where
  blank : f ≡ Found.gap GapKind.blank r → Hit n s r f Kind.blank
  lineEnd : f ≡ Found.gap GapKind.lineEnd r → Hit n s r f Kind.lineEnd
  lineComment : f ≡ Found.gap GapKind.lineComment r → Hit n s r f Kind.lineComment
  blockComment : f ≡ Found.gap GapKind.blockComment r → Hit n s r f Kind.blockComment
  token : {y : TokenType} {t : TokenKind} → f ≡ Found.token t r → Valued n s r y t → Hit n s r f (Kind.token y)

pub scan-by : (n : ℕ) (s : Text) (x : Start) → startOf s ≡ x → scan n s ≡ scanAs n x s
unfolding scan
scan-by n s x e = rw e

-- a single sign
pub sign-of : (s : Text) → isAny "()[]{},;." s ≡ true → (y : TokenType) × TokenShape y s (drop 1 s) × (withoutValues y ≡ some (signOf s))
unfolding signOf TokenShape
sign-of [] e = clash e
sign-of (c ∷ s) e =
    by-test (eqb c.code 40) (λ a. (TokenType.lParen, One.one (rw a), rw a)) (λ a.
    by-test (eqb c.code 41) (λ b. (TokenType.rParen, One.one (rw b), rw (a, b))) (λ b.
    by-test (eqb c.code 91) (λ d. (TokenType.lBracket, One.one (rw d), rw (a, b, d))) (λ d.
    by-test (eqb c.code 93) (λ f. (TokenType.rBracket, One.one (rw f), rw (a, b, d, f))) (λ f.
    by-test (eqb c.code 123) (λ g. (TokenType.lBrace, One.one (rw g), rw (a, b, d, f, g))) (λ g.
    by-test (eqb c.code 125) (λ h. (TokenType.rBrace, One.one (rw h), rw (a, b, d, f, g, h))) (λ h.
    by-test (eqb c.code 44) (λ i. (TokenType.comma, One.one (rw i), rw (a, b, d, f, g, h, i))) (λ i.
    by-test (eqb c.code 59) (λ j. (TokenType.semi, One.one (rw j), rw (a, b, d, f, g, h, i, j)))
    (λ j. (TokenType.dot, One.one (rw (a, b, d, f, g, h, i, j) at e), rw (a, b, d, f, g, h, i, j))))))))))

-- ---- what is found stands

pub data Scanned (n : ℕ) (s : Text) (f : Found) : Type 0 where
  hit : {k : Kind} {r : Text} → Stands k s r → Hit n s r f k → Scanned n s f
  fell : Fell s f → Scanned n s f

comment-clear : (s : Text) → Clear s → opensComment s ≡ false
comment-clear s z = rw (z.line, z.block)

-- a token, where no comment opens
from-both : (n : ℕ) (s : Text) (f : Found) → Clear s → Outcome n s f → Scanned n s f
unfolding Stands HasShape
from-both n s f z (inl h) =
    Scanned.hit {k = Kind.token h.type} {r = h.rest} (h.shape, λ e. clash (sym (comment-clear s z) ∙ e)) (Hit.token h.found h.valued)
from-both n s f z (inr h) = Scanned.fell h

-- a gap piece that is no comment
gap-hit : (n : ℕ) (k : Kind) (s r : Text) (f : Found) → Clear s → HasShape k s r → Hit n s r f k → Scanned n s f
unfolding Stands
gap-hit n k s r f z h w = Scanned.hit {k = k} {r = r} (h, λ e. clash (sym (comment-clear s z) ∙ e)) w

plain-scan : (n : ℕ) (s : Text) → quote s ≡ true → Outcome n s (scanString n s)
unfolding scanString TokenShape
plain-scan n s q = elim (body-finds false s q) [
  | inl c ↦
      let h = content-is n s c.rest in
      let x = ap (plainOf n s) c.found ∙ ap (λ k. Found.token k c.rest) h.2 in
      inl (stood TokenType.str (tk.Str h.0 h.1) c.rest x (inl c.body) (Valued.plain q h.3))
  | inr w ↦ inr (fell-at w.number w.rest (ap (plainOf n s) w.found) (w.met s (refl, q)))
]

return-scan : (n : ℕ) (s : Text) → Clear s → isAny "\r" s ≡ true → Scanned n s (scanReturn s)
unfolding scanReturn HasShape begins
return-scan n [] z e = clash e
return-scan n (c ∷ s) z e =
    by-test (begins "\r\n" (c ∷ s)) (λ b.
    let o = one-drop (isAny "\n") s (sym (begins-any 10 s) ∙ (and-both (eqb c.code 13) (startsWith (codes "\n") s) b).1) refl in
    gap-hit n Kind.lineEnd (c ∷ s) (drop 2 (c ∷ s)) _ z (inr (both (One.one e) o)) (Hit.lineEnd (rw b)))
    (λ b. let q : endsLine (c ∷ s) ≡ begins "\r\n" (c ∷ s) = rw (code-is 13 c.code e) in
    Scanned.fell (fell-at 1 (c ∷ s) (rw b) (Met.m1 e (q ∙ b))))

as-stands : (n : ℕ) (c : Char) (s : Text) (x : Start) → Fact (c ∷ s) x → Scanned n (c ∷ s) (scanAs n x (c ∷ s))
unfolding HasShape Stands
as-stands n c s _ (Fact.line e) =
    let h = line-stands (c ∷ s) e in
    Scanned.hit {k = Kind.lineComment} {r = h.0} (h.2, λ q. refl) (Hit.lineComment h.1)
as-stands n c s _ (Fact.block e) = elim (block-stands (c ∷ s) e) [
  | inl (r, q, w) ↦ Scanned.hit {k = Kind.blockComment} {r = r} (w, λ q. refl) (Hit.blockComment q)
  | inr (q, w) ↦ Scanned.fell (fell-at 2 (c ∷ s) q (Met.m2 e w))
]
as-stands n c s _ (Fact.blank z e) = gap-hit n Kind.blank (c ∷ s) s _ z (One.one e) (Hit.blank refl)
as-stands n c s _ (Fact.lf z e) = gap-hit n Kind.lineEnd (c ∷ s) s _ z (inl (One.one e)) (Hit.lineEnd refl)
as-stands n c s _ (Fact.cr z e) = return-scan n (c ∷ s) z e
as-stands n c s _ (Fact.sign z e) = let h = sign-of (c ∷ s) e in gap-hit n (Kind.token h.0) (c ∷ s) s _ z h.1 (Hit.token refl (Valued.bare h.2))
as-stands n c s _ (Fact.number z e) = from-both n (c ∷ s) _ z (number-stands n (c ∷ s) e)
as-stands n c s _ (Fact.word z e) = from-both n (c ∷ s) _ z (word-stands n (c ∷ s) e)
as-stands n c s _ (Fact.operator z e) = from-both n (c ∷ s) _ z (inl (operator-stands n (c ∷ s) e))
as-stands n c s _ (Fact.backtick z e) = from-both n (c ∷ s) _ z (backtick-stands n (c ∷ s) e)
as-stands n c s _ (Fact.string z e) = from-both n (c ∷ s) _ z (plain-scan n (c ∷ s) e)
as-stands n c s _ (Fact.charSym z e) = from-both n (c ∷ s) _ z (tick-stands n (c ∷ s) e)
as-stands n c s _ (Fact.other e) = Scanned.fell (fell-at 3 (c ∷ s) refl (no-start-met c s e))

-- at every start the scanner finds a piece that stands, or a refusal that is met
pub scan-stands : (n : ℕ) (c : Char) (s : Text) → Scanned n (c ∷ s) (scan n (c ∷ s))
unfolding scan
scan-stands n c s = as-stands n c s (startOf (c ∷ s)) (start-fact (c ∷ s))
