-- Tokens that are recognised from their ASCII bytes are what the scanner finds.
use Rattle.token.proofs.theorems.Dispatch.{clear-head, scan-by, starts-sign}
use Rattle.token.proofs.cursor.Bytes.{any-byte, past}
use Rattle.token.proofs.ident.Signs.{kindOr, scan-before}
use Rattle.token.proofs.lexer.Words.{ℕ, ◌+◌, ◌≤◌, ◌<◌, ◌≡◌, refl, sym, ◌∙◌, ap, Bool, true, false, cond, ◌&&◌, List, [], ◌++◌, Option, none, some, length, drop, get_or, leb, ltb, arith, ltb-true, leb-true, ne_eqb, codes, oneOf, isIdStart, isOpSign, Text, from, afterRun, clash, and-both, Suffix, code_laws, slash-no-start, isAny, quote, freeSign, opensComment, Token, kindNumber, wordOf, runOf, values, headLength, recordLength, fieldsOf, headOf, recordOf, plainForm, byForm, Found, signOf, scan, afterIdent, codesTo, wordOr, cursorAt, signNumber, numberOr, pieceOf, PieceAnswer, tokenTo, Kw, TokenKind, Start, text-laws}
use Rattle.token.specs.declared.kinds.TokenKind.TheVariants as tk
use Rattle.token.proofs.ident.Laws.{comment_bytes, left-to, run-left, ident-left, scan-word, not-prefixed, token-at}
use Rattle.token.proofs.lexer.Laws.{word-at, operator-at, ascii-head, ascii-start}
open text-laws use {at-ascii}
open code_laws use {carry}

-- ---- bytes

-- a byte that is no `/` opens no comment
pub no-comment : (s : List ℕ) (i : ℕ) → (get_or s i 0 ≡ 0x2F → ⊥) → opensComment (from s i) ≡ false
no-comment s i h = comment_bytes s i ∙ rw (ne_eqb (get_or s i 0) 0x2F h)

abbrev pub isStart : ℕ → Bool
isStart b = ltb b 0x80 && isIdStart b

-- ---- signs

pub sign-bare : (t : Text) → values (signOf t) ≡ []
unfolding values signOf
sign-bare t =
    either (isAny "(" t) _ _ refl (either (isAny ")" t) _ _ refl (either (isAny "[" t) _ _ refl (either (isAny "]" t) _ _ refl (either (isAny "{" t) _ _ refl
    (either (isAny "}" t) _ _ refl (either (isAny "," t) _ _ refl (either (isAny ";" t) _ _ refl refl)))))))
  where
    either : (x : Bool) (k l : TokenKind) → values k ≡ [] → values l ≡ [] → values (cond x k l) ≡ []
    either true k l p q = p
    either false k l p q = q

pub sign-low : (b : ℕ) → oneOf "()[]{},;." b ≡ true → (1 ≤ b) × (b < 0x80)
sign-low b e =
    let k = carry (λ x. leb 1 x && ltb x 0x80) (codes "()[]{},;.") b refl e in
    let q = and-both (leb 1 b) (ltb b 0x80) k in
    (leb-true 1 b q.0, ltb-true b 0x80 q.1)

-- ---- words and runs

pub kind-bare : (k : TokenKind) → values k ≡ [] → (o : Option Kw) → values (kindOr k o) ≡ []
unfolding values
kind-bare k e none = e
kind-bare k e (some w) = refl

pub kind-counts : (k : TokenKind) (o : Option Kw) → numberOr (kindNumber k) o ≡ kindNumber (kindOr k o)
unfolding numberOr
kind-counts k none = refl
kind-counts k (some w) = refl

module _ (s : List ℕ) (i e : ℕ) (h : i < length s) where
  abbrev n : ℕ
  n = length s

  abbrev here : PieceAnswer
  here = pieceOf n (scan n (from s i))

  -- a word
  module _ (a : isStart (get_or s i 0) ≡ true) (l : e ≤ n) (r : from s e ≡ afterIdent false (from s (i + 1))) where
    word-rest : from s e ≡ afterIdent false (drop 1 (from s i))
    word-rest = r ∙ ap (afterIdent false) (ascii-start s i h a).2

    pub word-left : (i ≤ e) × (e ≤ n) × Suffix (from s e) (from s i)
    word-left = left-to s i e _ (omega arith) l word-rest (ident-left (from s i) (ascii-start s i h a).0)

    -- the scanner reads it, and looks whether it prefixes a string
    pub word-found : quote (from s e) ≡ false → (o : Option Kw) → wordOf (codesTo (from s i) (from s e)) ≡ o → tokenTo (kindOr tk.Ident o) (cursorAt e) ≡ here
    word-found z o q =
        token-at s (kindOr tk.Ident o) (cursorAt e) (from s e) l refl
        ∙ ap (pieceOf n) (sym (word-at s i h clear (ascii-start s i h a).0 ∙ scan-word n (from s i) (from s e) o word-rest q ∙ by o))
      where
        clear : opensComment (from s i) ≡ false
        clear = no-comment s i (λ q. clash (sym slash-no-start ∙ ap isIdStart (sym q) ∙ (and-both (ltb (get_or s i 0) 0x80) (isIdStart (get_or s i 0)) a).1))

        by : (o : Option Kw) → wordOr n (from s i) (from s e) o ≡ Found.token (kindOr tk.Ident o) (from s e)
        by none = not-prefixed n tk.Ident (from s i) (from s e) z
        by (some k) = refl

  -- a run of operator signs
  module _ (a : ltb (get_or s i 0) 0x80 && isOpSign (get_or s i 0) ≡ true) (l : e ≤ n) (r : from s e ≡ afterRun freeSign (from s i)) where
    pub run-to : (i ≤ e) × (e ≤ n) × Suffix (from s e) (from s i)
    run-to = left-to s i e _ (omega arith) l r (run-left freeSign (from s i))

    pub run-found : opensComment (from s i) ≡ false → opensComment (from s e) ≡ false → (o : Option Kw) → runOf (codesTo (from s i) (from s e)) ≡ o
        → tokenTo (kindOr tk.OpId o) (cursorAt e) ≡ here
    run-found y z o q =
        let k = and-both (ltb (get_or s i 0) 0x80) (isOpSign (get_or s i 0)) a in
        let v = ascii-head s i h isOpSign (ltb-true (get_or s i 0) 0x80 k.0) ∙ k.1 in
        token-at s (kindOr tk.OpId o) (cursorAt e) (from s e) l refl
        ∙ ap (pieceOf n) (sym (operator-at s i h y v ∙ scan-before (from s i) (from s e) r ∙ rw (z, q)))

-- ---- one of the nine signs

module _ (s : List ℕ) (i : ℕ) (h : i < length s) (a : oneOf "()[]{},;." (get_or s i 0) ≡ true) where
  pub sign-found : tokenTo (signOf (from s i)) (cursorAt (i + 1)) ≡ pieceOf (length s) (scan (length s) (from s i))
  sign-found =
      let b = any-byte "()[]{},;." refl s i ∙ a in
      let z = clear-head (oneOf "()[]{},;.") refl (from s i) b in
      token-at s (signOf (from s i)) (cursorAt (i + 1)) (drop 1 (from s i)) (omega arith) (sym (past s i h (sign-low (get_or s i 0) a).1))
      ∙ ap (pieceOf (length s)) (sym (scan-by (length s) (from s i) Start.sign (starts-sign (from s i) z b)))

  pub sign-number : signNumber (get_or s i 0) ≡ kindNumber (signOf (from s i))
  unfolding signNumber signOf
  sign-number = rw (a, at-ascii s i h (sign-low (get_or s i 0) a).1)

-- ---- records

pub bare-length : (k : TokenKind) → values k ≡ [] → headLength ≡ recordLength k
unfolding recordLength
bare-length k e = rw e

pub bare-record : (t : Token) → values t.kind ≡ [] → recordOf t ≡ byForm (plainForm (kindNumber t.kind)) t.start t.end t.cut
unfolding recordOf headOf byForm
bare-record t e = rw e (ap (λ z. fieldsOf z (kindNumber t.kind) t.start t.end t.cut ++ []) (sym (bare-length t.kind e)))
