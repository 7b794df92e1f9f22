-- Backticks and strings, by the class of the first byte: where they end, whether they prefix a string, and the step past them.
use Rattle.token.proofs.lexer.Words.{isDigit, ℕ, ◌<◌, ◌≡◌, refl, sym, ◌∙◌, ap, true, false, List, Err, length, get_or, eqb, eq-eqb, from, isAny, quote, values, scan, scanNumber, scanString, scanCharSym, scanBacktick, closeString, prefixedOf, classAt, digitClass, quoteClass, backtickClass, tickClass, cursorAt, plainForm, byForm, hereOf, pieceOf, storedIf, endAt, backtickOf, Counted, Counts, Good, headLength, tokenBehind, Steps, Refuses, Prefixes, Cursor, Refused, Stand, code-is, oneOf, Start}
use Rattle.token.specs.declared.kinds.TokenKind.TheVariants as tk
use Rattle.token.proofs.byte_class.Laws.{class-quote, class-backtick}
use Rattle.token.proofs.cursor.Bytes.{any-byte}
use Rattle.token.proofs.ident.Laws.{quote-byte, token-at, is-prefixed, not-prefixed}
use Rattle.token.proofs.ident.Ticks.{Ticked, tick-closed, tick-refused}
use Rattle.token.proofs.lexer.Laws.{digit-byte, backtick-at}
use Rattle.token.proofs.names.Laws.{quote-class}
use Rattle.token.proofs.theorems.Dispatch.{quote-any, starts-string, starts-tick, starts-number, starts-backtick}
use Rattle.token.proofs.walk.Starts.{Begun, begun}
use Rattle.token.proofs.walk.Pieces.{by-class, step-bare, refuses-piece}
use Rattle.token.proofs.walk.Words.{digit-here, tick-opens}

quote-here : (s : List ℕ) (i : ℕ) → eqb (classAt s i) quoteClass ≡ true → get_or s i 0 ≡ 0x22
quote-here s i e = code-is 0x22 _ (sym (class-quote (get_or s i 0)) ∙ e)

-- ---- a plain string

module _ {s : List ℕ} {x : Stand} (g : Good s x) (k : eqb x.class.number quoteClass ≡ true) where
  pub string-opens : quote (from s x.at) ≡ true
  string-opens = quote-byte s x.at ∙ eq-eqb (get_or s x.at 0) 0x22 (quote-here s x.at (by-class g (λ z. eqb z quoteClass) k))

  pub string-begun : Begun s x.at (scanString (length s) (from s x.at))
  string-begun = begun s x.at (oneOf "\"") refl (sym (quote-any (from s x.at)) ∙ string-opens) Start.string (λ z. starts-string (from s x.at) z string-opens) refl

-- ---- a character or a symbol, or a number

pub tick-begun : {s : List ℕ} {x : Stand} → Good s x → eqb x.class.number tickClass ≡ true → Begun s x.at (scanCharSym (from s x.at))
tick-begun {s} {x} g k = begun s x.at (oneOf "'") refl (tick-opens g k) Start.charSym (λ z. starts-tick (from s x.at) z (tick-opens g k)) refl

pub number-begun : {s : List ℕ} {x : Stand} → Good s x → eqb x.class.number digitClass ≡ true → Begun s x.at (scanNumber (from s x.at))
unfolding isDigit
number-begun {s} {x} g k = let d = digit-byte s x.at ∙ digit-here g k in begun s x.at isDigit refl d Start.number (λ z. starts-number (from s x.at) z d) refl

-- ---- a string that is prefixed

module _ {s : List ℕ} {i q : ℕ} (p : Prefixes s i q) where
  pub prefixed-opens : quote (from s q) ≡ true
  prefixed-opens = quote-byte s q ∙ eq-eqb (get_or s q 0) 0x22 p.byte

  pub prefixed-scan : pieceOf (length s) (prefixedOf (length s) (from s i) (closeString true (from s q))) ≡ pieceOf (length s) (scan (length s) (from s i))
  prefixed-scan = ap (pieceOf (length s)) (sym (p.is ∙ is-prefixed (length s) p.kind (from s i) (from s q) prefixed-opens))

-- ---- a backtick

module _ {s : List ℕ} {x : Stand} (g : Good s x) (k : eqb x.class.number backtickClass ≡ true) where
  pub backtick-opens : isAny "`" (from s x.at) ≡ true
  backtick-opens =
      let b = code-is 0x60 _ (sym (class-backtick (get_or s x.at 0)) ∙ by-class g (λ y. eqb y backtickClass) k) in
      any-byte "`" refl s x.at ∙ ap (oneOf "`") b

  pub backtick-begun : Begun s x.at (scanBacktick (length s) (from s x.at))
  backtick-begun = begun s x.at (oneOf "`") refl backtick-opens Start.backtick (λ z. starts-backtick (from s x.at) z backtick-opens) refl

  scans : scan (length s) (from s x.at) ≡ scanBacktick (length s) (from s x.at)
  scans = backtick-at s x.at (backtick-begun.within) backtick-opens

  pub refuses-backtick : (e : Refused) → Err e ≡ backtickOf (length s) (from s x.at) → (c : Counts) (out : List ℕ) → Refuses s x c out e
  refuses-backtick e q c out =
      let b = backtick-begun in
      refuses-piece g b.within e b.no_comment b.no_gap (tick-refused (length s) (from s x.at) e q ∙ b.is) c out

  module _ (c : Cursor) (q : endAt c ≡ backtickOf (length s) (from s x.at)) where
    ticked : Ticked s x.at c.at
    ticked = tick-closed s x.at backtick-opens c q

    pub backtick-on : x.at < c.at
    backtick-on = ticked.on

    pub backtick-prefixes : eqb (classAt s c.at) quoteClass ≡ true → Prefixes s x.at c.at
    backtick-prefixes f =
        let t = ticked in
        record { kind = tk.BacktickId; on = t.on; within = t.within; byte = quote-here s c.at f; is = scans ∙ t.is }

    pub step-backtick : {d : Counts} → Counted x d → eqb (classAt s c.at) quoteClass ≡ false → (out next : List ℕ)
        → next ≡ storedIf out x.bytes (byForm (plainForm 3) x.at c.at x.cut) → Steps s x d out (tokenBehind x (hereOf s c.at) headLength) d next
    unfolding values
    step-backtick u f out next v =
        let t = ticked in
        let n = quote-class s c.at ∙ f in
        let p = token-at s tk.BacktickId (cursorAt c.at) (from s c.at) t.within refl
        ∙ ap (pieceOf (length s)) (sym (scans ∙ t.is ∙ not-prefixed (length s) tk.BacktickId (from s x.at) (from s c.at) n)) in
        step-bare g u backtick-begun.within tk.BacktickId c.at p refl out next v
