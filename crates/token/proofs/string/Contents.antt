-- The content of a plain string by its opening: one quote at each side of a single one, three at each side of most triples.
use Rattle.token.proofs.cursor.Words.{ℕ, ◌+◌, ◌-◌, ◌≤◌, ◌<◌, ◌≡◌, sym, ◌∙◌, ap, Bool, true, false, List, [], length, drop, get_or, arith, eq-eqb, Text, from, place, afterRun, Suffix, text-laws, quote, threeQuotes, closed, wrong, closeTriple, closeString, plainContent, closeSingle, cases_lt, inl, inr, eqb, refl, ◌||◌, Cursor, endAt, endedOf, pieceOf, scanString, tokenTo}
use Rattle.token.specs.declared.kinds.TokenKind.TheVariants as tk
use Rattle.token.proofs.Base.{zero-one}
use Rattle.token.proofs.cursor.Bytes.{inside, past}
use Rattle.token.proofs.cursor.Runs.{twice}
use Rattle.chars.proofs.Prefix.{end, stopped}
use Rattle.std.proofs.lemmas.Bool.{false≢true}
use Rattle.token.proofs.theorems.Runs.{run-suffix}
use Rattle.token.proofs.theorems.Shorter.{single-suffix}
use Rattle.token.proofs.theorems.Strings as strings
use Rattle.token.proofs.string.Escapes.{same-place}
use Rattle.token.proofs.string.Laws.{reached, quote-byte, three-each, no-quote, quote-in, three-in, quotes-next, quotes-to, single-same, single-shut, plain-end, plain-ended}
use Rattle.token.proofs.string.Strips.{left-all, left-end, left-stop, string-tail, Quotes, quotes-each, Ends, left-many}
open text-laws use {run-stays}

no-wrong : {A : Type 0} (j : ℕ) (t q : Text) → wrong j t ≡ closed q → A
no-wrong j t q e = zero-one (cc)

-- ---- a single string that is closed: its last quote

record SingleClosed (s : List ℕ) (b : ℕ) (q : Text) : Type 0 where
  at : ℕ
  on : b ≤ at
  within : at < length s
  byte : get_or s at 0 ≡ 0x22
  is : from s (at + 1) ≡ q

single-closed : (p : Bool) (s : List ℕ) (b : ℕ) → b ≤ length s → (q : Text) → closeSingle p (from s b) ≡ closed q → SingleClosed s b q
single-closed p s b h q c =
    let x = strings.single-ends p (length (from s b)) (from s b) (omega arith) in
    go p x.0 (single-suffix x.1) (sym (strings.single-pass p x.1) ∙ sym (single-same p (from s b)) ∙ c) x.2
  where
    go : (p : Bool) (m : Text) → Suffix m (from s b) → strings.closeOne p m ≡ closed q → strings.SingleEnd p m → SingleClosed s b q
    go p m x z (strings.SingleEnd.closes _ y) =
        let k = reached s b m h x in
        let i = quote-in s (place (length s) m) (ap quote k.2 ∙ y) in
        let e : closed (drop 1 m) ≡ closed q = sym (strings.single-close p m y) ∙ z in
        let d : drop 1 m ≡ q = cc in
        record {
          at = place (length s) m;
          on = k.0;
          within = i.0;
          byte = i.1;
          is = sym (past s (place (length s) m) i.0 (omega (arith, i.1))) ∙ ap (drop 1) k.2 ∙ d;
        }
    go p m x z (strings.SingleEnd.ends _) = no-wrong 7 [] q (sym (strings.single-empty p) ∙ z)
    go p m x z (strings.SingleEnd.newline _ y) = no-wrong 8 m q (sym (strings.single-newline p m y) ∙ z)
    go false m x z (strings.SingleEnd.slash y k) = no-wrong k.number k.rest q (sym (strings.single-slash m y k) ∙ z)
    go true m x z (strings.SingleEnd.dollar y) = no-wrong 11 m q (sym (strings.single-dollar m y) ∙ z)

-- ---- a triple that is closed: the quotes that close it

-- a run of quotes that begins with three has three at least
three-least : (s : List ℕ) (i e : ℕ) → threeQuotes (from s i) ≡ true → i ≤ e → (get_or s e 0 ≡ 0x22 → ⊥) → i + 3 ≤ e
three-least s i e t l n = let b = three-each s i t in grind arith

three-quotes : (s : List ℕ) (i : ℕ) → threeQuotes (from s i) ≡ true → Quotes s i (i + 3)
three-quotes s i e j u v = let b = three-each s i e in grind arith

record TripleClosed (s : List ℕ) (b : ℕ) (q : Text) : Type 0 where
  at : ℕ
  on : b ≤ at
  end : ℕ
  apart : at + 3 ≤ end
  within : end ≤ length s
  quotes : Quotes s at end
  is : from s end ≡ q

triple-closed : (p : Bool) (s : List ℕ) (b : ℕ) → b ≤ length s → (q : Text) → closeTriple p (from s b) ≡ closed q → TripleClosed s b q
triple-closed p s b h q c =
    let x = strings.triple-ends p (from s b) in
    go p x.0 (run-suffix _ x.1) (sym (strings.triple-pass p x.1) ∙ c) x.2
  where
    ends : (i : ℕ) → b ≤ i → i ≤ length s → threeQuotes (from s i) ≡ true → afterRun quote (from s i) ≡ q → TripleClosed s b q
    ends i o l t z =
        let q = λ (b : ℕ). eqb b 0x22 || eqb b 0x22 in
        let r = quotes-to s i (end q s i) l refl in
        let n = three-least s i (end q s i) t r.0 (λ e. false≢true (sym (stopped q s i (inside s (end q s i) (omega arith))) ∙ twice _ ∙ eq-eqb _ 0x22 e)) in
        record { at = i; on = o; end = end q s i; apart = n; within = r.1; quotes = quotes-each s i; is = r.2 ∙ z }

    go : (p : Bool) (m : Text) → Suffix m (from s b) → closeTriple p m ≡ closed q → strings.TripleEnd p m → TripleClosed s b q
    go p m x z (strings.TripleEnd.closes _ y) =
        let k = reached s b m h x in
        let e : closed (afterRun quote m) ≡ closed q = sym (strings.triple-close p m y) ∙ z in
        let d : afterRun quote m ≡ q = cc in
        ends (place (length s) m) k.0 k.1 (ap threeQuotes k.2 ∙ y) (ap (afterRun quote) k.2 ∙ d)
    go p m x z (strings.TripleEnd.ends _) = no-wrong 9 [] q (sym (strings.triple-empty p) ∙ z)
    go p m x z (strings.TripleEnd.slash _ y) = no-wrong 10 m q (sym (strings.triple-slash p m y) ∙ z)
    go true m x z (strings.TripleEnd.dollar y) = no-wrong 11 m q (sym (strings.triple-dollar m y) ∙ z)

-- the content: n quotes taken off both ends
content : (s : List ℕ) (i e n : ℕ) → get_or s i 0 ≡ 0x22 → i < e → e ≤ length s → closeString false (from s i) ≡ closed (from s e) → Ends s n i e
    → (get_or s (i + n) 0 ≡ 0x22 → e - n ≤ i + n) → tk.Str (i + n) (e - n) ≡ plainContent (length s) (from s i) (from s e)
content s i e n b o h c ends last =
    let left = left-many s i e n i e ends (left-all s i e (omega arith) h (string-tail s i e (quote-byte s i ∙ eq-eqb (get_or s i 0) 0x22 b) c)) in
    elim (cases_lt (i + n) (e - n)) [
      | inl l ↦ left-stop s i e (i + n) (e - n) left l (λ q. let m = last q in absurd (omega arith))
      | inr l ↦ left-end s i e (i + n) (e - n) left l
    ]

-- ---- three quotes at a place

module _ (s : List ℕ) (i : ℕ) (t : threeQuotes (from s i) ≡ true) where
  pub three-quote : quote (from s i) ≡ true
  three-quote = quote-byte s i ∙ eq-eqb (get_or s i 0) 0x22 (three-each s i t).0

  -- the quotes behind them are those from the first on
  pub three-run : afterRun quote (from s (i + 3)) ≡ afterRun quote (from s i)
  three-run =
      let e = three-each s i t in
      let h = (three-in s i t).0 in
      let x = quotes-next s i (omega arith) e.0 in
      let y = quotes-next s (i + 1) (omega arith) e.1 in
      let z = quotes-next s (i + 2) h e.2 in
      grind arith

  pub three-alone : (get_or s (i + 3) 0 ≡ 0x22 → ⊥) → from s (i + 3) ≡ afterRun quote (from s i)
  three-alone n = sym (run-stays quote (from s (i + 3)) (no-quote s (i + 3) n)) ∙ three-run

pub ruleset three_closed = (three-run, three-alone)

-- ---- from its opening on

module _ (p : Bool) (s : List ℕ) (i : ℕ) where
  -- no three quotes open it
  pub single-opened : quote (from s i) ≡ true → threeQuotes (from s i) ≡ false → closeSingle p (drop 1 (from s i)) ≡ closeString p (from s i)
  single-opened q t = single-same p (drop 1 (from s i)) ∙ sym (strings.in-single p (from s i) t)

  pub triple-opened : threeQuotes (from s i) ≡ true → closeTriple p (drop 3 (from s i)) ≡ closeString p (from s i)
  triple-opened t = sym (strings.in-triple p (from s i) t)

module _ (s : List ℕ) (i e : ℕ) (o : i ≤ e) (h : e ≤ length s) (c : closeString false (from s i) ≡ closed (from s e)) where
  -- the content of a single string
  pub single-content : quote (from s i) ≡ true → threeQuotes (from s i) ≡ false → (i + 1 ≤ e) × (tk.Str (i + 1) (e - 1) ≡ plainContent (length s) (from s i) (from s e))
  single-content q t =
      let b = quote-in s i q in
      let body : closeSingle false (from s (i + 1)) ≡ closed (from s e) = ap (closeSingle false) (sym (past s i b.0 (omega (arith, b.1)))) ∙ single-opened false s i q t ∙ c in
      let k = single-closed false s (i + 1) (omega (arith, b.0)) (from s e) body in
      let on = k.on in
      let byte = k.byte in
      let last = same-place s e (k.at + 1) h (let w = k.within in omega arith) k.is in
      let at-once = λ (f : get_or s (i + 1) 0 ≡ 0x22).
      let z : closed (from s (i + 1 + 1)) ≡ closed (from s e) = sym (single-shut false s (i + 1) (inside s (i + 1) (omega arith)) f) ∙ body in
      let w = inside s (i + 1) (omega arith) in
      same-place s e (i + 1 + 1) h (omega arith) (cc) in
      let ends : Ends s 1 i e = record { apart = omega arith; first = λ j u v. grind arith; last = λ j u v. grind arith } in
      (omega arith, content s i e 1 b.1 (omega arith) h c ends (λ f. let y = at-once f in omega arith))

  -- the content of a triple with no fourth quote
  pub triple-content : threeQuotes (from s i) ≡ true → (get_or s (i + 3) 0 ≡ 0x22 → ⊥) → (i + 6 ≤ e) × (tk.Str (i + 3) (e - 3) ≡ plainContent (length s) (from s i) (from s e))
  triple-content t m =
      let w = (three-in s i t).0 in
      let body : closeTriple false (from s (i + 3)) ≡ closed (from s e) = ap (closeTriple false) (sym (three-in s i t).1) ∙ triple-opened false s i t ∙ c in
      let k = triple-closed false s (i + 3) (omega arith) (from s e) body in
      let on = k.on in
      let apart = k.apart in
      let last = same-place s e k.end h k.within k.is in
      let ends : Ends s 3 i e = record { apart = omega arith; first = three-quotes s i t; last = λ j u v. k.quotes j (omega arith) (omega arith) } in
      (omega arith, content s i e 3 (three-each s i t).0 (omega arith) h c ends (λ f. absurd (m f)))

-- a plain string, from where its end is found
module _ (s : List ℕ) (i : ℕ) (e : Cursor) (h : i ≤ length s) where
  pub single-token : quote (from s i) ≡ true → threeQuotes (from s i) ≡ false → endAt e ≡ endedOf (length s) (closeSingle false (drop 1 (from s i)))
      → (i + 1 ≤ e.at) × (tokenTo (tk.Str (i + 1) (e.at - 1)) e ≡ pieceOf (length s) (scanString (length s) (from s i)))
  single-token q t a =
      let f = a ∙ ap (endedOf (length s)) (single-opened false s i q t) in
      let p = plain-end s i e h q f in
      let k = single-content s i e.at p.0 p.1 p.3 q t in
      (k.0, plain-ended (length s) _ e _ _ f p.3 k.1)
