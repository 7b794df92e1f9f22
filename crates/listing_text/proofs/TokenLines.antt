-- The lines of a script's records are those of its tokens.
use Prim.Native.Nat.{ℕ, ◌+◌, ◌*◌, ◌/◌, ◌%◌, ◌≤◌}
use mathlib.Core.Path.{◌≡◌, refl, sym, ◌∙◌, ap}
use mathlib.Core.List.{List, [], ◌∷◌, ◌++◌, append_assoc}
use lib.ListN.{length, length-append}
use lib.Seq.{drop_at}
use native.Mathlib.Nat.{mod-eq_of_lt}
use native.Mathlib.Omega.{arith}
use borrow.Author.Tests.{le-leb}
use Rattle.words.specs.Words.{twoAt}
use Rattle.chars.specs.paper.Quoted.{codes}
use Rattle.token.specs.paper.Kinds.{kwNumber, kindNumber, Token}
use Rattle.token.specs.paper.Records.{bit, valuesOf, headLength, mostBytes, recordLength, recordOf, records}
use Rattle.token.specs.computed.Listing.{decimal, spaced, valueNumbers, shown}
use Rattle.token.specs.code.Form.{joined, formOf, heldAt}
use Rattle.token.specs.declared.kinds.Kw.{Kw}
use Rattle.token.specs.declared.kinds.Kw.TheVariants as kw
use Rattle.token.specs.declared.kinds.TokenKind.{TokenKind}
use Rattle.token.specs.declared.kinds.TokenKind.TheVariants as tk
use Rattle.token.specs.declared.form.Held.{Held}
use Rattle.token.proofs.form.Laws.{known-least}
use Rattle.token.proofs.form.Stores.{length-record}
use Rattle.token.proofs.theorems.Bounded.{ValuesWithin, Bounded, AllBounded, storable, token-back}
use Rattle.listing_text.specs.Lines.{lengthHere, heldValues, headText, valuesText, lineText, linesFor, recordLines}
use Rattle.listing_text.proofs.LineLaws.{lines-turn}

-- ---- one record

kw-values : (k : Kw) → heldValues (kwNumber k) 0 ≡ []
unfolding heldValues
kw-values kw.Case = refl
kw-values kw.Else = refl
kw-values kw.False = refl
kw-values kw.Function = refl
kw-values kw.If = refl
kw-values kw.Match = refl
kw-values kw.Return = refl
kw-values kw.Then = refl
kw-values kw.True = refl
kw-values kw.Colon = refl
kw-values kw.FatArrow = refl
kw-values kw.Assign = refl
kw-values kw.Hash = refl
kw-values kw.At = refl

-- both places of a string's content
two-places : (b c : ℕ) → b ≤ mostBytes → c ≤ mostBytes → heldValues 6 (b % 4294967296 + c % 4294967296 * 4294967296) ≡ b ∷ c ∷ []
unfolding heldValues
two-places b c h k =
    let v = b % 4294967296 + c % 4294967296 * 4294967296 in
    let low : v % 4294967296 ≡ b % 4294967296 = omega arith in
    let high : v / 4294967296 ≡ c % 4294967296 = omega arith in
    let first : v % 4294967296 ≡ b = low ∙ mod-eq_of_lt (omega arith) in
    let second : v / 4294967296 ≡ c = high ∙ mod-eq_of_lt (omega arith) in
    rw (first, second)

values-shown : (a e : ℕ) (k : TokenKind) → ValuesWithin a e k → e ≤ mostBytes → heldValues (kindNumber k) (joined (valuesOf k)) ≡ valueNumbers (valuesOf k)
unfolding heldValues
values-shown a e tk.Ident h l = refl
values-shown a e tk.OpId h l = refl
values-shown a e tk.BacktickId h l = refl
values-shown a e (tk.IntLit v) h l = refl
values-shown a e (tk.LongLit v) h l = refl
values-shown a e (tk.Str b c) h l = let x = h.1 in let y = h.2 in two-places b c (omega arith) (omega arith)
values-shown a e tk.CharSym h l = refl
values-shown a e tk.LParen h l = refl
values-shown a e tk.RParen h l = refl
values-shown a e tk.LBracket h l = refl
values-shown a e tk.RBracket h l = refl
values-shown a e tk.LBrace h l = refl
values-shown a e tk.RBrace h l = refl
values-shown a e tk.Comma h l = refl
values-shown a e tk.Semi h l = refl
values-shown a e tk.Dot h l = refl
values-shown a e (tk.Newline mark) h l = refl
values-shown a e tk.Eof h l = refl
values-shown a e (tk.Kw k) h l = kw-values k

spaced-on : (a b : List ℕ) → spaced a ++ spaced b ≡ spaced (a ++ b)
spaced-on [] b = refl
spaced-on (v ∷ a) b = append_assoc (codes " " ++ decimal v) (spaced a) (spaced b) ∙ ap (λ t. codes " " ++ decimal v ++ t) (spaced-on a b)

-- a token's line
abbrev shownLine : Token → List ℕ
shownLine t = decimal (kindNumber t.kind) ++ spaced (t.start ∷ t.end ∷ bit t.cut ∷ valueNumbers (valuesOf t.kind)) ++ codes "\n"

module _ (n : ℕ) (short : n ≤ mostBytes) (t : Token) (h : Bounded n t) (rest : List ℕ) where
  line-shown : lineText (heldAt (recordOf t ++ rest) 0) ≡ shownLine t
  unfolding lineText headText valuesText
  line-shown =
      let e = h.end in
      let values = values-shown t.start t.end t.kind h.values (omega arith) in
      let front = t.start ∷ t.end ∷ bit t.cut ∷ [] in
      let kind = decimal (kindNumber t.kind) in
      rw (token-back n short t h rest)
      (ap (λ l. kind ++ spaced front ++ spaced l ++ codes "\n") values
      ∙ ap (λ l. l ++ codes "\n")
      (append_assoc kind (spaced front) (spaced (valueNumbers (valuesOf t.kind)))
      ∙ ap (λ l. kind ++ l) (spaced-on front (valueNumbers (valuesOf t.kind)))))

  own-length : lengthHere (recordOf t ++ rest) ≡ recordLength t.kind
  unfolding lengthHere heldAt formOf
  own-length =
      let size : twoAt (recordOf t ++ rest) 0 ≡ recordLength t.kind = ap (λ (r : Held). r.length) (token-back n short t h rest) in
      let least = known-least (storable n short t h).known in
      let whole = length-append (recordOf t) rest in
      let own = length-record t in
      rw (size, le-leb headLength (recordLength t.kind) least, le-leb (recordLength t.kind) (length (recordOf t ++ rest)) (omega arith))

-- ---- all of them

pub records-shown : (n : ℕ) → n ≤ mostBytes → (ts : List Token) → AllBounded n ts → recordLines (records ts) ≡ shown ts
unfolding records shown recordLines linesFor formOf
records-shown n short [] h = refl
records-shown n short (t ∷ ts) h =
    let own = own-length n short t h.0 (records ts) in
    let least = known-least (storable n short t h.0).known in
    let longer : lengthHere (recordOf t ++ records ts) ≡ 0 → ⊥ = λ z. omega arith in
    lines-turn (recordOf t ++ records ts) longer
    ∙ ap (λ l. lineText (heldAt (recordOf t ++ records ts) 0) ++ recordLines l) (drop_at (recordOf t) (records ts) _ (length-record t ∙ sym own))
    ∙ ap (λ l. l ++ recordLines (records ts)) (line-shown n short t h.0 (records ts))
    ∙ ap (λ l. shownLine t ++ l) (records-shown n short ts h.1)
