-- The steps of a walk over a script: each keeps that the state is good, and comes over just what the scanner finds.
use Rattle.token.proofs.lexer.Words.{ℕ, ◌+◌, ◌≤◌, ◌<◌, ◌≡◌, refl, sym, ◌∙◌, ap, subst, Bool, true, false, List, length, eqb, arith, eq-eqb, ne_eqb, Err, Text, from, place, Found, scan, Token, headLength, lineLength, recordLength, recordOf, fresh, classAt, storedIf, lineEndAt, trail, answerOf, State, trailFrom, Reaches, Standing, refusalBy, hereOf, gapOf, gapAt, needAt, stateAt, Counted, Counts, Need, counting, withToken, exactNeed, Good, movedTo, tokenBehind, lineBehind, Refuses, Steps, Stand, Refused, TokenKind, text-laws}
use Rattle.token.specs.declared.kinds.TokenKind.TheVariants as tk
use Rattle.token.proofs.lexer.Trails.{stores-stop, counted-stop}
use Rattle.token.proofs.lexer.Turns.{Turn, turn-stop}
use Rattle.token.proofs.records.Counts.{length-counted}
use Rattle.token.proofs.records.Measures.{record-least, newline-length, measured-stop}
use Rattle.token.proofs.records.Reach.{reach-start, reach-trans, reach-same, reach-turn}
open text-laws use {place-from}

pub at-is : {y z : Stand} → y ≡ z → y.at ≡ z.at
at-is e = ap (λ (w : Stand). w.at) e

pub steps-trans : {s : List ℕ} {x y z : Stand} {c d e : Counts} {out mid next : List ℕ} → Steps s x c out y d mid → Steps s y d mid z e next → Steps s x c out z e next
steps-trans a b =
    let k = a.reaches.on in
    let l = b.reaches.on in
    record {
      good = b.good;
      counted = b.counted;
      reaches = reach-trans a.reaches b.reaches;
      kept = λ e. b.kept (omega (arith, k, l, e)) ∙ a.kept (omega (arith, k, l, e));
      uncounted = λ e. b.uncounted (omega (arith, k, l, e)) ∙ a.uncounted (omega (arith, k, l, e));
    }

-- ---- the numbers of a state

-- one more record: a head, and values
one-more : (b : ℕ) (c : Counts) (k : TokenKind) → b ≡ exactNeed (needAt b c).tokens c
    → (needAt (b + recordLength k) (counting c k)).tokens ≡ (needAt b c).tokens + 1
one-more b c k e = let v = length-counted c k in omega (arith, e, v)

-- no longer all bytes
no-longer : (l b k : ℕ) → headLength ≤ k → l ≤ b + 1 → eqb l (b + k) ≡ false
no-longer l b k h m = ne_eqb l (b + k) (λ e. absurd (omega (arith, e)))

abbrev made : ℕ → Bool → Bool → Bool → Need → State
made i newline comment cut n = record { at = i; gap = gapOf newline comment cut; need = n }

made-is : (i : ℕ) (c : Bool) {p q u v : Bool} {m n : Need} → p ≡ u → q ≡ v → m ≡ n → made i p q c m ≡ made i u v c n
made-is i c {p} {q} {u} {v} {m} {n} e f h = ap (λ z. made i z q c m) e ∙ ap (λ z. made i u z c m) f ∙ ap (made i u v c) h

-- what was counted, as a state of the walk
pub stands-at : {s : List ℕ} {x : Stand} {c : Counts} → Good s x → Counted x c → Standing s (stateAt x c)
stands-at g u = record { within = g.within; count = u.tokens; size = g.size }

-- where the walk reaches a state, and the code's numbers make it
module _ {s : List ℕ} {x : Stand} {c : Counts} {out next : List ℕ} {z : State} (r : Reaches s (stateAt x c) out z next) where
  pub steps-to : (y : Stand) (d : Counts) → stateAt y d ≡ z → y.class.number ≡ classAt s y.at → y.bytes ≡ exactNeed (needAt y.bytes d).tokens d → y.line ≤ y.bytes + 1 → y.mark ≤ y.bytes + 1
      → (y.at ≡ x.at → next ≡ out) → (y.at ≡ x.at → d ≡ c) → Steps s x c out y d next
  steps-to y d e k w l m p q =
      let h = subst (λ v. Reaches s (stateAt x c) out v next) (sym e) r in
      record {
        good = record { within = h.stands.within; size = h.stands.size; class = k; line = l; mark = m };
        counted = record { whole = w; tokens = h.stands.count };
        reaches = h;
        kept = p;
        uncounted = q;
      }

-- ---- a token

module _ {s : List ℕ} {x : Stand} (g : Good s x) {c : Counts} (u : Counted x c) where
  -- what is needed with it
  need-more : (t : Token) → needAt (x.bytes + recordLength t.kind) (counting c t.kind) ≡ withToken (needAt x.bytes c) t
  need-more t = let n = one-more x.bytes c t.kind u.whole in ap (λ n. record { tokens = n; bytes = x.bytes + recordLength t.kind; counts = counting c t.kind }) n

  whole-more : (t : Token) → x.bytes + recordLength t.kind ≡ exactNeed (needAt (x.bytes + recordLength t.kind) (counting c t.kind)).tokens (counting c t.kind)
  whole-more t = let n = one-more x.bytes c t.kind u.whole in let v = length-counted c t.kind in let w = u.whole in omega (arith, n, v, w)

  pub step-token : {t : Token} {e : ℕ} → Turn s x.at (gapAt x) t e fresh → (l : ℕ) → l ≡ recordLength t.kind → (out next : List ℕ)
      → next ≡ storedIf out x.bytes (recordOf t) → Steps s x c out (tokenBehind x (hereOf s e) l) (counting c t.kind) next
  step-token {t} {e} w l p out next q =
      let k = record-least t.kind in
      let o = w.on in
      let r = reach-turn (reach-start (stands-at g u)) w fresh refl next q in
      let a = no-longer x.line x.bytes (recordLength t.kind) k g.line in
      let b = no-longer x.mark x.bytes (recordLength t.kind) k g.mark in
      let h = g.line in
      let m = g.mark in
      rw p (steps-to r (tokenBehind x (hereOf s e) (recordLength t.kind)) (counting c t.kind) (made-is e false a b (need-more t)) refl (whole-more t) (omega arith) (omega arith)
      (λ z. absurd (omega (arith, o, z))) (λ z. absurd (omega (arith, o, z))))

  -- a line end, alone or behind a comment
  pub step-line : {a e : ℕ} {mark : Bool} → Turn s x.at (gapAt x) (lineEndAt a e mark) e (gapOf true false x.cut) → (out next : List ℕ)
      → next ≡ storedIf out x.bytes (recordOf (lineEndAt a e mark)) → Steps s x c out (lineBehind s x e) (counting c (tk.Newline mark)) next
  step-line {a} {e} {mark} w out next q =
      let t = lineEndAt a e mark in
      let p = newline-length mark in
      let o = w.on in
      let r = reach-turn (reach-start (stands-at g u)) w (gapOf true false x.cut) refl next q in
      let f = eq-eqb (x.bytes + lineLength) (x.bytes + lineLength) refl in
      let b = no-longer x.mark x.bytes lineLength (omega arith) g.mark in
      let m = g.mark in
      let n : needAt (x.bytes + lineLength) (counting c (tk.Newline mark)) ≡ withToken (needAt x.bytes c) t =
      ap (λ l. needAt (x.bytes + l) (counting c (tk.Newline mark))) (sym p) ∙ need-more t in
      let v : x.bytes + lineLength ≡ exactNeed (needAt (x.bytes + lineLength) (counting c (tk.Newline mark))).tokens (counting c (tk.Newline mark)) = rw p at (whole-more t) in
      steps-to r (lineBehind s x e) (counting c (tk.Newline mark)) (made-is e x.cut f b n) refl v (omega arith) (omega arith)
      (λ z. absurd (omega (arith, o, z))) (λ z. absurd (omega (arith, o, z)))

  -- on to another place, in the same gap: blanks
  pub step-same : (k : ℕ) → x.at ≤ k → k ≤ length s → trail (length s) 0 (gapAt x) (from s k) ≡ trailFrom s (stateAt x c) → (out : List ℕ)
      → Steps s x c out (movedTo x (hereOf s k)) c out
  step-same k l w e out =
      steps-to (reach-same (reach-start (stands-at g u)) k (gapAt x) l w e) _ c refl refl u.whole g.line g.mark (λ z. refl) (λ z. refl)

  -- a comment, with the cut that it makes
  pub step-comment : (k : ℕ) (d : Bool) → x.at ≤ k → k ≤ length s → trail (length s) 0 (gapOf (eqb x.line x.bytes) true d) (from s k) ≡ trailFrom s (stateAt x c) → (out : List ℕ)
      → Steps s x c out (record { at = k; class = record { number = classAt s k }; bytes = x.bytes; line = x.line; mark = x.bytes; cut = d }) c out
  step-comment k d l w e out =
      steps-to (reach-same (reach-start (stands-at g u)) k (gapOf (eqb x.line x.bytes) true d) l w e) _ c
      (made-is k d refl (eq-eqb x.bytes x.bytes refl) refl) refl u.whole g.line (omega arith) (λ z. refl) (λ z. refl)

-- ---- what is refused

module _ {s : List ℕ} {x : Stand} (h : x.at < length s) where
  pub refuses : (j : ℕ) (q : Text) → scan (length s) (from s x.at) ≡ Found.stuck j q → (e : Refused) → e ≡ record { what = refusalBy j; place = place (length s) q } → (c : Counts) (out : List ℕ) → Refuses s x c out e
  refuses j q f e r c out =
      let w = turn-stop s x.at (gapAt x) h j q f in
      record {
        measured = sym (measured-stop _ j (place (length s) q) (needAt x.bytes c) (ap answerOf w)) ∙ ap (λ z. Err z) (sym r);
        stored = sym (stores-stop _ j (place (length s) q) out x.bytes w);
        counted = counted-stop _ j (place (length s) q) c w;
      }

  pub refuses-here : (j : ℕ) → scan (length s) (from s x.at) ≡ Found.stuck j (from s x.at) → (c : Counts) (out : List ℕ) → Refuses s x c out (record { what = refusalBy j; place = x.at })
  refuses-here j f c out = refuses j (from s x.at) f _ (ap (λ p. record { what = refusalBy j; place = p }) (sym (place-from s x.at (omega arith)))) c out
