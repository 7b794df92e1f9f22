-- What the walk over words leaves, by the test that ended it.
use Rattle.token.proofs.lexer.Words.{◌≡◌, refl, sym, ◌∙◌, ap, ap₂, cond, drop, ℕ, ◌+◌, Bool, true, false, not, ◌&&◌, ◌||◌, List, eqb, ne_eqb, Err, Text, clash, Found, scanNumber, isDigit, lfClass, crClass, digitClass, upToBlank, startsWord, inWord, asksMore, isSign, inRun, wideClass, classAt, hereOf, runTo, lowBefore, PieceAnswer, pieceOf, tokenTo, Good, Cursor, TokenKind, Here, Stand, zero-one}
use Rattle.std.specs.Prelude.{Ok}
use Rattle.std.proofs.lemmas.Bool.{false_from_ne_true}
use Rattle.token.specs.computed.Answer.{Numeral, numeral, numberOf, readDigits}
use Rattle.token.specs.paper.Tests.{isHexDigit, hexAhead, letterL}
use Rattle.token.specs.code.Walk.{Left, pastAscii}
use Rattle.token.specs.declared.kinds.TokenKind.TheVariants as tk
use Rattle.token.proofs.byte_class.Laws.{class-apart}
use Rattle.token.proofs.walk.Pieces.{by-class}

-- a class of which a test holds is none of those of which it does not
pub unlike : (p : ℕ → Bool) (k c : ℕ) → p c ≡ false → p k ≡ true → eqb k c ≡ false
unlike p k c e f = ne_eqb k c (λ z. clash (sym e ∙ ap p (sym z) ∙ f))

-- what begins a word begins no run of signs
pub apart-run : {s : List ℕ} {x : Stand} → Good s x → startsWord x.class.number ≡ true → inRun x.class.number ≡ true → ⊥
apart-run g b r = clash (sym (class-apart _) ∙ ap₂ (λ u v. u && v) (by-class g inRun r) (by-class g startsWord b))

module _ {s : List ℕ} {x : Stand} (g : Good s x) (a : upToBlank x.class.number ≡ false) where
  pub left-word : startsWord x.class.number ≡ true → (e : Here) → e ≡ hereOf s (runTo inWord s (x.at + 1))
      → asksMore e.class.number && (not (isSign e.class.number) || lowBefore s x.at e.at) ≡ true → Left s x
  left-word b e q m =
      record {
        no-sign = a;
        no-line = unlike startsWord x.class.number lfClass refl b;
        alone = λ r. clash (sym (unlike startsWord x.class.number crClass refl b) ∙ r);
        word = λ w. ap (λ (z : Here). asksMore z.class.number && (not (isSign z.class.number) || lowBefore s x.at z.at)) (sym q) ∙ m;
        run = λ r. absurd (apart-run g b r);
        number = λ d. clash (sym (unlike startsWord x.class.number digitClass refl b) ∙ d);
      }

  -- one that no character past ASCII follows
  pub word-ascii : startsWord x.class.number ≡ true → (e : Here) → e ≡ hereOf s (runTo inWord s (x.at + 1)) → eqb e.class.number wideClass ≡ false → pastAscii s x ≡ false
  word-ascii b e q m =
      let w : eqb (classAt s (runTo inWord s (x.at + 1))) wideClass ≡ false = ap (λ (z : Here). eqb z.class.number wideClass) (sym q) ∙ m in
      let r : inRun x.class.number ≡ false = false_from_ne_true (inRun x.class.number) (apart-run g b) in
      rw (a, b, w, r)

abbrev kindOf : PieceAnswer → TokenKind
kindOf (Ok t) = t.0
kindOf (Err e) = tk.OpId

-- a number is an IntLit or a LongLit
pub number-kind : (n : ℕ) (t : Text) (k : TokenKind) (e : Cursor) → tokenTo k e ≡ pieceOf n (scanNumber t) → ((v : ℕ) → k ≡ tk.IntLit v → ⊥) → ((v : ℕ) → k ≡ tk.LongLit v → ⊥) → ⊥
unfolding scanNumber pieceOf
number-kind n t k e q f h = go (cond (hexAhead t) (readDigits isHexDigit 16 0 (drop 2 t)) (readDigits isDigit 10 0 t)) q
  where
    by : (l a b : Bool) (v : ℕ) (r : Text) → tokenTo k e ≡ pieceOf n (cond l (cond a (Found.token (tk.LongLit v) (drop 1 r)) (Found.stuck 6 t)) (cond b (Found.token (tk.IntLit v) r) (Found.stuck 6 t))) → ⊥
    by true true b v r p = h v (ap kindOf p)
    by true false b v r p = zero-one (cc)
    by false a true v r p = f v (ap kindOf p)
    by false a false v r p = zero-one (cc)

    go : (m : Numeral) → tokenTo k e ≡ pieceOf n (numberOf t m) → ⊥
    go (numeral v r) p = by (letterL r) _ _ v r p
