-- What the walk over all characters leaves, by the test that ended it.
use Rattle.token.proofs.lexer.Words.{◌≡◌, sym, ◌∙◌, ap, ap₂, drop, ℕ, ◌<◌, true, false, not, ◌&&◌, List, length, get_or, eqb, lt-ltb, le-leb, clash, or-false, Text, from, place, idStart, afterRun, isIdStart, isOpSign, class-laws, opSign, lfClass, slashClass, wideClass, upToBlank, startsWord, inRun, hereOf, wordChar, runChar, Good, Here, Stand}
use Rattle.std.proofs.Common.{⊎_elim}
use Rattle.std.proofs.lemmas.Bool.{cases_lt}
use Rattle.token.specs.code.Walk.{wholeGoesOn, wholeRunGoesOn, LeftWhole}
use Rattle.token.proofs.byte_class.Laws.{class-start, class-sign, class-run, class-slash, class-wide}
use Rattle.token.proofs.ident.Laws.{head-low}
use Rattle.token.proofs.ident.Signs.{sign-text}
use Rattle.token.proofs.theorems.Families.{head-other}
use Rattle.token.proofs.walk.Pieces.{by-class}
open class-laws use {byte-start, sign-no-start}

-- no operator sign is an id start
no-both : (t : Text) → opSign t ≡ true → idStart t ≡ true → ⊥
no-both t e f = clash (sym (head-other isOpSign isIdStart sign-no-start t e) ∙ f)

module _ {s : List ℕ} {x : Stand} (g : Good s x) (a : upToBlank x.class.number ≡ false) (n : eqb x.class.number lfClass ≡ false) where
  module _ (at : ℕ) (t : from s at ≡ drop 1 (from s x.at)) (e : Here) where
    -- a name
    pub leaves-name : idStart (from s x.at) ≡ true → e ≡ hereOf s (place (length s) (afterRun wordChar (from s at))) → wholeGoesOn s x.at e ≡ true → LeftWhole s x
    leaves-name b q m =
        record {
          no-sign = a;
          no-line = n;
          name = λ w. ap (λ u. wholeGoesOn s x.at (hereOf s (place (length s) (afterRun wordChar u)))) (sym t) ∙ ap (wholeGoesOn s x.at) (sym q) ∙ m;
          run = λ o z. absurd (no-both (from s x.at) o b);
        }

    -- a run of signs
    pub leaves-signs : opSign (from s x.at) ≡ true → e ≡ hereOf s (place (length s) (afterRun runChar (from s at))) → wholeRunGoesOn s e ≡ true → LeftWhole s x
    leaves-signs b q m =
        record {
          no-sign = a;
          no-line = n;
          name = λ w. absurd (no-both (from s x.at) b w);
          run = λ o z. ap (λ u. wholeRunGoesOn s (hereOf s (place (length s) (afterRun runChar u)))) (sym t) ∙ ap (wholeRunGoesOn s) (sym q) ∙ m;
        }

  -- a character past ASCII that is in neither class
  pub leaves-wide : idStart (from s x.at) ≡ false → opSign (from s x.at) ≡ false → LeftWhole s x
  leaves-wide e f = record { no-sign = a; no-line = n; name = λ w. clash (sym e ∙ w); run = λ o z. clash (sym f ∙ o) }

  -- what begins with another byte
  module _ (b : startsWord x.class.number ≡ false) (w : eqb x.class.number wideClass ≡ false) (r : inRun x.class.number ≡ false) where
    low : get_or s x.at 0 < 0x80
    low = ⊎_elim (λ l. l) (λ l. clash (sym w ∙ ap (λ z. eqb z wideClass) g.class ∙ class-wide (get_or s x.at 0) ∙ le-leb 0x80 (get_or s x.at 0) l)) (cases_lt (get_or s x.at 0) 0x80)

    pub leaves-other : LeftWhole s x
    leaves-other =
        let c = get_or s x.at 0 in
        let i : idStart (from s x.at) ≡ false =
        head-low isIdStart s x.at (byte-start 0) low ∙ sym (ap (λ z. z && isIdStart c) (lt-ltb c 0x80 low)) ∙ sym (class-start c)
        ∙ ap₂ (λ u v. not u && v) (by-class g upToBlank a) (by-class g startsWord b) in
        record {
          no-sign = a;
          no-line = n;
          name = λ w. clash (sym i ∙ w);
          run = λ o z.
              let l : eqb c 0x2F ≡ false = sym (or-false (eqb c 0x2F)) ∙ sym (class-slash c) ∙ by-class g (λ z. eqb z slashClass) z in
              let k = sym (class-sign c) ∙ sym (sign-text s x.at low) ∙ o in
              clash (sym (by-class g inRun r) ∙ class-run c ∙ ap₂ (λ u v. u && not v) k l);
        }
