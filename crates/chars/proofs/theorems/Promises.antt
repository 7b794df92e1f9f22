-- The promises of specs/promises hold.
use Rattle.std.proofs.Common.{ℕ, ◌+◌, ◌≤◌, ◌<◌, ◌≡◌, refl, sym, ◌∙◌, ap, arith, length, drop, get_or, length-drop, Bool, true, ◌&&◌, List, [], ◌∷◌, ⊎_elim, None}
use Rattle.std.proofs.Math.Bool.{and-eq-true_iff}
use mathlib.Core.List.Memᴰ
use mathlib.Core.List.{Memᴰ}
use Rattle.chars.specs.paper.Ranges.{Range, Ascending}
use Rattle.chars.specs.computed.Ascending.{ascendingFrom}
use Rattle.chars.specs.paper.Utf8.{width, codeOf}
use Rattle.chars.specs.code.Utf8.{decoded, decodeAt}
use Rattle.chars.specs.code.Text.{charEnd}
use Rattle.chars.specs.promises.Codes.{CodeLaws}
use Rattle.chars.specs.promises.Utf8.{Decoding, ValidLaws}
use Rattle.chars.specs.promises.Texts.{TextLaws}
use Rattle.chars.specs.promises.Classes.{tables, ClassLaws}
use Rattle.chars.proofs.utf8.Rows.{here, inside, row-00, none-low, none-high}
use Rattle.chars.proofs.utf8.Codes.{code-one}
use Rattle.chars.proofs.utf8.Widths.{width-most, width-within}
use Rattle.chars.proofs.text.Steps.{CharStands, char-stands}
use Rattle.chars.proofs.utf8.Valid as valids
use Rattle.chars.proofs.text.Places as places
use Rattle.chars.proofs.text.Steps as steps
use Rattle.chars.proofs.text.Texts as texts
use Rattle.chars.proofs.Carry as carries
use Rattle.chars.proofs.classes.Laws as classes
use Rattle.chars.proofs.classes.Masks as masks
use Rattle.chars.proofs.text.Runs as runs
use Rattle.chars.proofs.classes.Ranges as ranges

abbrev allAscend : List (List Range) → Bool
allAscend [] = true
allAscend (t ∷ ts) = ascendingFrom 0 t && allAscend ts

all-ascending : (ts : List (List Range)) → allAscend ts ≡ true → (t : List Range) → Memᴰ t ts → Ascending t
all-ascending [] e t m = absurd (Memᴰ.not-nil m)
all-ascending (u ∷ ts) e t m =
    let k = (and-eq-true_iff (ascendingFrom 0 u) (allAscend ts)).0 e in
    ⊎_elim (λ q. rw q (ranges.ascending u k.0)) (λ r. all-ascending ts k.1 t r) (Memᴰ.cases_cons m)

-- ---- decoding

next-end : (s : List ℕ) (i c w : ℕ) → CharStands s i c w → charEnd s i ≡ i + w
unfolding charEnd
next-end s i c w h = let a = h.width-is in let b = h.least in omega arith

module _ (s : List ℕ) (i : ℕ) where
  nothing : width (drop i s) ≡ 0 → decodeAt s i ≡ None
  unfolding decodeAt
  nothing e = rw e

  one : width (drop i s) ≡ 1 → decodeAt s i ≡ decoded (get_or s i 0) 1
  unfolding decodeAt
  one e = rw (e, ← code-one s i 1 (omega arith))

  ends : (c w : ℕ) → decoded c w ≡ decodeAt s i → i < length s
  ends c w e = let h = char-stands s i c w e in let a = h.width-is in let b = h.least in inside s i (λ z. omega arith)

  pub decoding : Decoding s i
  decoding = record {
    widths = λ c w e.
        let h = char-stands s i c w e in
        let a = h.width-is in
        let m = width-most (drop i s) in
        let l = width-within s i (let z = ends c w e in omega arith) in
        (h.least, omega arith, omega arith);
    ascii = λ h l. one (ap width (here s i h) ∙ sym (row-00 (get_or s i 0) (drop (i + 1) s) (omega arith) (omega arith)));
    no-first = λ h l m. nothing (ap width (here s i h) ∙ sym (none-low (get_or s i 0) (drop (i + 1) s) l m));
    high = λ h l. nothing (ap width (here s i h) ∙ sym (none-high (get_or s i 0) (drop (i + 1) s) l));
    past = λ h. nothing (empty h);
    in-text = λ c w e.
        let h = char-stands s i c w e in
        (ap (λ v. codeOf v (drop i s)) h.width-is ∙ h.code-is, next-end s i c w h);
  }
    where
      empty : length s ≤ i → width (drop i s) ≡ 0
      empty h = let a = width-most (drop i s) in let b = length-drop i s in omega arith

-- ---- laws

pub code_laws : CodeLaws
code_laws = record {
  carry = carries.carry;
  carry-not = carries.carry-not;
  no-member = carries.no-member;
  every-sub = carries.every-sub;
  carry-span = carries.carry-span;
  agree = carries.agree;
  mask-set = carries.mask-set;
  hits = carries.hits;
  misses = carries.misses;
  between-in = ranges.between-in;
  between-out = ranges.between-out;
  in-between = ranges.in-between;
  not-between = ranges.not-between;
}

pub valid-laws : ValidLaws
valid-laws = record {
  valid = valids.valid;
  longest-one = valids.longest-one;
  valid-all = valids.valid-all;
  all-valid = valids.all-valid;
  next-valid = places.next-valid;
}

pub text-laws : TextLaws
text-laws = record {
  at-char = places.at-char;
  next-on = places.next-on;
  at-end = places.at-end;
  place-from = places.place-from;
  at-ascii = places.at-ascii;
  ascii-code = places.ascii-code;
  ascii-next = places.ascii-next;
  wide-code = places.wide-code;
  wide-tail = places.wide-tail;
  wide-past = places.wide-past;
  head-byte = places.head-byte;
  step-text = places.step-text;
  step-classes = steps.step-classes;
  step-none = places.step-none;
  suffix-refl = texts.suffix-refl;
  suffix-cons = texts.suffix-cons;
  suffix-trans = texts.suffix-trans;
  suffix-same = texts.suffix-same;
  drop-suffix = texts.drop-suffix;
  text-at = texts.text-at;
  text-drop = texts.text-drop;
  text-suffix = texts.text-suffix;
  text-place = texts.text-place;
  from-length = texts.from-length;
  run-next = places.run-next;
  run-stays = runs.run-stays;
  run-place = runs.run-place;
  run-done = runs.run-done;
}

-- the order of the tables: one computed test over the six; those of the source: by comparing
pub class-laws : ClassLaws
unfolding tables
class-laws = record {
  tables-ascend = all-ascending tables refl;
  sign-is = classes.sign-is;
  sign-no-start = classes.sign-no-start;
  sign-no-id = classes.sign-no-id;
  byte-start = classes.byte-start;
  byte-id = classes.byte-id;
  byte-sign = classes.byte-sign;
  roman-start = classes.roman-start;
  roman-no-id = classes.roman-no-id;
  circled-no-start = classes.circled-no-start;
  circled-no-id = classes.circled-no-id;
  above-no-start = classes.above-no-start;
  above-no-id = classes.above-no-id;
  above-no-print = classes.above-no-print;
  above-no-sign = classes.above-no-sign;
  tables-are = refl;
  id-masks = masks.id-masks;
  start-masks = masks.start-masks;
  sign-masks = masks.sign-masks;
  print-masks = masks.print-masks;
}

-- for contracts of which one is a clause
pub ruleset told = (text-laws, class-laws)
