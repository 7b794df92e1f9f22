-- By the keyword that was found, or none.
use Rattle.token.proofs.lexer.Words.{◌≡◌, ◌<◌, ◌≤◌, ℕ, List, false, length, drop, refl, sym, ap, ◌∙◌, arith, some, none, from, afterIdent, inWord, hereOf, runTo, lowBefore, pieceOf, Here, idStart, true, LeftTo}
use Rattle.token.specs.declared.kinds.TokenKind.TheVariants as tk
use Rattle.token.proofs.keyword.Laws.{key-is, key-not}
use Rattle.token.proofs.ident.Laws.{left-to, ident-left, next-later, scan-word, token-at}
use Rattle.token.proofs.names.Laws.{word-bounds, word-done, word-kept}
use Rattle.token.proofs.ident.lex_ident.Goals as goal

pub name_end-end-requires : goal.name_end-end-requires
name_end-end-requires c =
    let s = c.args.s.now in
    let p = c.requires in
    let n = next-later s c.args.c.at c.args.next.at p.within p.next_within p.next_same in
    let q = ap (λ (z : Here). z.at) c.word_on.ensures in
    let b = word-bounds s c.args.c.at c.args.next.at p.within n p.next_within p.next_same in
    record {
      some = omega (arith, n, q, b.0);
      within = omega (arith, q, b.1);
      here = c.word_on.ensures ∙ ap (hereOf s) (sym q);
      stops = ap (λ (z : Here). inWord z.class.number) c.word_on.ensures ∙ word-done s c.args.next.at;
    }

-- what is left behind the identifier
left-word : (s : List ℕ) (i j : ℕ) (e : Here) (end : ℕ) → i < length s → idStart (from s i) ≡ true → j ≤ length s → from s j ≡ drop 1 (from s i)
    → e ≡ hereOf s (runTo inWord s j) → end ≤ length s → from s end ≡ afterIdent (lowBefore s i e.at) (from s e.at)
    → LeftTo s i end × (from s end ≡ afterIdent false (drop 1 (from s i)))
left-word s i j e end h b k r w l p =
    let q = p ∙ ap (λ x. afterIdent (lowBefore s i x) (from s x)) (ap (λ (z : Here). z.at) w) ∙ word-kept s i j h (next-later s i j h k r) k r in
    (left-to s i end _ (omega arith) l q (ident-left (from s i) b), q)

pub word_of-word-requires-clause-left : goal.word_of-word-requires-clause-left
word_of-word-requires-clause-left c =
    let p = c.requires in
    let e = c.name_end-end.ensures in
    (left-word c.args.s.now c.args.c.at c.args.next.at _ _ p.within p.starts p.next_within p.next_same c.word_on.ensures e.within e.rest).0

pub or_prefixed-requires-clause-order : goal.or_prefixed-requires-clause-order
or_prefixed-requires-clause-order c =
    let p = c.requires in
    let e = c.name_end-end.ensures in
    (left-word c.args.s.now c.args.c.at c.args.next.at _ _ p.within p.starts p.next_within p.next_same c.word_on.ensures e.within e.rest).0.0

pub returns-in-Some : goal.returns-in-Some
returns-in-Some c =
    let s = c.args.s.now in
    let p = c.requires in
    let e = c.name_end-end.ensures in
    let l = left-word c.args.s.now c.args.c.at c.args.next.at _ _ p.within p.starts p.next_within p.next_same c.word_on.ensures e.within e.rest in
    let w = scan-word (length s) (from s c.args.c.at) _ (some c.in-Some.k) l.1 (key-is _ c.in-Some.k (sym c.in-Some.is ∙ c.word_of-word.ensures)) in
    token-at s (tk.Kw c.in-Some.k) _ _ e.within refl ∙ ap (pieceOf (length s)) (sym w)

pub returns-in-None : goal.returns-in-None
returns-in-None c =
    let s = c.args.s.now in
    let p = c.requires in
    let e = c.name_end-end.ensures in
    let l = left-word c.args.s.now c.args.c.at c.args.next.at _ _ p.within p.starts p.next_within p.next_same c.word_on.ensures e.within e.rest in
    c.or_prefixed.ensures
    ∙ ap (pieceOf (length s)) (sym (scan-word (length s) (from s c.args.c.at) _ none l.1 (key-not _ (sym c.in-None.is ∙ c.word_of-word.ensures))))
