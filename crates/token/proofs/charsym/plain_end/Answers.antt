-- Where nothing asks for more, the symbol ends with its ASCII bytes.
use Rattle.token.proofs.names.Bytes.{class-inside}
use Rattle.token.proofs.lexer.Words.{◌≡◌, ◌+◌, get_or, arith, sym, ap, ◌∙◌, and-false, classOf, eqb, ne_eqb, ℕ, Bool, List, false, not, ◌&&◌, from, opSign, classAt, upToBlank, startsWord, inRun, refl, isSign, wideClass}
use Rattle.token.proofs.charsym.Laws.{char-ends, start-behind, ascii-run, ascii-word, ascii-op, ascii-semi, ascii-none}
use Rattle.token.proofs.charsym.plain_end.Goals as goal
use Rattle.token.proofs.charsym.plain_end.Goals.{else-b-eq59-via-then-b-eq59+else-not-sign_at, else-b-eq59-via-else-b-eq59}

pub returns-then-is_char : goal.returns-then-is_char
returns-then-is_char c =
    let p = c.requires in
    char-ends c.args.s.now c.args.c.at (λ e. p.no_escape (p.byte ∙ e)) (rw p.byte at (sym c.if-is_char.ensures))

-- the class is that of the byte there
same : (f : ℕ → Bool) (s : List ℕ) (i : ℕ) {b k : ℕ} {r : Bool} → b ≡ get_or s i 0 → k ≡ classOf b → r ≡ f k → f (classAt s i) ≡ r
same f s i q r e = ap (λ z. f (classOf z)) (sym q) ∙ ap f (sym r) ∙ sym e

pub returns-then-is_op : goal.returns-then-is_op
returns-then-is_op c =
    let p = c.requires in
    c.run_symbol_end.ensures ∙ ascii-op c.args.s.now c.args.c.at (λ e. p.no_escape (p.byte ∙ e)) (rw p.byte at (sym c.if-is_char.ensures)) (same isSign c.args.s.now c.args.c.at p.byte c.of-class.ensures c.if-is_op.ensures)

pub run_end-end-requires : goal.run_end-end-requires
run_end-end-requires c =
    let h = class-inside c.args.s.now c.args.c.at inRun refl (same inRun c.args.s.now c.args.c.at c.requires.byte c.of-class.ensures c.if-in_run.ensures) in omega arith

pub returns-then-not-in_operator : goal.returns-then-not-in_operator
returns-then-not-in_operator c =
    let p = c.requires in
    ascii-run c.args.s.now c.args.c.at (λ e. p.no_escape (p.byte ∙ e)) (rw p.byte at (sym c.if-is_char.ensures)) c.run_end-end.result (sym c.if-not-in_operator.ensures)
    (same inRun c.args.s.now c.args.c.at p.byte c.of-class.ensures c.if-in_run.ensures) c.run_end-end.ensures

pub name_symbol_end-requires-clause-start : goal.name_symbol_end-requires-clause-start
name_symbol_end-requires-clause-start c = (start-behind c.args.s.now c.args.c.at (same (λ z. not (upToBlank z) && startsWord z) c.args.s.now c.args.c.at c.requires.byte c.of-class.ensures c.if-begins_word.ensures)).0

pub name_symbol_end-requires-clause-within : goal.name_symbol_end-requires-clause-within
name_symbol_end-requires-clause-within c = (start-behind c.args.s.now c.args.c.at (same (λ z. not (upToBlank z) && startsWord z) c.args.s.now c.args.c.at c.requires.byte c.of-class.ensures c.if-begins_word.ensures)).1

pub name_symbol_end-requires-clause-next_same : goal.name_symbol_end-requires-clause-next_same
name_symbol_end-requires-clause-next_same c = (start-behind c.args.s.now c.args.c.at (same (λ z. not (upToBlank z) && startsWord z) c.args.s.now c.args.c.at c.requires.byte c.of-class.ensures c.if-begins_word.ensures)).2

pub returns-then-begins_word : goal.returns-then-begins_word
returns-then-begins_word c =
    let p = c.requires in
    let r = c.name_symbol_end.ensures in
    ascii-word c.args.s.now c.args.c.at (λ e. p.no_escape (p.byte ∙ e)) (rw p.byte at (sym c.if-is_char.ensures))
    (same (λ z. not (upToBlank z) && startsWord z) c.args.s.now c.args.c.at p.byte c.of-class.ensures c.if-begins_word.ensures) c.name_symbol_end.result.at r.within r.rest

pub returns-then-not-sign_at : goal.returns-then-not-sign_at
returns-then-not-sign_at c =
    let p = c.requires in
    ascii-semi c.args.s.now c.args.c.at (λ e. p.no_escape (p.byte ∙ e)) (rw p.byte at (sym c.if-is_char.ensures)) (sym p.byte ∙ c.if-b-eq59.true) (sym c.if-not-sign_at.ensures)

pub returns : goal.returns
returns c =
    let s = c.args.s.now in
    let i = c.args.c.at in
    let p = c.requires in
    let k = c.of-class.ensures in
    let m : eqb c.args.b 0x3B && not (opSign (from s (i + 1))) ≡ false = elim c.else-b-eq59.branch [
      | else-b-eq59-via-then-b-eq59+else-not-sign_at w ↦ ap (λ o. eqb c.args.b 0x3B && not o) (sym w.if-not-sign_at.ensures) ∙ and-false (eqb c.args.b 0x3B)
      | else-b-eq59-via-else-b-eq59 w ↦ ap (λ x. x && not (opSign (from s (i + 1)))) (ne_eqb c.args.b 0x3B w.if-b-eq59.false)
    ] in
    ascii-none s i (λ e. p.no_escape (p.byte ∙ e)) (rw p.byte at (sym c.if-is_char.ensures)) (same (λ z. not (upToBlank z) && startsWord z) s i p.byte k c.if-begins_word.ensures)
    (same isSign s i p.byte k c.if-is_op.ensures) (rw p.byte at m) (same (λ z. eqb z wideClass) s i p.byte k c.if-eq.ensures)
