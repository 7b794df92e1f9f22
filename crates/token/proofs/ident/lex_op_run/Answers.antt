-- By the keyword that was found, or none.
use Rattle.token.proofs.lexer.Words.{length, arith, refl, sym, ap, ◌∙◌, from, freeSign, Found, pieceOf}
use Rattle.token.specs.declared.kinds.TokenKind.TheVariants as tk
use Rattle.token.proofs.keyword.Laws.{key-is, key-not}
use Rattle.token.proofs.ident.Laws.{left-to, run-left, token-at}
use Rattle.token.proofs.ident.Signs.{kindOr, scan-before}
use Rattle.token.proofs.ident.lex_op_run.Goals as goal

pub run_of-run-requires-clause-left : goal.run_of-run-requires-clause-left
run_of-run-requires-clause-left c =
    let s = c.args.s.now in
    let e = c.run_end_from-end.ensures in
    left-to s c.args.c.at _ _ (omega (arith, c.requires.within)) e.within (e.rest ∙ c.requires.next_same) (run-left freeSign (from s c.args.c.at))

pub returns-in-Some : goal.returns-in-Some
returns-in-Some c =
    let s = c.args.s.now in
    let e = c.run_end_from-end.ensures in
    let r = from s c.run_end_from-end.result.at in
    let key = key-is _ c.in-Some.k (sym c.in-Some.is ∙ c.run_of-run.ensures) in
    let q = scan-before (from s c.args.c.at) r (e.rest ∙ c.requires.next_same) ∙ ap (λ o. Found.token (kindOr tk.OpId o) r) key in
    token-at s (tk.Kw c.in-Some.k) _ r e.within refl ∙ ap (pieceOf (length s)) (sym q)

pub returns-in-None : goal.returns-in-None
returns-in-None c =
    let s = c.args.s.now in
    let e = c.run_end_from-end.ensures in
    let r = from s c.run_end_from-end.result.at in
    let key = key-not _ (sym c.in-None.is ∙ c.run_of-run.ensures) in
    let q = scan-before (from s c.args.c.at) r (e.rest ∙ c.requires.next_same) ∙ ap (λ o. Found.token (kindOr tk.OpId o) r) key in
    token-at s tk.OpId _ r e.within refl ∙ ap (pieceOf (length s)) (sym q)
