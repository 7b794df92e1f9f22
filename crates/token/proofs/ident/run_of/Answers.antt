-- Another first sign than one of four begins no keyword, and before a comment none stands.
use Rattle.token.proofs.lexer.Words.{◌≡◌, sym, ap, ◌∙◌, eqb, cond, none, from, runOf, codesTo, signKeywordClass, runBefore, keywordOf}
use Rattle.token.proofs.keyword.Laws.{by-op, told-by}
use Rattle.token.proofs.ident.Signs.{before-none}
use Rattle.token.proofs.ident.run_of.Goals.{else-eq-via-then-eq+else-not-opens_comment, else-eq-via-else-eq}
use Rattle.token.proofs.ident.run_of.Goals as goal

pub returns-then-not-opens_comment : goal.returns-then-not-opens_comment
returns-then-not-opens_comment c =
    let s = c.args.s.now in
    told-by 2 by-op _ _ _ c.run_number.ensures c.keyword_of.ensures
    ∙ sym (ap (λ b. keywordOf (cond b none (runOf (codesTo (from s c.args.at) (from s c.args.end.at))))) (sym c.if-not-opens_comment.ensures))

pub returns : goal.returns
unfolding keywordOf
returns c =
    let s = c.args.s.now in
    let e : runBefore (from s c.args.at) (from s c.args.end.at) ≡ none = elim c.else-eq.branch [
      | else-eq-via-then-eq+else-not-opens_comment w ↦ ap (λ b. cond b none (runOf (codesTo (from s c.args.at) (from s c.args.end.at)))) (sym w.if-not-opens_comment.ensures)
      | else-eq-via-else-eq w ↦ before-none s c.args.at c.args.end.at c.requires.left (sym (ap (λ z. eqb z signKeywordClass) c.requires.class_is) ∙ sym w.if-eq.ensures)
    ] in
    sym (ap keywordOf e)
