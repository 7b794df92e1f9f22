-- Another first letter than one of seven begins no keyword.
use Rattle.token.proofs.lexer.Words.{sym, ap, ◌∙◌, eqb, keywordClass, keywordOf}
use Rattle.token.proofs.keyword.Laws.{by-ident, told-by}
use Rattle.token.proofs.ident.Signs.{word-none}
use Rattle.token.proofs.ident.word_of.Goals as goal

pub returns-then-eq : goal.returns-then-eq
returns-then-eq c = told-by 1 by-ident _ _ _ c.word_number.ensures c.keyword_of.ensures

pub returns : goal.returns
unfolding keywordOf
returns c =
    sym (ap keywordOf (word-none c.args.s.now c.args.at c.args.end c.requires.left (sym (ap (λ z. eqb z keywordClass) c.requires.class_is) ∙ sym c.if-eq.ensures)))
