-- By the class of a byte of ASCII, else by one look.
use Rattle.token.proofs.lexer.Words.{refl, sym, ap, ◌∙◌, eqb, wideClass, isSign}
use Rattle.token.proofs.ident.Signs.{low-byte, sign-text, wide-sign}
use Rattle.token.proofs.names.Bytes.{class-inside}
use Rattle.token.proofs.names.Wide.{told}
use Rattle.token.proofs.charsym.sign_at.Goals as goal

pub look-requires : goal.look-requires
look-requires c = class-inside c.args.s.now c.args.c.at (λ z. eqb z wideClass) refl (told (λ z. eqb z wideClass) c.at-class.ensures c.eq.ensures c.if-eq.true)

pub returns-then-eq : goal.returns-then-eq
returns-then-eq c = sym (wide-sign c.args.s.now c.args.c.at _ c.look.ensures)

pub returns : goal.returns
returns c =
    let l = low-byte _ (told (λ z. eqb z wideClass) c.at-class.ensures c.eq.ensures c.if-eq.false) in
    c.is_op.ensures ∙ ap isSign c.at-class.ensures ∙ sym (sign-text c.args.s.now c.args.c.at l)
