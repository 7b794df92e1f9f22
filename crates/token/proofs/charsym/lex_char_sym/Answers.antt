-- Behind the `'` an escape, or what the byte there begins.
use Rattle.token.proofs.lexer.Words.{◌+◌, length, sym, ap, ◌∙◌, from, pieceOf}
use Rattle.token.proofs.charsym.Laws.{tick-opened, plain-stands, plain-refused, plain-is, escape-is}
use Rattle.token.proofs.charsym.lex_char_sym.Goals as goal

pub returns-then-b-eq92 : goal.returns-then-b-eq92
returns-then-b-eq92 c =
    let s = c.args.s.now in
    let e = sym c.byte_at-b.ensures ∙ c.if-b-eq92.true in
    c.lex_escaped_char.ensures ∙ ap (pieceOf (length s)) (sym (escape-is s c.args.c.at c.requires.opens e).1)

pub plain_end-plain-requires-clause-within : goal.plain_end-plain-requires-clause-within
plain_end-plain-requires-clause-within c = (tick-opened c.args.s.now c.args.c.at c.requires.opens).0

pub returns-in_default : goal.returns-in_default
returns-in_default c =
    let s = c.args.s.now in
    let o = c.requires.opens in
    let q = plain-is s c.args.c.at o (λ e. c.if-b-eq92.false (c.byte_at-b.ensures ∙ e)) in
    rw c.at.ensures (plain-refused s (c.args.c.at + 1) (tick-opened s c.args.c.at o).0 c.in_default.ensures ∙ ap (pieceOf (length s)) (sym q))

pub returns : goal.returns
returns c =
    let s = c.args.s.now in
    let q = plain-is s c.args.c.at c.requires.opens (λ e. c.if-b-eq92.false (c.byte_at-b.ensures ∙ e)) in
    plain-stands (length s) (from s (c.args.c.at + 1)) _ c.in-Some.ensures ∙ ap (pieceOf (length s)) (sym q)
