-- By the byte that follows.
use Rattle.token.proofs.lexer.Words.{length, eq-eqb, ne_eqb, refl, sym, ap, ◌∙◌, from, pieceOf}
use Rattle.token.specs.declared.kinds.TokenKind.TheVariants as tk
use Rattle.token.proofs.ident.Laws.{quote-byte, is-prefixed, not-prefixed, token-at}
use Rattle.token.proofs.ident.or_prefixed.Goals as goal

pub lex_prefixed_string-requires : goal.lex_prefixed_string-requires
lex_prefixed_string-requires c =
    record {
      order = c.requires.order;
      within = c.requires.within;
      opens = quote-byte c.args.s.now c.args.c.at ∙ eq-eqb _ 0x22 (sym c.byte_at.ensures ∙ c.if-byte_at-eq34.true);
    }

pub returns-then-byte_at-eq34 : goal.returns-then-byte_at-eq34
returns-then-byte_at-eq34 c =
    let s = c.args.s.now in
    let q = quote-byte s c.args.c.at ∙ eq-eqb _ 0x22 (sym c.byte_at.ensures ∙ c.if-byte_at-eq34.true) in
    c.lex_prefixed_string.ensures ∙ ap (pieceOf (length s)) (sym (is-prefixed (length s) tk.Ident (from s c.args.start) (from s c.args.c.at) q))

pub returns : goal.returns
returns c =
    let s = c.args.s.now in
    let q = quote-byte s c.args.c.at ∙ ne_eqb _ 0x22 (λ e. c.if-byte_at-eq34.false (c.byte_at.ensures ∙ e)) in
    token-at s tk.Ident c.args.c _ c.requires.within refl ∙ ap (pieceOf (length s)) (sym (not-prefixed (length s) tk.Ident (from s c.args.start) (from s c.args.c.at) q))
