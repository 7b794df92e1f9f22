-- The walk from behind the ordinary bytes finds what it finds from behind the quote on.
use Rattle.token.proofs.cursor.Words.{length, sym, ap, ◌∙◌, ◌≡◌, get_or, arith, endedOf}
use Rattle.token.proofs.cursor.Bytes.{inside}
use Rattle.token.proofs.string.Laws.{quote-in, single-begun, single-closes}
use Rattle.token.proofs.string.lex_single_string.Goals as goal

pub skip_ordinary-run-requires : goal.skip_ordinary-run-requires
skip_ordinary-run-requires c = let q = quote-in _ _ c.requires.opens in omega arith

pub returns-then-byte_at-eq34 : goal.returns-then-byte_at-eq34
returns-then-byte_at-eq34 c =
    let s = c.args.s.now in
    let i = c.skip_ordinary-run.result.at in
    let b : get_or s i 0 ≡ 0x22 = sym c.byte_at.ensures ∙ c.if-byte_at-eq34.true in
    single-closes c.args.prefixed s i (inside s i (omega arith)) b
    ∙ ap (endedOf (length s)) (single-begun c.args.prefixed s c.args.c.at i c.requires.opens c.skip_ordinary-run.ensures.rest)

pub returns : goal.returns
returns c =
    let s = c.args.s.now in
    c.lex_items.ensures ∙ ap (endedOf (length s)) (single-begun c.args.prefixed s c.args.c.at _ c.requires.opens c.skip_ordinary-run.ensures.rest)
