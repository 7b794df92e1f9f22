use Rattle.token.proofs.lexer.Words.{sym, ◌∙◌}
use Rattle.token.proofs.names.Lows.{lows-end}
use Rattle.token.proofs.names.lows_end.Goals as goal

pub returns-then-byte_at-eq95-clause-within : goal.returns-then-byte_at-eq95-clause-within
returns-then-byte_at-eq95-clause-within c =
    (lows-end c.args.s.now c.args.at _ c.requires c.if-s-at-eq95.true (sym c.byte_at.ensures ∙ c.if-byte_at-eq95.true) c.run_end.ensures).0

pub returns-then-byte_at-eq95-clause-same : goal.returns-then-byte_at-eq95-clause-same
returns-then-byte_at-eq95-clause-same c =
    (lows-end c.args.s.now c.args.at _ c.requires c.if-s-at-eq95.true (sym c.byte_at.ensures ∙ c.if-byte_at-eq95.true) c.run_end.ensures).1
