-- A backtick that no quote follows, or the string that it prefixes.
use Rattle.token.proofs.lexer.Words.{sym, ap, ◌∙◌, eqb, err_from_is_err_and, quoteClass, Here, rules}
use Rattle.token.proofs.walk.Prefixes.{backtick-opens, backtick-begun, refuses-backtick, backtick-on, backtick-prefixes, step-backtick}
use Rattle.token.proofs.walk.backtick_step.Goals as goal

pub consume_backtick-requires-clause-opens : goal.consume_backtick-requires-clause-opens
consume_backtick-requires-clause-opens c = backtick-opens c.requires.good c.requires.backtick

pub returns-in_err-c-clause-refused : goal.returns-in_err-c-clause-refused
returns-in_err-c-clause-refused c =
    let p = err_from_is_err_and c.from_residual.result c.from_residual.ensures.1 in
    rw (p.1, p.2) (refuses-backtick c.requires.good c.requires.backtick _ c.in_err-c.ensures _ _)

pub prefixed_step-requires : goal.prefixed_step-requires
prefixed_step-requires c =
    let p = c.requires in
    let b = backtick-begun p.good p.backtick in
    let q = sym (ap (λ (z : Here). eqb z.class.number quoteClass) c.here_at-end.ensures) ∙ sym c.if-eq.ensures in
    record {
      short = p.short;
      good = p.good;
      counted = p.counted;
      within = b.within;
      no_gap = b.no_gap;
      no_comment = b.no_comment;
      prefixes = rw c.here_at-end.ensures (backtick-prefixes p.good p.backtick _ c.in_ok-c.ensures q);
    }

pub returns : goal.returns
returns c =
    let p = c.requires in
    let q = sym (ap (λ (z : Here). eqb z.class.number quoteClass) c.here_at-end.ensures) ∙ sym c.if-eq.ensures in
    rw (c.behind.ensures, c.here_at-end.ensures) (record {
      on = step-backtick p.good p.backtick _ c.in_ok-c.ensures p.counted q _ _ (rw (c.plain.ensures.value, c.here_at-end.ensures) at c.put_if.ensures);
      further = backtick-on p.good p.backtick _ c.in_ok-c.ensures;
      refused = search rules;
      kept = search rules;
      uncounted = search rules;
    })
