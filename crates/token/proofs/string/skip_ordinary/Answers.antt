use Rattle.token.proofs.cursor.Words.{not, get_or, arith, refl, sym, ap, ◌∙◌, ◌+◌}
use Rattle.token.specs.code.ByteClass as bytes
use Rattle.token.proofs.names.Bytes.{class-inside}
use Rattle.token.proofs.string.Laws.{ordinary-to, skip_none, skip_next, told-ordinary}
use Rattle.token.proofs.string.skip_ordinary.Goals as goal

pub returns-then-not-is_ordinary : goal.returns-then-not-is_ordinary
returns-then-not-is_ordinary c =
    let s = c.args.s.now in
    record { within = c.requires; onward = omega arith; rest = skip_none s _ (told-ordinary (get_or s c.args.c.at 0) c.at.ensures c.if-not-is_ordinary.ensures) }

pub returns-then-not-is_ordinary-2-clause-rest : goal.returns-then-not-is_ordinary-2-clause-rest
returns-then-not-is_ordinary-2-clause-rest c =
    let s = c.args.s.now in
    let i = c.args.c.at in
    let h = class-inside s (i + 1) (λ z. not (bytes.isOrdinary z)) refl (ap (λ z. not (bytes.isOrdinary z)) (sym c.at-2.ensures) ∙ ap not (sym c.if-not-is_ordinary-2.ensures)) in
    skip_none s (i + 1) (told-ordinary (get_or s (i + 1) 0) c.at-2.ensures c.if-not-is_ordinary-2.ensures)
    ∙ skip_next s i (omega (arith, h)) (told-ordinary (get_or s i 0) c.at.ensures c.if-not-is_ordinary.ensures)

pub returns : goal.returns
returns c = let r = ordinary-to c.args.s.now _ _ c.requires c.run_end.ensures in record { within = r.1; onward = r.0; rest = r.2 }
