use Rattle.puts.proofs.Laws.{puts-fails, puts-then, puts-last}
use Rattle.listing_text.specs.Lines.{headText}
use Rattle.listing_text.proofs.lines.put_head.Goals as goal

pub returns-in_err-put_number : goal.returns-in_err-put_number
unfolding headText
returns-in_err-put_number c = puts-fails _ _ c.from_residual.ensures.0 c.in_err-put_number.ensures.put

pub returns-in_err-put_spaced : goal.returns-in_err-put_spaced
unfolding headText
returns-in_err-put_spaced c =
    puts-then _ _ c.in_ok-put_number.ensures.put (puts-fails _ _ c.from_residual-in_err-put_spaced.ensures.0 c.in_err-put_spaced.ensures)

pub returns-in_err-put_spaced-2 : goal.returns-in_err-put_spaced-2
unfolding headText
returns-in_err-put_spaced-2 c =
    puts-then _ _ c.in_ok-put_number.ensures.put
    (puts-then _ _ c.in_ok-put_spaced.ensures (puts-fails _ _ c.from_residual-in_err-put_spaced-2.ensures.0 c.in_err-put_spaced-2.ensures))

pub returns : goal.returns
unfolding headText
returns c =
    puts-then _ _ c.in_ok-put_number.ensures.put
    (puts-then _ _ c.in_ok-put_spaced.ensures (puts-then _ _ c.in_ok-put_spaced-2.ensures (puts-last c.put_spaced-3.ensures)))
