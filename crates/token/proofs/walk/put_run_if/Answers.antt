-- Where it fits, the record of the kind that was found is stored; else the bytes stay.
use Rattle.token.proofs.lexer.Words.{plainForm, headLength}
use Rattle.token.proofs.form.Laws.{known-bare, length-form}
use Rattle.token.proofs.form.Stores.{stored-in, stored-out}
use Rattle.token.proofs.walk.put_run_if.Goals as goal

pub returns-else-x-out : goal.returns-else-x-out
returns-else-x-out c = stored-out c.args.out.now c.args.x.bytes headLength _ (length-form (plainForm _) c.args.x.at _ c.args.x.cut known-bare) c.if-x-out.false

pub returns-then-x-out : goal.returns-then-x-out
returns-then-x-out c =
    stored-in c.args.out.now c.args.x.bytes headLength _ (length-form (plainForm _) c.args.x.at _ c.args.x.cut known-bare) _ c.if-x-out.true
    (rw (c.plain-form.ensures.value, c.operator_number.ensures) at c.put_record.ensures)
