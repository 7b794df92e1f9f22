-- By the form of three bytes, and by one look where it does not stand there.
use Rattle.std.proofs.Common.{sym, ◌∙◌, arith}
use Rattle.chars.proofs.text.Signs.{form, block-within, sign-three, no-sign-three}
use Rattle.chars.proofs.text.sign_width.Goals as goal

pub bounds-s-at-then-has_form_of_three : goal.bounds-s-at-then-has_form_of_three
bounds-s-at-then-has_form_of_three c = let m = form c.args.s.now c.args.at (sym c.has_form_of_three.ensures ∙ c.if-has_form_of_three.true) in omega (arith, m.room)

pub block_of-requires-clause-first : goal.block_of-requires-clause-first
block_of-requires-clause-first c = (form c.args.s.now c.args.at (sym c.has_form_of_three.ensures ∙ c.if-has_form_of_three.true)).first.0

pub block_of-requires-clause-second : goal.block_of-requires-clause-second
block_of-requires-clause-second c = (form c.args.s.now c.args.at (sym c.has_form_of_three.ensures ∙ c.if-has_form_of_three.true)).second.0

pub bounds-s-at-then-has_form_of_three-2 : goal.bounds-s-at-then-has_form_of_three-2
bounds-s-at-then-has_form_of_three-2 c = (form c.args.s.now c.args.at (sym c.has_form_of_three.ensures ∙ c.if-has_form_of_three.true)).room

pub is_sign_of_three-requires-clause-block : goal.is_sign_of_three-requires-clause-block
is_sign_of_three-requires-clause-block c = block-within c.args.s.now c.args.at (sym c.has_form_of_three.ensures ∙ c.if-has_form_of_three.true) _ c.block_of.ensures

pub returns-then-is_sign_of_three : goal.returns-then-is_sign_of_three
returns-then-is_sign_of_three c =
    sign-three c.args.s.now c.args.at (sym c.has_form_of_three.ensures ∙ c.if-has_form_of_three.true) _ c.block_of.ensures (sym c.is_sign_of_three.ensures ∙ c.if-is_sign_of_three.true)

pub returns-then-has_form_of_three : goal.returns-then-has_form_of_three
returns-then-has_form_of_three c =
    no-sign-three c.args.s.now c.args.at (sym c.has_form_of_three.ensures ∙ c.if-has_form_of_three.true) _ c.block_of.ensures (sym c.is_sign_of_three.ensures ∙ c.if-is_sign_of_three.false)
