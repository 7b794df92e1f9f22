-- By the character's width.
use Rattle.std.proofs.Common.{◌≡◌, ◌+◌, ◌*◌, ◌/◌, ◌%◌, get_or, refl, ap, ◌∙◌, sym, arith}
use Rattle.chars.specs.code.Utf8.{decoded}
use Rattle.chars.proofs.text.Looks.{two, three, four-within, four-look, alone, look-alone}
use Rattle.chars.proofs.text.look.Goals as goal

pub overflow_sub-s : goal.overflow_sub-s
overflow_sub-s c = let t = two c.args.s.now c.args.at c.requires (sym c.is_two.ensures ∙ c.if-is_two.true) in omega (arith, t.low)

pub bounds-s-at-then-is_two : goal.bounds-s-at-then-is_two
bounds-s-at-then-is_two c = (two c.args.s.now c.args.at c.requires (sym c.is_two.ensures ∙ c.if-is_two.true)).room

pub returns-then-is_two : goal.returns-then-is_two
returns-then-is_two c = c.told.ensures ∙ (two c.args.s.now c.args.at c.requires (sym c.is_two.ensures ∙ c.if-is_two.true)).look _ refl

pub bounds-s-at-then-is_three-2 : goal.bounds-s-at-then-is_three-2
bounds-s-at-then-is_three-2 c = let t = three c.args.s.now c.args.at c.requires (sym c.is_three.ensures ∙ c.if-is_three.true) in omega (arith, t.room)

pub block_of-requires-clause-first : goal.block_of-requires-clause-first
block_of-requires-clause-first c = (three c.args.s.now c.args.at c.requires (sym c.is_three.ensures ∙ c.if-is_three.true)).first

pub block_of-requires-clause-second : goal.block_of-requires-clause-second
block_of-requires-clause-second c = (three c.args.s.now c.args.at c.requires (sym c.is_three.ensures ∙ c.if-is_three.true)).next.low

pub bounds-s-at-then-is_three-3 : goal.bounds-s-at-then-is_three-3
bounds-s-at-then-is_three-3 c = (three c.args.s.now c.args.at c.requires (sym c.is_three.ensures ∙ c.if-is_three.true)).room

pub told-requires-then-is_three-clause-block : goal.told-requires-then-is_three-clause-block
told-requires-then-is_three-clause-block c = let t = three c.args.s.now c.args.at c.requires (sym c.is_three.ensures ∙ c.if-is_three.true) in omega (arith, t.high, t.next.high, c.block_of.ensures)

pub returns-then-is_three : goal.returns-then-is_three
returns-then-is_three c = c.told-then-is_three.ensures ∙ (three c.args.s.now c.args.at c.requires (sym c.is_three.ensures ∙ c.if-is_three.true)).look _ c.block_of.ensures

pub code_at-requires-clause-within : goal.code_at-requires-clause-within
code_at-requires-clause-within c = four-within c.args.s.now c.args.at c.requires (sym c.is_four.ensures ∙ c.if-is_four.true)

pub returns-then-is_four : goal.returns-then-is_four
returns-then-is_four c = four-look c.args.s.now c.args.at _ c.requires (sym c.is_four.ensures ∙ c.if-is_four.true) c.code_at.ensures

pub returns : goal.returns
returns c =
    let s = c.args.s.now in
    let i = c.args.at in
    let a = get_or s i 0 in
    let e : 64 * (a / 64) + a % 64 ≡ a = omega arith in
    c.told-2.ensures ∙ ap (λ x. decoded x 1) e
    ∙ look-alone s i c.requires (alone s i (sym c.is_two.ensures ∙ c.if-is_two.false) (sym c.is_three.ensures ∙ c.if-is_three.false) (sym c.is_four.ensures ∙ c.if-is_four.false))
