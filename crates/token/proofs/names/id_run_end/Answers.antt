-- A step passes an id character of ASCII or one past it; an underscore, and whatever else stands there, ends the run.
use Rattle.token.proofs.lexer.Words.{◌∙◌, eqb, arith, not-true, not-false, wideClass, inWord}
use Rattle.token.proofs.names.Wide.{told, ids-inside, ids-wide, ids-on, ids-other, ids-in, ids-under, ids-next}
use Rattle.token.proofs.names.id_run_end.Goals as goal

pub look-here-requires : goal.look-here-requires
look-here-requires c = ids-inside c.loop-class.invariant (told (λ z. eqb z wideClass) c.at-class.ensures c.eq.ensures c.if-eq.true)

pub returns-then-not-here : goal.returns-then-not-here
returns-then-not-here c = ids-wide c.loop-class.invariant (told (λ z. eqb z wideClass) c.at-class.ensures c.eq.ensures c.if-eq.true) c.look-here.result c.look-here.ensures (not-true _ c.if-not-here.true)

pub overflow_add-i : goal.overflow_add-i
overflow_add-i c =
    let n = ids-on c.loop-class.invariant (told (λ z. eqb z wideClass) c.at-class.ensures c.eq.ensures c.if-eq.true) c.look-here.result c.look-here.ensures (not-false _ c.if-not-here.false) in
    omega (arith, n.1.within)

pub letters_end-i-requires : goal.letters_end-i-requires
letters_end-i-requires c =
    (ids-on c.loop-class.invariant (told (λ z. eqb z wideClass) c.at-class.ensures c.eq.ensures c.if-eq.true) c.look-here.result c.look-here.ensures (not-false _ c.if-not-here.false)).1.within

pub loop-class-smaller-then-eq : goal.loop-class-smaller-then-eq
loop-class-smaller-then-eq c =
    let n = ids-on c.loop-class.invariant (told (λ z. eqb z wideClass) c.at-class.ensures c.eq.ensures c.if-eq.true) c.look-here.result c.look-here.ensures (not-false _ c.if-not-here.false) in
    let l = c.letters_end-i.ensures in
    omega (arith, n.0, l.on, l.within)

pub loop-class-preserved-then-eq : goal.loop-class-preserved-then-eq
loop-class-preserved-then-eq c =
    let n = ids-on c.loop-class.invariant (told (λ z. eqb z wideClass) c.at-class.ensures c.eq.ensures c.if-eq.true) c.look-here.result c.look-here.ensures (not-false _ c.if-not-here.false) in
    let l = c.letters_end-i.ensures in
    record { within = l.within; run = l.ids ∙ n.1.run }

pub bounds-s-i : goal.bounds-s-i
bounds-s-i c = ids-in c.loop-class.invariant (told (λ z. eqb z wideClass) c.at-class.ensures c.eq.ensures c.if-eq.false) (told inWord c.at-class.ensures c.in_word.ensures c.if-in_word.true)

pub returns-then-s-i-eq95 : goal.returns-then-s-i-eq95
returns-then-s-i-eq95 c = ids-under c.loop-class.invariant (told (λ z. eqb z wideClass) c.at-class.ensures c.eq.ensures c.if-eq.false) (told inWord c.at-class.ensures c.in_word.ensures c.if-in_word.true) c.if-s-i-eq95.true

pub loop-class-smaller : goal.loop-class-smaller
loop-class-smaller c = let h = ids-in c.loop-class.invariant (told (λ z. eqb z wideClass) c.at-class.ensures c.eq.ensures c.if-eq.false) (told inWord c.at-class.ensures c.in_word.ensures c.if-in_word.true) in omega arith

pub loop-class-preserved : goal.loop-class-preserved
loop-class-preserved c = ids-next c.loop-class.invariant (told (λ z. eqb z wideClass) c.at-class.ensures c.eq.ensures c.if-eq.false) (told inWord c.at-class.ensures c.in_word.ensures c.if-in_word.true) c.if-s-i-eq95.false

pub returns-else-in_word : goal.returns-else-in_word
returns-else-in_word c = ids-other c.loop-class.invariant (told (λ z. eqb z wideClass) c.at-class.ensures c.eq.ensures c.if-eq.false) (told inWord c.at-class.ensures c.in_word.ensures c.if-in_word.false)
