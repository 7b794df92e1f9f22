-- By the class of the byte that stands there.
use Rattle.token.proofs.lexer.Words.{tests, rules, refl, sym, ◌∙◌, ap, ◌≤◌, ◌<◌, length, eqb, arith, clash, beginning, noneCounted, Steps, Refuses, slashClass, upToBlank, inRun, true, false, ◌≡◌}
use Rattle.token.proofs.byte_class.Laws.{others}
use Rattle.chars.specs.paper.Quoted.{member}
use Rattle.token.specs.declared.byte_class.Class.{Class}
use Rattle.token.proofs.records.Ends.{end-measured, end-stored, end-counted}
use Rattle.token.proofs.walk.Laws.{steps-trans, at-is}
use Rattle.token.proofs.walk.Starts.{other-clear, other-left, refuses-other}
use Rattle.token.proofs.walk.walk.Goals.{then-not-x+in-Ok, then-not-x+in-Err, else-not-x, in-SLASH+in_ok-y-in-SLASH, in-QUOTE+in_ok-y-in-QUOTE, in-WIDE+in_ok-y-in-WIDE, in-TICK+in_ok-y-in-TICK, in-BACKTICK+in_ok-y-in-BACKTICK, in-CR+in_ok-y-in-CR, in-DIGIT+in_ok-y-in-DIGIT, in-SIGN+in_ok-y-in-SIGN, in-START+in_ok-y-in-START, in-LF, in-BLANK, in_default}
use Rattle.token.proofs.walk.walk.Goals as goal

-- the walk to where nothing begins a token, and its refusal
stands : (c : goal.After-at) → Steps c.args.s.now (beginning c.args.s.now) noneCounted c.args.out.now c.if-not-x.x c.if-not-x.counts c.if-not-x.out
stands c = elim c.if-not-x.branch [
  | then-not-x+in-Ok w ↦ rw (w.x-is, w.by_field-x.ensures, w.out-is, w.counts-is) (steps-trans c.loop-x.invariant w.in-Ok.ensures.on)
  | then-not-x+in-Err w ↦ rw (w.x-is, w.by_field-x-in-Err.ensures, w.out-is, w.counts-is) (steps-trans c.loop-x.invariant w.in-Err.ensures.on_to_wide)
  | else-not-x w ↦ rw (w.x-is, w.out-is, w.counts-is) c.loop-x.invariant
]

-- there the class is that of the byte
there : (c : goal.After-at) → member others c.if-not-x.kind.number ≡ false → c.if-not-x.x.class.number ≡ c.if-not-x.kind.number
there c k = elim c.if-not-x.branch [
  | then-not-x+in-Ok w ↦ rw (w.x-is, w.kind-is) refl
  | then-not-x+in-Err w ↦ clash (sym k ∙ ap (λ (z : Class). member others z.number) w.kind-is)
  | else-not-x w ↦ rw (w.x-is, w.kind-is) refl
]

refused : (c : goal.After-at) → Refuses c.args.s.now c.if-not-x.x c.if-not-x.counts c.if-not-x.out c.at.result
refused c =
    let k : member others c.if-not-x.kind.number ≡ false = search (tests, rules) in
    let e = there c k in
    let g = (stands c).good in
    rw c.at.ensures (refuses-other g c.if-x-s.true (other-left g (ap upToBlank e ∙ sym c.if-is_sign.ensures) (ap (member others) e ∙ k)) _ _)

pub returns-in_default-2 : goal.returns-in_default-2
returns-in_default-2 c =
    let r = (stands c).reaches in
    let f = refused c in
    record {
      needs = tt;
      refused = sym r.measured ∙ f.measured;
      out_after = sym f.stored ∙ r.stored;
      counts_after = sym f.counted ∙ r.counted;
    }

pub returns-in_default-3 : goal.returns-in_default-3
returns-in_default-3 c =
    let i : Steps c.args.s.now (beginning c.args.s.now) noneCounted c.args.out.now c.if-not-x.x c.if-not-x.counts c.if-not-x.out =
    elim c.if-not-x.branch [
      | then-not-x+in-Ok w ↦ rw (w.x-is, w.by_field-x.ensures, w.out-is, w.counts-is) (steps-trans c.loop-x.invariant w.in-Ok.ensures.on)
      | then-not-x+in-Err w ↦ rw (w.x-is, w.by_field-x-in-Err.ensures, w.out-is, w.counts-is) (steps-trans c.loop-x.invariant w.in-Err.ensures.on_to_wide)
      | else-not-x w ↦ rw (w.x-is, w.out-is, w.counts-is) c.loop-x.invariant
    ] in
    let g = i.good.within in
    let e : c.if-not-x.x.at ≡ length c.args.s.now = omega (arith, g, c.if-x-s.false) in
    record {
      needs = rw c.finish.ensures.value (end-measured i e);
      refused = tt;
      out_after = end-stored i e (rw e at c.finish.ensures.out_after);
      counts_after = end-counted i e;
    }

-- a sign with which no comment begins
pub ascii_run_step-requires-clause-no_comment : goal.ascii_run_step-requires-clause-no_comment
ascii_run_step-requires-clause-no_comment c =
    let i : Steps c.args.s.now (beginning c.args.s.now) noneCounted c.args.out.now c.if-not-x.x c.if-not-x.counts c.if-not-x.out =
    elim c.if-not-x.branch [
      | then-not-x+in-Ok w ↦ rw (w.x-is, w.by_field-x.ensures, w.out-is, w.counts-is) (steps-trans c.loop-x.invariant w.in-Ok.ensures.on)
      | then-not-x+in-Err w ↦ rw (w.x-is, w.by_field-x-in-Err.ensures, w.out-is, w.counts-is) (steps-trans c.loop-x.invariant w.in-Err.ensures.on_to_wide)
      | else-not-x w ↦ rw (w.x-is, w.out-is, w.counts-is) c.loop-x.invariant
    ] in
    let n : eqb c.if-not-x.kind.number slashClass ≡ false = search (tests, rules) in
    let r : inRun c.if-not-x.kind.number ≡ true = search (tests, rules) in
    let e : c.if-not-x.x.class.number ≡ c.if-not-x.kind.number =
    elim c.if-not-x.branch [
      | then-not-x+in-Ok w ↦ rw (w.x-is, w.kind-is) refl
      | then-not-x+in-Err w ↦ clash (sym (ap (λ (z : Class). inRun z.number) w.kind-is) ∙ r)
      | else-not-x w ↦ rw (w.x-is, w.kind-is) refl
    ] in
    other-clear i.good (ap (λ z. eqb z slashClass) e ∙ n)

-- one step past what stands there
step : (c : goal.After-by_field-x-in-loop-x) → Steps c.args.s.now (beginning c.args.s.now) noneCounted c.args.out.now c.if-not-x.x c.if-not-x.counts c.if-not-x.out → Steps c.args.s.now c.if-not-x.x c.if-not-x.counts c.if-not-x.out c.match-kind.y c.match-kind.counts c.match-kind.out
step c i = elim c.match-kind.branch [
  | in-SLASH+in_ok-y-in-SLASH w ↦ rw (w.y-is, w.out-is, w.counts-is) w.in_ok-y-in-SLASH.ensures.on
  | in-QUOTE+in_ok-y-in-QUOTE w ↦ rw (w.y-is, w.out-is, w.counts-is) w.in_ok-y-in-QUOTE.ensures.on
  | in-WIDE+in_ok-y-in-WIDE w ↦ rw (w.y-is, w.out-is, w.counts-is) w.in_ok-y-in-WIDE.ensures.on
  | in-TICK+in_ok-y-in-TICK w ↦ rw (w.y-is, w.out-is, w.counts-is) w.in_ok-y-in-TICK.ensures.on
  | in-BACKTICK+in_ok-y-in-BACKTICK w ↦ rw (w.y-is, w.out-is, w.counts-is) w.in_ok-y-in-BACKTICK.ensures.on
  | in-CR+in_ok-y-in-CR w ↦ rw (w.y-is, w.out-is, w.counts-is) w.in_ok-y-in-CR.ensures.on
  | in-DIGIT+in_ok-y-in-DIGIT w ↦ rw (w.y-is, w.out-is, w.counts-is) w.in_ok-y-in-DIGIT.ensures.on
  | in-SIGN+in_ok-y-in-SIGN w ↦ rw (w.y-is, w.out-is, w.counts-is) w.in_ok-y-in-SIGN.ensures.on
  | in-START+in_ok-y-in-START w ↦ rw (w.y-is, w.out-is, w.counts-is) w.in_ok-y-in-START.ensures.on
  | in-LF w ↦ rw (w.y-is, w.out-is, w.counts-is) w.line_step-y.ensures.on
  | in-BLANK w ↦ rw (w.y-is, w.out-is, w.counts-is) (w.blank_step-y.ensures.on _ _ i.counted)
  | in_default w ↦ rw (w.y-is, w.out-is, w.counts-is) (w.sign_step-y.ensures.on _ i.counted)
]

-- where it came to before
stands-there : (c : goal.After-by_field-x-in-loop-x) → Steps c.args.s.now (beginning c.args.s.now) noneCounted c.args.out.now c.if-not-x.x c.if-not-x.counts c.if-not-x.out
stands-there c = elim c.if-not-x.branch [
  | then-not-x+in-Ok w ↦ rw (w.x-is, w.by_field-x.ensures, w.out-is, w.counts-is) (steps-trans c.loop-x.invariant w.in-Ok.ensures.on)
  | then-not-x+in-Err w ↦ rw (w.x-is, w.by_field-x-in-Err.ensures, w.out-is, w.counts-is) (steps-trans c.loop-x.invariant w.in-Err.ensures.on_to_wide)
  | else-not-x w ↦ rw (w.x-is, w.out-is, w.counts-is) c.loop-x.invariant
]

pub loop-x-preserved : goal.loop-x-preserved
loop-x-preserved c =
    let i = stands-there c in
    rw c.by_field-x-in-loop-x.ensures (steps-trans i (step c i))

-- the walk over words goes on, or stays
not-back : (c : goal.After-by_field-x-in-loop-x) → c.loop-x.x.at ≤ c.if-not-x.x.at
not-back c = elim c.if-not-x.branch [
  | then-not-x+in-Ok w ↦ rw (w.x-is, w.by_field-x.ensures) w.in-Ok.ensures.on.reaches.on
  | then-not-x+in-Err w ↦ rw (w.x-is, w.by_field-x-in-Err.ensures) w.in-Err.ensures.on_to_wide.reaches.on
  | else-not-x w ↦ rw w.x-is (omega arith)
]

-- and each step goes on
further : (c : goal.After-by_field-x-in-loop-x) → c.if-not-x.x.at < c.match-kind.y.at
further c = elim c.match-kind.branch [
  | in-SLASH+in_ok-y-in-SLASH w ↦ rw w.y-is w.in_ok-y-in-SLASH.ensures.further
  | in-QUOTE+in_ok-y-in-QUOTE w ↦ rw w.y-is w.in_ok-y-in-QUOTE.ensures.further
  | in-WIDE+in_ok-y-in-WIDE w ↦ rw w.y-is w.in_ok-y-in-WIDE.ensures.further
  | in-TICK+in_ok-y-in-TICK w ↦ rw w.y-is w.in_ok-y-in-TICK.ensures.further
  | in-BACKTICK+in_ok-y-in-BACKTICK w ↦ rw w.y-is w.in_ok-y-in-BACKTICK.ensures.further
  | in-CR+in_ok-y-in-CR w ↦ rw w.y-is w.in_ok-y-in-CR.ensures.further
  | in-DIGIT+in_ok-y-in-DIGIT w ↦ rw w.y-is w.in_ok-y-in-DIGIT.ensures.further
  | in-SIGN+in_ok-y-in-SIGN w ↦ rw w.y-is w.in_ok-y-in-SIGN.ensures.further
  | in-START+in_ok-y-in-START w ↦ rw w.y-is w.in_ok-y-in-START.ensures.further
  | in-LF w ↦ rw w.y-is (omega (arith, w.line_step-y.ensures.further))
  | in-BLANK w ↦ rw w.y-is w.blank_step-y.ensures.further
  | in_default w ↦ rw w.y-is (omega (arith, w.sign_step-y.ensures.further))
]

pub loop-x-smaller : goal.loop-x-smaller
loop-x-smaller c =
    let i = stands-there c in
    let k = not-back c in
    let f = further c in
    let e = at-is c.by_field-x-in-loop-x.ensures in
    let w = (step c i).good.within in
    omega (arith, k, f, e, w)
