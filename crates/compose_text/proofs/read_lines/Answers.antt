-- `compose_text::read_lines` meets its contract.
use Rattle.std.proofs.Common.{refl, sym, ◌∙◌, ltb-true, ltb-false, arith}
use Rattle.compose_text.proofs.Along.{at_first, stopped, turned, missing, whole}
use Rattle.compose_text.proofs.read_lines.Goals as goal

pub loop-at-init : goal.loop-at-init
loop-at-init c = at_first _ refl (c.nothing_yet-st.ensures _)

pub returns-in_default : goal.returns-in_default
returns-in_default c = stopped c.loop-at.invariant c.loop-at-test.true c.line_at-line.ensures c.take_line.ensures c.in_default.is

pub loop-at-preserved : goal.loop-at-preserved
loop-at-preserved c = turned c.loop-at.invariant c.loop-at-test.true c.line_at-line.ensures c.take_line.ensures c.in-Some.is

pub returns-then-has_gain : goal.returns-then-has_gain
returns-then-has_gain c = whole c.loop-at.invariant c.loop-at-test.false (ltb-true _ _ (sym c.has_gain.ensures ∙ c.if-has_gain.true))

pub returns-else-has_gain : goal.returns-else-has_gain
returns-else-has_gain c =
    let e = ltb-false _ _ (sym c.has_gain.ensures ∙ c.if-has_gain.false) in
    missing c.loop-at.invariant c.loop-at-test.false (omega arith)
