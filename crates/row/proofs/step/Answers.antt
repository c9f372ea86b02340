-- `row::step` meets its contract: what is refused, and else the row in its slot under the job's gain.
use Rattle.std.proofs.Common.{◌<◌, sym, ◌∙◌, subst, arith}
use borrow.Author.Tests.{le-leb}
use Rattle.std.proofs.lemmas.Bool.{lt-leb}
use Rattle.constants.specs.Sizes.{rows_most}
use Rattle.ground.proofs.Laws.Choice.{if_true, if_false}
use Rattle.row_rules.specs.Rules.{step_of}
use Rattle.row_rules.specs.Says.{StepSays}
use Rattle.row_rules.proofs.Laws.Theorems.Said.{told_by_lem, step_told}
use Rattle.row.proofs.Passed.{asked, passed, gain_ranged}
use Rattle.row.proofs.step.Goals as goal

pub returns-then-st-ge-ROWS_MOST : goal.returns-then-st-ge-ROWS_MOST
unfolding step_of
returns-then-st-ge-ROWS_MOST c =
    let e = c.refused_at.ensures in
    let late = c.if-st-ge-ROWS_MOST.true in
    told_by_lem _ _ _ _ _ (e ∙ if_true _ _ (le-leb _ _ late)) (subst (StepSays _ _ _ _ _) (sym e) (StepSays.seven late))

pub row_walked-requires : goal.row_walked-requires
row_walked-requires c =
    let e = c.gain_for-g.ensures in
    let h = passed e c.admitted.ensures c.if-admitted.true in
    rw e (record { settings = h.settings; gain = gain_ranged h; state = h.state; room = omega arith })

pub returns-then-admitted : goal.returns-then-admitted
unfolding step_of
returns-then-admitted c =
    let e = c.gain_for-g.ensures in
    let early : c.args.st.row < rows_most = omega arith in
    step_told _ _ _ _ _ c.admitted.ensures.fits
    ((rw e at (rw c.slot_at-slot.ensures at c.row_walked.ensures))
    ∙ if_true _ _ (sym (asked e c.admitted.ensures) ∙ c.if-admitted.true)
    ∙ if_false _ _ (lt-leb _ _ early))

pub returns : goal.returns
unfolding step_of
returns c =
    let e = c.gain_for-g.ensures in
    let early : c.args.st.row < rows_most = omega arith in
    step_told _ _ _ _ _ c.admitted.ensures.fits
    (c.refused_at-2.ensures
    ∙ if_false _ _ (sym (asked e c.admitted.ensures) ∙ c.if-admitted.false)
    ∙ if_false _ _ (lt-leb _ _ early))
