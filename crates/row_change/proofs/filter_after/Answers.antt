-- `row_change::filter_after` meets its contract: each way out is a law of the filter's rule.
use Rattle.std.proofs.Common.{sym, ◌∙◌}
use Rattle.std.specs.Int.{w8, w32}
use Rattle.std.proofs.lemmas.Int.{to_z-of_z}
use Rattle.ground.proofs.Laws.Integers.Fits.{same}
use Rattle.row_change.proofs.Laws.After.{filter_kept, filter_returned, filter_updated}
use Rattle.row_change.proofs.filter_after.Goals as goal

pub returns-then-here : goal.returns-then-here
returns-then-here c =
    c.empty.ensures ∙ sym (filter_returned _ _ _ _ _ (sym c.updates.ensures ∙ c.if-updates.true) c.if-here.true)

pub returns-then-updates : goal.returns-then-updates
returns-then-updates c =
    let a = c.args in
    let b = c.bracket-b in
    let e = simp (to_z-of_z w8 _ c.ranges.command, c.step_units-step.ensures) at b.ensures in
    (simp e at (simp (same w32 b.result b.type_inv) at c.update.ensures))
    ∙ sym (filter_updated a.s a.st a.here a.command a.limited (sym c.updates.ensures ∙ c.if-updates.true) c.if-here.false)

pub returns : goal.returns
returns c = sym (filter_kept _ _ _ _ _ (sym c.updates.ensures ∙ c.if-updates.false))
