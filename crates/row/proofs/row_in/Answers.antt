-- `row::row_in` meets its contract: its command, then a gap row or a sent row by that command.
use Rattle.std.proofs.Common.{◌∙◌}
use Rattle.std.specs.Int.{w8, w32}
use Rattle.std.proofs.lemmas.Int.{to_z-of_z}
use Rattle.ground.proofs.Laws.Choice.{if_true, if_false}
use Rattle.ground.proofs.Laws.Integers.Fits.{same}
use Rattle.command.proofs.Laws.Row.{command_in}
use Rattle.row_rules.specs.Rules.{row_in, row_with}
use Rattle.row.proofs.Sizes.{held_fits}
use Rattle.row.proofs.row_in.Goals as goal

pub returns-then-here : goal.returns-then-here
unfolding row_in row_with
returns-then-here c =
    let m = c.command-c in
    let i = same w8 m.result m.type_inv in
    let n = rw m.ensures at (simp i at (rw c.resting.ensures at c.next-n.ensures)) in
    let a = rw m.ensures at (simp (i, to_z-of_z w32 _ (held_fits c.requires.fine)) at c.gap_answer.ensures) in
    rw (n, a) (if_true _ _ c.if-here.true)

pub sent_row-requires : goal.sent_row-requires
sent_row-requires c =
    let m = c.command-c in
    let h = c.requires in
    simp (same w8 m.result m.type_inv)
    (record { fine = h.fine; command_in = rw m.ensures (command_in _ _ _ _ _ _ _); pilots_in = h.pilots_in c.if-here.false })

pub returns : goal.returns
unfolding row_in row_with
returns c =
    let m = c.command-c in
    (rw m.ensures at (simp (same w8 m.result m.type_inv) at c.sent_row.ensures)) ∙ if_false _ _ c.if-here.false
