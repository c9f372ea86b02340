-- `row::sent_row` meets its contract: the change is the rules', and small enough for its sum.
use Rattle.std.proofs.Common.{◌≡◌}
use Rattle.std.specs.Int.{w8, w32}
use Rattle.std.proofs.lemmas.Int.{to_z-of_z}
use Rattle.ground.proofs.Laws.Integers.Fits.{same}
use Rattle.row_change.specs.Change.{change_of}
use Rattle.row_rules.specs.Rules.{sent_row}
use Rattle.row.proofs.Sending.{summed}
use Rattle.row.proofs.sent_row.Goals as goal

changed : (c : goal.After-change-change) → let a = c.args in c.change-change.result ≡ change_of a.s a.st a.here a.command a.row.pilots
changed c = simp (to_z-of_z w8 _ c.ranges.command) at c.change-change.ensures

pub sent_by-requires : goal.sent_by-requires
sent_by-requires c =
    let r = c.change-change in
    simp (same w32 r.result r.type_inv) (rw (changed c) (summed c.requires c.args.here))

pub returns : goal.returns
unfolding sent_row
returns c =
    let r = c.change-change in
    rw (changed c.before) at (simp (same w32 r.result r.type_inv, to_z-of_z w8 _ c.ranges.command) at c.sent_by.ensures)
