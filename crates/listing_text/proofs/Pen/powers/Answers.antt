-- `Pen::powers` meets its contract: three fields one after the other.
use Rattle.std.proofs.Common.{rules, to_z-of_z, SFits, w32}
use Rattle.listing_rules.specs.Text.{powers}
use Rattle.listing_text.proofs.Pens.{joined, room}
use Rattle.listing_text.proofs.Turns.{power_shown, data_shown}
use Rattle.listing_text.proofs.Pen.powers.Goals as goal

pub field-requires-2 : goal.field-requires-2
field-requires-2 c = let w = rw (c.then_some.ensures, power_shown) at c.field.ensures in omega room

pub field-requires-3 : goal.field-requires-3
field-requires-3 c =
    let w = rw (c.then_some.ensures, power_shown) at c.field.ensures in
    let v = rw (c.then_some-2.ensures, data_shown) at c.field-2.ensures in
    omega room

pub returns : goal.returns
unfolding powers
returns c =
    let state : SFits w32 c.args.a.state = search rules in
    let dpcch : SFits w32 c.args.a.dpcch = search rules in
    let dpdch : SFits w32 c.args.a.dpdch = search rules in
    let total : SFits w32 c.args.a.total = search rules in
    joined
    (joined
    (rw (c.then_some.ensures, power_shown, to_z-of_z state, to_z-of_z dpcch) at c.field.ensures)
    (rw (c.then_some-2.ensures, data_shown, to_z-of_z state, to_z-of_z dpdch) at c.field-2.ensures))
    (rw (c.then_some-3.ensures, power_shown, to_z-of_z state, to_z-of_z total) at c.field-3.ensures)
