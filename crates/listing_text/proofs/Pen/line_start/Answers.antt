-- `Pen::line_start` meets its contract: the row's number, then two fields.
use Rattle.std.proofs.Common.{rules, to_z-of_z, SFits, w32}
use Rattle.listing_rules.specs.Text.{line_start}
use Rattle.listing_text.proofs.Pens.{joined, room}
use Rattle.listing_text.proofs.Pen.line_start.Goals as goal

pub field-requires : goal.field-requires
field-requires c = omega room

pub field-requires-2 : goal.field-requires-2
field-requires-2 c = omega room

pub returns : goal.returns
unfolding line_start
returns c =
    let state : SFits w32 c.args.a.state = search rules in
    let command : SFits w32 c.args.a.command = search rules in
    joined (joined c.decimal.ensures (rw (to_z-of_z state) at c.field.ensures)) (rw (to_z-of_z command) at c.field-2.ensures)
