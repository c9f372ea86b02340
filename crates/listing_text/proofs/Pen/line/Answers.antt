-- `Pen::line` meets its contract: its parts one after the other.
use Rattle.std.proofs.Common.{rules, to_z-of_z, SFits, w32}
use Rattle.listing_rules.specs.Text.{line}
use Rattle.listing_text.proofs.Pens.{joined, room}
use Rattle.listing_text.proofs.Pen.line.Goals as goal

pub powers-requires : goal.powers-requires
powers-requires c = omega room

pub field-requires : goal.field-requires
field-requires c = omega room

pub by_field-requires : goal.by_field-requires
by_field-requires c = omega room

pub byte-requires : goal.byte-requires
byte-requires c = omega room

pub returns : goal.returns
unfolding line
returns c =
    let held : SFits w32 c.args.a.held = search rules in
    joined (joined (joined (joined c.line_start.ensures c.powers.ensures) (rw (to_z-of_z held) at c.field.ensures)) c.by_field.ensures)
    c.byte.ensures
