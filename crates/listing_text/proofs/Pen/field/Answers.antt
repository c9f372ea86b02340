-- `Pen::field` meets its contract: a space, then what stands for the number.
use Rattle.std.proofs.Common.{rules, to_z-of_z, SFits, w32}
use Rattle.listing_rules.specs.Text.{field}
use Rattle.listing_text.proofs.Pens.{joined}
use Rattle.listing_text.proofs.Pen.field.Goals as goal

pub returns-in-Some : goal.returns-in-Some
unfolding field
returns-in-Some c =
    let f : SFits w32 c.in-Some.x = search rules in
    rw c.in-Some.is (joined c.byte.ensures (rw (to_z-of_z f) at c.signed_text.ensures))
