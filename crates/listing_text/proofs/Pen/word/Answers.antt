-- `Pen::word` meets its contract: the bytes that are copied are those that are stored.
use Rattle.std.proofs.Common.{arith, refl}
use Rattle.listing_text.proofs.Pens.{part_stored}
use Rattle.listing_text.proofs.Pen.word.Goals as goal

pub returns : goal.returns
returns c =
    let p = c.args.self.now in
    record { buffer = refl; wrote = record { place = refl; bytes = rw c.copy_from_slice.ensures.after (part_stored p.out.now c.args.bytes.now p.at _ (omega arith) c.requires) } }
