-- `Pen::signed_text` meets its contract: what `itoa` writes for a number is its text.
use Rattle.std.proofs.Common.{◌<◌, ◌^◌, arith, to_z-of_z, Fits, w64}
use Rattle.std.proofs.Math.Facts.{Fits-nat_abs}
use Rattle.std.proofs.Math.IntN.{nat_abs}
use Rattle.listing_text.proofs.Decimals.{signed_lem}
use Rattle.listing_text.proofs.Pen.signed_text.Goals as goal

pub returns : goal.returns
returns c =
    let f : Fits w64 (nat_abs c.args.x) = Fits-nat_abs tt c.ranges.x in
    let h : nat_abs c.args.x < 2 ^ 64 = omega arith in
    rw (c.as_bytes.ensures.value, c.format.ensures.text, to_z-of_z c.ranges.x, signed_lem c.args.x h) at c.word.ensures
