-- `Pen::decimal` meets its contract: what `itoa` writes for a number is its text.
use Rattle.std.proofs.Common.{◌<◌, ◌^◌, arith}
use Rattle.listing_text.proofs.Decimals.{decimal_lem}
use Rattle.listing_text.proofs.Pen.decimal.Goals as goal

pub returns : goal.returns
returns c =
    let f : c.args.n < 2 ^ 64 = omega arith in
    rw (c.as_bytes.ensures.value, c.format.ensures.text, decimal_lem c.args.n f) at c.word.ensures
