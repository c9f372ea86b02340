-- `command_algorithms::within_links` meets its contract: nothing of the number is left above the bits of its link sets, and none of 32 bits reaches 2^32.
use Rattle.std.proofs.Common.{◌<◌, lt-ltb, lt_of_lt_of_le, le_refl, refl, arith}
use Rattle.std.proofs.Math.Nat.{pow-le-pow_right}
use Rattle.command_algorithms.proofs.Votes.{none_left}
use Rattle.command_algorithms.proofs.within_links.Goals as goal

pub returns-then-links-gt31 : goal.returns-then-links-gt31
returns-then-links-gt31 c =
    let most : c.args.commands < 4294967296 = omega arith in
    rw (lt-ltb _ _ (lt_of_lt_of_le most (pow-le-pow_right {n = 2} (omega arith) c.if-links-gt31.true)))

pub returns : goal.returns
returns c = none_left _ _ c.args.links (le_refl _) (le_refl _) refl
