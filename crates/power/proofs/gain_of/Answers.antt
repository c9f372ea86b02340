-- `power::gain_of` meets its contract: each part is what its call gives.
-- Assumes nothing.
use Rattle.std.specs.Int.{w8, w32}
use Rattle.std.proofs.lemmas.Int.{to_z-of_z}
use Rattle.ground.proofs.Laws.Integers.Fits.{same}
use Rattle.power.specs.Gain.{ceiling_of, gain_of}
use Rattle.power.proofs.gain_of.Goals as goal

pub returns : goal.returns
unfolding ceiling_of gain_of
returns c =
    let b = c.bracket-bracket in
    let m = c.ceiling in
    let o = c.offset in
    let e = simp (same w32 b.result b.type_inv, to_z-of_z w8 _ c.ranges.maximum) at m.ensures in
    simp (same w32 b.result b.type_inv, same w32 m.result m.type_inv, same w32 o.result o.type_inv) (simp (e, b.ensures, o.ensures))
