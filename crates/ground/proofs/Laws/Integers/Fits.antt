-- That an integer fits a signed type, and its bits: a signed local is read as `to_z w (of_z w z)`, which is z where z
-- fits.
-- Assumes nothing.
use Rattle.std.specs.Prelude.{◌+◌, ◌-◌, ◌^◌, ◌≤◌, ◌<◌, ◌≡◌, ℤ, pos, negsuc}
use Rattle.std.proofs.Common.{ap, ◌∙◌, lt_of_lt_of_le, arith}
use borrow.Author.Rules.{sfits_of}
use Rattle.std.specs.Int.Signed.{mag}
use Rattle.std.specs.Int.{Width}
use mir.Val.{SFits, hbits, to_z, of_z}
use Rattle.std.proofs.lemmas.Int.{to_z-of_z}
use Rattle.ground.specs.Integers.{pz, nz}

-- a number that fits, read in; the least number of the type is as large as this
pub fits_in : {w : Width} {z : ℤ} → SFits w z → pz z + nz z ≤ 2 ^ hbits w
fits_in {w} {z = pos n} h = omega (arith, h.sfits)
fits_in {w} {z = negsuc n} h = omega (arith, h.sfits)

-- a number that fits, read out
pub fits_out : {w : Width} {z : ℤ} → (pz z - nz z) + (nz z - pz z) < 2 ^ hbits w → SFits w z
fits_out {w} {z = pos n} h = record { sfits = omega arith }
fits_out {w} {z = negsuc n} h = record { sfits = omega arith }

-- a call's signed result or a signed field, as it is, from the bound that comes with it: `same w32 r.result r.ok`
pub same : (w : Width) (z : ℤ) → mag z < 2 ^ hbits w → to_z w (of_z w z) ≡ z
same w z h = to_z-of_z w z (sfits_of h)

-- a number that fits a type fits a wider one, and is read from its bits there: an `i8` as an `i32`, `widened w8 w32
-- (lit≤ tt) h`
pub wider : (v w : Width) {z : ℤ} → 2 ^ hbits v ≤ 2 ^ hbits w → SFits v z → SFits w z
wider v w k h = record { sfits = lt_of_lt_of_le h.sfits k }

pub widened : (v w : Width) {z : ℤ} → 2 ^ hbits v ≤ 2 ^ hbits w → SFits v z → to_z w (of_z w (to_z v (of_z v z))) ≡ z
widened v w {z} k h = ap (λ (y : ℤ). to_z w (of_z w y)) (to_z-of_z v z h) ∙ to_z-of_z w z (wider v w k h)
