-- That a product of bytes and a difference of levels fit 32 bits together, whatever the bytes are.
-- Assumes nothing.
use Rattle.std.specs.Prelude.{ℕ, ◌*◌, ◌≤◌, ℤ, pos, nat_abs, ◌+ℤ◌, ◌*ℤ◌}
use Rattle.std.proofs.Common.{mul-le-mul, Fits, FitsSigned, w8, w32}
use Rattle.std.specs.Int.Signed.{nat_abs-le}
use Rattle.ground.proofs.Laws.Integers.Parts.{sum}
use Rattle.ground.proofs.Laws.Integers.Signs.{signs}
use Rattle.ground.proofs.Laws.Integers.Products.{abs_in, abs_mul}

-- a signed byte times a byte, and a difference of levels
pub step_fits : {z : ℤ} {n : ℕ} (a : ℤ) → FitsSigned w8 z → Fits w8 n → nat_abs a ≤ 2046 → FitsSigned w32 (z *ℤ pos n +ℤ a)
step_fits {z} {n} a h f k =
    let g = f.fits in
    let m : nat_abs (z *ℤ pos n) ≤ 128 * 255 = rw (abs_mul z (pos n)) (mul-le-mul {m₂ = 255} (nat_abs-le z h.sfits) (omega signs)) in
    let i = abs_in (z *ℤ pos n) m in
    let j = abs_in a k in
    omega (signs, sum (z *ℤ pos n) a)
