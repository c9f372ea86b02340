-- What `omega` is handed for integers: `signs`, with one entry for each operation. And the parts of the lesser and the
-- greater of two.
-- Assumes nothing.
use Rattle.std.specs.Prelude.{◌+◌, min, max, ◌≡◌, true, false, ℤ}
use Rattle.std.proofs.Common.{sym, arith}
use Rattle.std.specs.Int.Signed.{le_z}
use Rattle.ground.proofs.Laws.Choice.{either, both, if_true, if_false}
use Rattle.ground.specs.Integers.{lesser, greater, Within, within, pz, nz}
use Rattle.ground.proofs.Laws.Integers.Order.{le_in, lt_in, eq_in, le_out, lt_out, eq_out, lt_z_true, lt_z_false}
use Rattle.ground.proofs.Laws.Integers.Order.{le_z_true, le_z_false, lt_lt_z, le_le_z, le_lt_z, lt_le_z}
use Rattle.ground.proofs.Laws.Integers.Fits.{fits_in, fits_out}

-- the rules by which `omega` reads an order, an equation, a test and a fit, in what is known and in the goal
pub ruleset signs = (
  arith,
  le_in,
  lt_in,
  eq_in,
  le_out,
  lt_out,
  eq_out,
  lt_z_true,
  lt_z_false,
  le_z_true,
  le_z_false,
  lt_lt_z,
  le_le_z,
  le_lt_z,
  lt_le_z,
  fits_in,
  fits_out,
)

-- the lesser of two
pub lesser_of : (a b : ℤ) → pz (lesser a b) + (nz a + nz b) ≡ nz (lesser a b) + min (pz a + nz b) (pz b + nz a)
unfolding lesser
lesser_of a b =
    either (λ (z : ℤ). pz z + (nz a + nz b) ≡ nz z + min (pz a + nz b) (pz b + nz a)) (le_z a b)
    (λ e. omega (arith, le_z_true a b e))
    (λ e. omega (arith, le_z_false a b e))

-- the greater of two
pub greater_of : (a b : ℤ) → pz (greater a b) + (nz a + nz b) ≡ nz (greater a b) + max (pz a + nz b) (pz b + nz a)
unfolding greater
greater_of a b =
    either (λ (z : ℤ). pz z + (nz a + nz b) ≡ nz z + max (pz a + nz b) (pz b + nz a)) (le_z a b)
    (λ e. omega (arith, le_z_true a b e))
    (λ e. omega (arith, le_z_false a b e))

-- a range that was tested
pub within_yes : (least most z : ℤ) → within least most z ≡ true → Within least most z
within_yes least most z e = let h = both (le_z least z) (le_z z most) e in omega (signs, h.0, h.1)

-- a range that is known passes its test
pub yes_within : {least most z : ℤ} → Within least most z → within least most z ≡ true
yes_within {least} {most} {z} h = simp (le_le_z least z (le_in h.low), le_le_z z most (le_in h.high))

-- the greater of two is one of them
pub greater_either : (P : ℤ → Type 0) (a b : ℤ) → P a → P b → P (greater a b)
unfolding greater
greater_either P a b p q = either P (le_z a b) (λ e. q) (λ e. p)

-- the lesser of two, by their order
pub lesser_first : (a b : ℤ) → le_z a b ≡ true → lesser a b ≡ a
unfolding lesser
lesser_first a b e = sym (if_true _ _ e)

pub lesser_second : (a b : ℤ) → le_z a b ≡ false → lesser a b ≡ b
unfolding lesser
lesser_second a b e = sym (if_false _ _ e)
