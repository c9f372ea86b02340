-- The test of the range and the range are one: a number of the format passes it exactly when it is a level.
-- Assumes nothing.
pub mod Rounded
pub mod Measured
use Rattle.std.specs.Prelude.{◌≡◌, ℕ, ◌*◌, ◌^◌, ◌≤◌, Bool, true, false, ◌&&◌, T, ℤ, pos, neg_ℤ, int_le, unsigned_abs, refl, Float}
use Rattle.std.proofs.Common.{ap, ◌∙◌, lit≤}
use Rattle.std.specs.Float.{nan, inf, fin, binary64}
use Rattle.std.specs.Float.Ieee.{fits, le, lt, eq, of_int}
use Rattle.std.specs.Float.Ieee.Scale.{finite}
use Rattle.ground.proofs.Laws.Choice.{clash}
use Rattle.ground.specs.Integers.{within}
use Rattle.ground.proofs.Laws.Integers.Parts.{neg}
use Rattle.ground.proofs.Laws.Integers.Signs.{signs, yes_within, within_yes}
use Rattle.ground.proofs.Laws.Integers.Products.{abs_in, abs_out}
use Rattle.resume_filter.specs.Scaled.{scaled, largest, Bounded, in_range}
use Rattle.resume_filter.proofs.Laws.Scaled.Measured.{Units, own_units, level_units, int_units, le_units}

-- a size at most e is a number from −e to e
size_within : (z : ℤ) (e : ℕ) → unsigned_abs z ≤ e → within (neg_ℤ (pos e)) (pos e) z ≡ true
size_within z e h =
    let i = abs_in z h in
    yes_within {least = neg_ℤ (pos e)} {most = pos e} {z = z} (record { low = omega (signs, neg (pos e)); high = omega signs })

within_size : (z : ℤ) (e : ℕ) → within (neg_ℤ (pos e)) (pos e) z ≡ true → unsigned_abs z ≤ e
within_size z e t = let w = within_yes (neg_ℤ (pos e)) (pos e) z t in abs_out z (omega (signs, neg (pos e), w.high)) (omega (signs, neg (pos e), w.low))

-- the two bounds in units
least : Units (of_int binary64 (neg_ℤ (pos largest))) (neg_ℤ (pos (largest * 2 ^ 1074)))
least = int_units (neg_ℤ (pos largest)) (lit≤ tt)

most : Units (of_int binary64 (pos largest)) (pos (largest * 2 ^ 1074))
most = int_units (pos largest) (lit≤ tt)

range_units : (x : Float) → Units x (scaled x) → in_range x ≡ within (neg_ℤ (pos (largest * 2 ^ 1074))) (pos (largest * 2 ^ 1074)) (scaled x)
unfolding in_range
range_units x u =
    ap (λ (t : Bool). t && le x (of_int binary64 (pos largest))) (le_units (of_int binary64 (neg_ℤ (pos largest))) x least u)
    ∙ ap (λ (t : Bool). int_le (neg_ℤ (pos (largest * 2 ^ 1074))) (scaled x) && t) (le_units x (of_int binary64 (pos largest)) u most)

pub in_range_lem : {x : Float} → Bounded x → in_range x ≡ true
in_range_lem {x} h = range_units x (level_units h) ∙ size_within (scaled x) (largest * 2 ^ 1074) h.most

-- what passes the test is finite
passed_finite : (x : Float) → in_range x ≡ true → T (finite x)
unfolding in_range le lt eq of_int
passed_finite nan t = absurd (clash t refl)
passed_finite (inf true) t = absurd (clash t refl)
passed_finite (inf false) t = absurd (clash t refl)
passed_finite (fin s m e) t = tt

pub range_in : (x : Float) → T (fits binary64 x) → in_range x ≡ true → Bounded x
range_in x f t =
    let p = passed_finite x t in
    let u = own_units x f p in
    record { fits = f; finite = p; most = within_size (scaled x) (largest * 2 ^ 1074) (rw (range_units x u) at t) }
