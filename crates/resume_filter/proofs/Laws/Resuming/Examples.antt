-- The page's own case, and both sides of each edge of the rounding, computed.
-- Assumes nothing.
use Rattle.std.specs.Prelude.{◌≡◌, true, false, pos, negsuc, refl}
use Rattle.std.specs.Float.{nan, inf, fin}
use Rattle.std.specs.Float.Ieee.{le, lt, eq, mul, sub, of_int}
use Rattle.resume_filter.specs.declared.Filter.{Filter}
use Rattle.resume_filter.specs.Scaled.{scaled, in_range}
use Rattle.resume_filter.specs.Update.{next, share_of, update_bracket, empty_of, updated_of}
use Rattle.resume_filter.specs.Resuming.{half_up, away, nearest_of, resume_of, whole_units_of}

-- 0.49999999999999994 is the last number below a half, and adding a
-- half to it would give 1; −0.5 is a half; −0.4 is less than one
halves : (nearest_of (fin false 9007199254740991 (negsuc 53)) ≡ pos 0) × (nearest_of (fin false 1 (negsuc 0)) ≡ pos 1) ×
    (nearest_of (fin true 1 (negsuc 0)) ≡ negsuc 0) × (nearest_of (fin true 3602879701896397 (negsuc 52)) ≡ pos 0)
unfolding nearest_of in_range le lt eq of_int scaled away half_up
halves = (refl, refl, refl, refl)

-- 1.5 gives 2 and 2.5 gives 3, where to the even number both would give 2
away_from_zero : (nearest_of (fin false 3 (negsuc 0)) ≡ pos 2) × (nearest_of (fin false 5 (negsuc 0)) ≡ pos 3) ×
    (nearest_of (fin true 5 (negsuc 0)) ≡ negsuc 2)
unfolding nearest_of in_range le lt eq of_int scaled away half_up
away_from_zero = (refl, refl, refl)

-- 1,984 is in the range; the next number above it, a NaN and the infinities are not
ends : (nearest_of (fin false 31 (pos 6)) ≡ pos 1984) × (nearest_of (fin false 8725724278030337 (negsuc 41)) ≡ pos 0) ×
    (nearest_of nan ≡ pos 0) × (nearest_of (inf false) ≡ pos 0) × (nearest_of (inf true) ≡ pos 0)
unfolding nearest_of in_range le lt eq of_int scaled away half_up
ends = (refl, refl, refl, refl, refl)

-- −0 is in the range, and is 0
minus_zero : (in_range (fin true 0 (pos 0)) ≡ true) × (nearest_of (fin true 0 (pos 0)) ≡ pos 0)
unfolding nearest_of in_range le lt eq of_int scaled away half_up
minus_zero = (refl, refl)

-- "ITP 1, step 1 dB, nothing limited, ... commands +1 in rows 0 and 1:
-- filter −62, then −120.125, resume −120": −961/8 is −120.125.
-- Under ITP 0 the same gap would give the step
abbrev pub once : Filter
once = updated_of empty_of (update_bracket (pos 1) 64 false false)

abbrev pub twice : Filter
twice = updated_of once (update_bracket (pos 1) 64 false false)

pub starred : (once.level ≡ fin true 31 (pos 1))
    × (twice.level ≡ fin true 961 (negsuc 2))
    × (whole_units_of (resume_of 1 64 (pos 1) twice) ≡ negsuc 119)
    × (whole_units_of (resume_of 0 64 (pos 1) twice) ≡ pos 64)
unfolding whole_units_of resume_of nearest_of in_range le lt eq of_int scaled away half_up empty_of updated_of next update_bracket
    share_of mul sub
starred = (refl, refl, refl, refl)
