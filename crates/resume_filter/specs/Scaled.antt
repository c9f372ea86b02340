-- A binary64 number as a whole number, and the range of a filter's
-- level. `fin s m e` is the number m·2^e, negative where s is true.
-- RULES: filter
-- Definitions, to be believed.
use Rattle.std.specs.Prelude.{◌≡◌, ℕ, ◌*◌, ◌/◌, ◌^◌, ◌≤◌, Bool, true, false, ◌&&◌, T, ℤ, pos, neg_ℤ, unsigned_abs, Float}
use Rattle.std.specs.Float.{nan, inf, fin, binary64}
use Rattle.std.specs.Float.Ieee.{up, down, fits, le, of_int}
use Rattle.std.specs.Float.Ieee.Scale.{finite}

abbrev pub with_sign : Bool → ℕ → ℤ
with_sign true n = neg_ℤ (pos n)
with_sign false n = pos n

-- "any finite binary64 number times 2^1074" is whole: for what the format holds the
-- division leaves nothing over. A NaN and the infinities are no number, and have 0 here
unfoldable pub scaled : Float → ℤ
scaled nan = pos 0
scaled (inf s) = pos 0
scaled (fin s m e) = with_sign s (m * up e * 2 ^ 1074 / down e)

-- the largest size of a level: brackets of 124 add up to 16 · 124 in the limit
abbrev pub largest : ℕ
largest = 1984

-- a level in its range, of which refusal 11 speaks: a number of the
-- format, neither a NaN nor an infinity, and at most that in size
-- DECISIONS: filter-range
pub record Bounded (x : Float) : Type 0 where
  pub fits : T (fits binary64 x)
  pub finite : T (finite x)
  pub most : unsigned_abs (scaled x) ≤ largest * 2 ^ 1074

-- the same as a test, which no NaN and no infinity passes: from −1,984 to 1,984
-- DECISIONS: filter-range
unfoldable pub in_range : Float → Bool
in_range x = le (of_int binary64 (neg_ℤ (pos largest))) x && le x (of_int binary64 (pos largest))

-- what the test answers, and what it tells besides: that the number is one of the format, as every f64 is
pub record LevelTested (x : Float) (answer : Bool) : Type 0 where
  pub is : answer ≡ in_range x
  pub fits : T (fits binary64 x)
