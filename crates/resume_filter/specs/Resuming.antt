-- "The resume change is either a whole command step or a filter level": which it is, and its whole units.
-- RULES: change
-- Definitions, to be believed.
use Rattle.std.specs.Prelude.{◌≡◌, ℕ, suc, ◌+◌, ◌*◌, ◌/◌, ◌^◌, ◌<◌, ◌≤◌, ℤ, pos, negsuc, ◌*ℤ◌, neg_ℤ, int_lt, nat_lt, unsigned_abs, Float}
use Rattle.ground.specs.Choice.{when◌then◌else◌}
use Rattle.resume_filter.specs.declared.Filter.{Filter}
use Rattle.resume_filter.specs.declared.Resume.{Resume}
use Rattle.resume_filter.specs.Scaled.{with_sign, scaled, in_range}

-- "to the nearest unit, halves away from zero", for v / 2^1074 units above zero: the whole part of half a unit more
unfoldable pub half_up : ℕ → ℕ
half_up v = (v + 2 ^ 1073) / 2 ^ 1074

-- and on either side of it
unfoldable pub away : ℤ → ℤ
away (pos v) = pos (half_up v)
away (negsuc v) = neg_ℤ (pos (half_up (suc v)))

-- a level in whole units. A number outside its range, a NaN and an infinity are none, and change nothing
-- DECISIONS: change-level-outside
unfoldable pub nearest_of : Float → ℤ
nearest_of x = when in_range x then away (scaled x) else pos 0

-- "ITP 0: step × the command of the run's first uplink gap slot";
-- "ITP 1: the filter as it stands before this row's own update"
-- DECISIONS: settings-other-values
unfoldable pub resume_of : (itp step : ℕ) (command : ℤ) (f : Filter) → Resume
resume_of itp step command f = when nat_lt itp 1 then Resume.Whole (command *ℤ pos step) else Resume.Level f.level

-- what each case says. "ITP 0: step × the command of the run's first uplink gap slot"; "ITP 1: the filter as it stands
-- before this row's own update", and so for every other ITP, which no accepted job has
-- DECISIONS: settings-other-values
abbrev pub ResumeSays : (itp step : ℕ) (command : ℤ) (f : Filter) → Resume → Type 0
ResumeSays itp step command f (Resume.Whole units) = (itp ≡ 0) × (units ≡ command *ℤ pos step)
ResumeSays itp step command f (Resume.Level level) = (1 ≤ itp) × (level ≡ f.level)

-- what is promised of a resume change: the answer, and what this says
pub record ResumeTold (itp step : ℕ) (command : ℤ) (f : Filter) (answer : Resume) : Type 0 where
  pub is : answer ≡ resume_of itp step command f
  pub says : ResumeSays itp step command f answer

-- what each case is in whole units
unfoldable pub whole_units_of : Resume → ℤ
whole_units_of (Resume.Whole units) = units
whole_units_of (Resume.Level level) = nearest_of level

-- the same without a division: n has z's sign, and z / 2^1074 is in size
-- from half a unit below n, itself among them, to half a unit above
-- DECISIONS: change-nearest-by-comparing
pub record IsNearest (z n : ℤ) : Type 0 where
  pub side : n ≡ with_sign (int_lt z (pos 0)) (unsigned_abs n)
  pub low : 2 * unsigned_abs n * 2 ^ 1073 ≤ unsigned_abs z + 2 ^ 1073
  pub high : unsigned_abs z < (2 * unsigned_abs n + 1) * 2 ^ 1073
