-- "The change of a row": the step, the recovery step, the pilot change, and a command times a step with it.
-- RULES: change
-- Definitions, to be believed.
use Rattle.std.specs.Prelude.{ℕ, ◌*◌, min, eqb, ℤ, pos, ◌+ℤ◌, ◌-ℤ◌, ◌*ℤ◌}
use Rattle.ground.specs.Choice.{when◌then◌else◌}
use Rattle.levels.specs.Level.{level}

-- "The step is 64 or 128", for 1 or 2 dB. Any other number of dB is taken as 1
-- DECISIONS: settings-other-values
unfoldable pub step_units : ℕ → ℕ
step_units decibels = when eqb decibels 2 then 128 else 64

-- "The recovery step is the least of 192 and twice the step for PCA 1, and 64 for PCA 2", from the step in units
-- DECISIONS: settings-other-values
unfoldable pub recovery_step_of : (pca step : ℕ) → ℕ
recovery_step_of pca step = when eqb pca 2 then 64 else min 192 (2 * step)

-- "Pilot change is L(pilots of the last sent row) − L(pilots now)"
unfoldable pub pilot_change_of : (before now : ℕ) → ℤ
pilot_change_of before now = pos (level before) -ℤ pos (level now)

-- "command × recovery step + pilot change", "command × step + pilot change"
unfoldable pub step_change_of : (command : ℤ) (step before now : ℕ) → ℤ
step_change_of command step before now = command *ℤ pos step +ℤ pilot_change_of before now
