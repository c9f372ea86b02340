-- "Settings (12 bytes)": what all rows of a job share, and its rules in the order of their bytes. The triple has its
-- own, in `power`.
-- RULES: settings
-- Definitions, to be believed.
use Rattle.std.specs.Prelude.{ℕ, ◌≤◌, ◌<◌, ◌≡◌, Bool, not, ◌&&◌, ltb, eqb, ℤ, pos, negsuc, Option, Some, None}
use Rattle.std.specs.Option.{is_none}
use Rattle.ground.specs.Choice.{when◌then◌else◌}
use Rattle.ground.specs.Integers.{Within, within}
use Rattle.ground.specs.Outside.{outside, Outside}
use Rattle.constants.specs.Sizes.{power_least, start_most}
use Rattle.power.specs.Gain.{MaximumIn}
use Rattle.job_settings.specs.declared.Settings.{Settings}

-- "0 PCA 1 or 2; 1 step 1 or 2 dB, only 1 with PCA 2; 2 ITP 0 or 1; 3 RPP 0 or 1; 4 radio link sets N, 1 to 6": the
-- byte of the first that is wrong, where one is. "step against PCA at 1"
-- DECISIONS: settings-order
unfoldable pub rule_fault : Settings → Option ℕ
rule_fault s =
    when outside 1 2 s.pca then Some 0 else
    when outside 1 2 s.step then Some 1 else
    when eqb s.pca 2 && eqb s.step 2 then Some 1 else
    when ltb 1 s.itp then Some 2 else
    when ltb 1 s.rpp then Some 3 else
    when outside 1 6 s.links then Some 4 else
    None

-- "signed, -9,600 to 2,112 units"
abbrev pub StartIn : ℤ → Type 0
StartIn start = Within power_least start_most start

-- "8 allowed maximum in dBm, signed, -50 to 33; 9 zero; 10-11 start DPCCH power, signed, -9,600 to 2,112 units": the
-- byte of the first that is wrong, from that of the maximum on, where one is. "start power at 10"
-- DECISIONS: settings-order
unfoldable pub power_fault : Settings → (blank : ℕ) → Option ℕ
power_fault s blank =
    when not (within (negsuc 49) (pos 33) s.maximum) then Some 0 else
    when ltb 0 blank then Some 1 else
    when not (within power_least start_most s.start) then Some 2 else
    None

-- whether settings break no rule; byte 9 is no setting, it is the file's alone
unfoldable pub settings_sound : Settings → Bool
settings_sound s = is_none (rule_fault s) && is_none (power_fault s 0)

-- ---- the same without an order of tests

-- the setting at a byte breaks its rule
pub data RuleBreaks (s : Settings) : ℕ → Type 0 where
  -- "0 PCA 1 or 2"
  pca : Outside 1 2 s.pca → RuleBreaks s 0
  -- "1 step 1 or 2 dB, only 1 with PCA 2"
  step : Outside 1 2 s.step → RuleBreaks s 1
  against : s.pca ≡ 2 → (s.step ≡ 1 → ⊥) → RuleBreaks s 1
  -- "2 ITP 0 or 1; 3 RPP 0 or 1"
  itp : 1 < s.itp → RuleBreaks s 2
  rpp : 1 < s.rpp → RuleBreaks s 3
  -- "4 radio link sets N, 1 to 6"
  links : Outside 1 6 s.links → RuleBreaks s 4

-- the power that begins at a byte, from that of the maximum on, or the byte between them
pub data PowerBreaks (s : Settings) (blank : ℕ) : ℕ → Type 0 where
  -- "8 allowed maximum in dBm, signed, -50 to 33"
  maximum : (MaximumIn s.maximum → ⊥) → PowerBreaks s blank 0
  -- "9 zero"
  nine : (blank ≡ 0 → ⊥) → PowerBreaks s blank 1
  -- "10-11 start DPCCH power, signed, -9,600 to 2,112 units"
  start : (StartIn s.start → ⊥) → PowerBreaks s blank 2

-- every rule is kept
pub record SettingsIn (s : Settings) : Type 0 where
  pub pca : (1 ≤ s.pca) × (s.pca ≤ 2)
  pub step : (1 ≤ s.step) × (s.step ≤ 2)
  pub only : s.pca ≡ 2 → s.step ≡ 1
  pub itp : s.itp ≤ 1
  pub rpp : s.rpp ≤ 1
  pub links : (1 ≤ s.links) × (s.links ≤ 6)
  pub maximum : MaximumIn s.maximum
  pub start : StartIn s.start
