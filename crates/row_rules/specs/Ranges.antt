-- What a row needs to be worked: everything that it is handed in its ranges.
-- RULES: refusals
-- Definitions beside the rules, which need not be believed.
use Rattle.std.specs.Prelude.{◌<◌}
use Rattle.constants.specs.Sizes.{rows_most}
use Rattle.power.specs.declared.Gain.{Gain}
use Rattle.job_settings.specs.declared.Settings.{Settings}
use Rattle.row_state.specs.declared.State.{State}
use Rattle.power.specs.Gain.{GainIn}
use Rattle.job_settings.specs.Settings.{SettingsIn}
use Rattle.row_state.specs.States.{StateIn}

-- settings, gain and state in their ranges, and room for a row
pub record InRanges (s : Settings) (g : Gain) (st : State) : Type 0 where
  pub settings : SettingsIn s
  pub gain : GainIn g
  pub state : StateIn s.links g.ceiling st
  pub room : st.row < rows_most
