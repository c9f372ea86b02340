-- What makes a row calm: a row has been sent, its slot is no gap slot, and neither a run nor the recovery after one
-- reaches it.
-- Definitions beside the rules, which need not be believed.
use Rattle.std.specs.Prelude.{◌≡◌, Bool, true, false, ltb}
use Rattle.ground.specs.Choice.{when◌then◌else◌}
use Rattle.gap_slots.specs.declared.Slot.{Slot}
use Rattle.gap_slots.specs.Slots.{opens_uplink, opens_downlink}
use Rattle.gap_runs.specs.declared.Run.{Run}
use Rattle.power.specs.declared.Gain.{Gain}
use Rattle.job_settings.specs.declared.Settings.{Settings}
use Rattle.row_state.specs.declared.State.{State}
use Rattle.row_change.specs.declared.Here.{Here}
use Rattle.row_rules.specs.Ranges.{InRanges}

-- what its slot is to it, and where the runs stand, before it and after it
abbrev pub calm_here : Here
calm_here = record { up = false; down = false; resume = false; recovery = false }

abbrev pub still : Run
still = record { length = 0; left = 0 }

unfoldable pub is_calm : Slot → State → Bool
is_calm slot st =
    when opens_uplink slot then false else
    when opens_downlink slot then false else
    when ltb 0 st.run.length then false else
    when ltb 0 st.run.left then false else
    st.sent

-- a calm row, with all in its ranges
pub record Calm (s : Settings) (g : Gain) (slot : Slot) (st : State) : Type 0 where
  pub fine : InRanges s g st
  pub calm : is_calm slot st ≡ true
