-- What the private parts of a step and of a run ask of what they are handed: ranges in which their sums fit.
-- Definitions beside the rules, which need not be believed.
use Rattle.std.specs.Prelude.{ℕ, ◌+◌, ◌*◌, ◌≤◌, ◌≡◌, Bool, false, ◌&&◌, List, T, ℤ, pos, negsuc, nat_abs, ◌+ℤ◌, length}
use Rattle.std.specs.Float.{binary64}
use Rattle.std.specs.Float.Ieee.{fits}
use Rattle.ground.specs.Integers.{Within}
use Rattle.constants.specs.Sizes.{rows_most, power_least, start_most, pilots_least, pilots_most, answer_numbers}
use Rattle.power.specs.declared.Gain.{Gain}
use Rattle.power.specs.Gain.{GainIn}
use Rattle.job_settings.specs.declared.Settings.{Settings}
use Rattle.job_settings.specs.Settings.{SettingsIn, settings_sound}
use Rattle.job_settings.specs.Gains.{gains_sound}
use Rattle.row_state.specs.declared.State.{State}
use Rattle.row_state.specs.States.{StateIn, state_sound}
use Rattle.row_values.specs.Rows.{rows_offered}
use Rattle.row_rules.specs.Ranges.{InRanges}

-- what the test of 11 answers under a ceiling, and tells besides
pub record Admitted (s : Settings) (gains : List ℕ) (ceiling : ℤ) (st : State) (answer : Bool) : Type 0 where
  pub is : answer ≡ (settings_sound s && gains_sound gains && state_sound s.links ceiling st)
  pub fits : T (fits binary64 st.filter.level)

-- what may be withheld after 30,000 rows, a power before limiting, and a ceiling
abbrev pub HeldIn : ℤ → Type 0
HeldIn = Within (pos 0) (pos 67717316)

abbrev pub SumIn : ℤ → Type 0
SumIn = Within (negsuc 11856) (pos 4369)

pub record Settling (held sum ceiling : ℤ) : Type 0 where
  pub held_in : HeldIn held
  pub sum_in : SumIn sum
  pub ceiling_in : Within (negsuc 5203) (pos 2112) ceiling

pub record Answering (g : Gain) (power : ℤ) : Type 0 where
  pub gain : GainIn g
  pub power_in : Within power_least start_most power

-- all in its ranges, and the pilot bits of a row that is sent
pub record Going (s : Settings) (g : Gain) (st : State) (up : Bool) (pilots : ℕ) : Type 0 where
  pub fine : InRanges s g st
  pub pilots_in : up ≡ false → (pilots_least ≤ pilots) × (pilots ≤ pilots_most)

pub record Sending (s : Settings) (g : Gain) (st : State) (command : ℤ) (pilots : ℕ) : Type 0 where
  pub fine : InRanges s g st
  pub command_in : nat_abs command ≤ 1
  pub pilots_in : (pilots_least ≤ pilots) × (pilots ≤ pilots_most)

-- the same once its change is known
pub record Summed (s : Settings) (g : Gain) (st : State) (change : ℤ) : Type 0 where
  pub fine : InRanges s g st
  pub sum_in : SumIn (st.power +ℤ change)

-- a run that may start: room for its rows, and for their answers
pub record Running (s : Settings) (g : Gain) (st : State) (rows : List ℕ) (out : List ℤ) : Type 0 where
  pub settings : SettingsIn s
  pub gain : GainIn g
  pub state : StateIn s.links g.ceiling st
  pub few : st.row + rows_offered rows ≤ rows_most
  pub space : answer_numbers * rows_offered rows ≤ length out
