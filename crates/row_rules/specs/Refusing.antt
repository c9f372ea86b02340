-- What is claimed of refusals, of the states that are handed out, and of runs: statements alone. Their proofs stand in
-- Theorems/.
-- RULES: refusals
-- Definitions, to be believed.
use Rattle.std.specs.Prelude.{ℕ, ◌+◌, ◌*◌, ◌≤◌, ◌<◌, ◌≡◌, ◌↔◌, ◌⊎◌, true, false, List, ◌++◌, T, ℤ, length, ◌≤ℤ◌, ◌<ℤ◌, Err}
use Rattle.std.specs.Float.{binary64}
use Rattle.std.specs.Float.Ieee.{fits}
use Rattle.constants.specs.Sizes.{rows_most, power_least, answer_numbers, pilots_least, pilots_most}
use Rattle.constants.specs.Refusals.{refusal, too_many_rows, wrong_row, power_too_low, short_answers, wrong_state}
use Rattle.gap_slots.specs.declared.Slot.{Slot}
use Rattle.gap_slots.specs.Slots.{opens_uplink, opens_downlink, slot_at}
use Rattle.command_algorithms.specs.Algorithms.{decision}
use Rattle.power.specs.declared.Gain.{Gain}
use Rattle.job_settings.specs.declared.Settings.{Settings}
use Rattle.row_state.specs.declared.State.{State}
use Rattle.power.specs.Triples.{TripleIn}
use Rattle.job_settings.specs.Settings.{SettingsIn}
use Rattle.job_settings.specs.Gains.{triple_at}
use Rattle.row_state.specs.States.{StateIn}
use Rattle.row_values.specs.declared.Row.{Row}
use Rattle.row_values.specs.Rows.{rows_offered}
use Rattle.row_rules.specs.declared.Ran.{Ran}
use Rattle.row_rules.specs.Rules.{row_of, sum_at, gain_for, admits, step_of}
use Rattle.row_rules.specs.Runs.{go_over, and_then, ended, then_rest, run_of}
use Rattle.row_rules.specs.History.{accepted}

-- ---- a row and a step

-- the bytes of a row that break no rule: "bits from N up zero, and is 0 in a downlink gap", "3 to 8, and 0 in an uplink
-- gap"
pub record Keeps (links : ℕ) (slot : Slot) (row : Row) : Type 0 where
  pub bits : (i : ℕ) → links ≤ i → decision row.commands i ≡ 0
  pub silent : opens_downlink slot ≡ true → row.commands ≡ 0
  pub unsent : opens_uplink slot ≡ true → row.pilots ≡ 0
  pub sent : opens_uplink slot ≡ false → (pilots_least ≤ row.pilots) × (row.pilots ≤ pilots_most)

-- "8 a row byte breaks its rule", "9 control power before limiting would be below -9,600", each exactly then, at the
-- row; and a row is taken else
pub record RowRefused (s : Settings) (g : Gain) (slot : Slot) (st : State) (row : Row) : Type 0 where
  pub eight : row_of s g slot st row ≡ Err (refusal wrong_row st.row) ↔ (Keeps s.links slot row → ⊥)
  pub nine : row_of s g slot st row ≡ Err (refusal power_too_low st.row) ↔
      (Keeps s.links slot row × (opens_uplink slot ≡ false) × (sum_at s slot st row <ℤ power_least))
  pub else_taken : accepted (row_of s g slot st row) ≡ true ↔
      (Keeps s.links slot row × ((opens_uplink slot ≡ true) ⊎ (power_least ≤ℤ sum_at s slot st row)))

-- the filter of a state is an f64: a number that 64 bits hold. Every state of a program has one
-- DECISIONS: promises-level-fits
abbrev pub IsF64 : State → Type 0
IsF64 st = T (fits binary64 st.filter.level)

-- settings, triple and state in their ranges
pub record StateRanged (s : Settings) (gains : List ℕ) (st : State) : Type 0 where
  pub settings : SettingsIn s
  pub triple : TripleIn (triple_at gains 0)
  pub state : StateIn s.links (gain_for s gains).ceiling st

-- "7 … a row after the 30,000th", then "11 a state handed in has a field outside its range", each exactly then; and
-- else the row itself decides
pub record StepRefused (s : Settings) (gains records : List ℕ) (st : State) (row : Row) : Type 0 where
  pub seven : step_of s gains records st row ≡ Err (refusal too_many_rows rows_most) ↔ rows_most ≤ st.row
  pub eleven : step_of s gains records st row ≡ Err (refusal wrong_state 0) ↔
      ((st.row < rows_most) × (StateRanged s gains st → ⊥))
  pub by_row : st.row < rows_most → StateRanged s gains st →
      step_of s gains records st row ≡ row_of s (gain_for s gains) (slot_at records st.row) st row

-- "The ranges for 11 … hold for every state handed out by a load or a step": in their ranges, and past the test
pub record HandedOut (s : Settings) (gains : List ℕ) (st : State) : Type 0 where
  pub ranged : StateRanged s gains st
  pub passes : admits s gains st ≡ true
  -- so that it is never answered with 11
  pub never_step : (records : List ℕ) (row : Row) →
      step_of s gains records st row ≡ Err (refusal wrong_state 0) → ⊥
  pub never_run : (records rows : List ℕ) (out : List ℤ) →
      run_of s gains records st rows out ≡ ended (Ran.Refused (refusal wrong_state 0)) out → ⊥

-- ---- runs

-- more rows are offered than the 30,000 leave room for
-- DECISIONS: refusals-run-of-rows
abbrev pub TooMany : State → List ℕ → Type 0
TooMany st rows = (1 ≤ rows_offered rows) × (rows_most < st.row + rows_offered rows)

-- "7 more than 30,000 rows, or a row after the 30,000th", then "10 asks for 8 numbers a row", then 11,
-- each exactly then, and "leave the whole answer buffer and any state as they were"
pub record RunRefused (s : Settings) (gains records : List ℕ) (st : State) (rows : List ℕ) (out : List ℤ) : Type 0 where
  pub seven : run_of s gains records st rows out ≡ ended (Ran.Refused (refusal too_many_rows rows_most)) out ↔
      TooMany st rows
  pub ten : run_of s gains records st rows out ≡
      ended (Ran.Refused (refusal short_answers (answer_numbers * rows_offered rows))) out ↔
      ((TooMany st rows → ⊥) × (length out < answer_numbers * rows_offered rows))
  pub eleven : run_of s gains records st rows out ≡ ended (Ran.Refused (refusal wrong_state 0)) out ↔
      ((TooMany st rows → ⊥) × (answer_numbers * rows_offered rows ≤ length out) × (StateRanged s gains st → ⊥))
  -- and else row by row: "the answers of earlier rows stand, later places are untouched"
  pub rows_run : (TooMany st rows → ⊥) → answer_numbers * rows_offered rows ≤ length out → StateRanged s gains st →
      run_of s gains records st rows out ≡
      then_rest out (go_over s (gain_for s gains) (slot_at records) st rows)

-- a run over whole rows, then more: the run over the rows, and where it is done the run from there; the answers of both
-- stand one after the other
pub record Joins (s : Settings) (gains records : List ℕ) (st : State) (rows more : List ℕ) (out : List ℤ) : Type 0 where
  pub rows_joined : go_over s (gain_for s gains) (slot_at records) st (rows ++ more) ≡
      and_then (go_over s (gain_for s gains) (slot_at records) st rows)
      (λ next. go_over s (gain_for s gains) (slot_at records) next more)
  pub run_joined : (TooMany st (rows ++ more) → ⊥) → answer_numbers * rows_offered (rows ++ more) ≤ length out →
      StateRanged s gains st →
      run_of s gains records st (rows ++ more) out ≡ then_rest out
      (and_then (go_over s (gain_for s gains) (slot_at records) st rows)
      (λ next. go_over s (gain_for s gains) (slot_at records) next more))
