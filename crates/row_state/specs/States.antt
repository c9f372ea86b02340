-- The state between two rows: how it starts, and the ranges of refusal 11.
-- RULES: refusals
-- Definitions, to be believed.
use Rattle.std.specs.Prelude.{ℕ, ◌+◌, ◌*◌, ◌≤◌, ◌≡◌, Bool, true, false, ◌&&◌, T, ltb, leb, ℤ, pos, negsuc, nat_abs}
use Rattle.std.specs.Float.{binary64}
use Rattle.std.specs.Float.Ieee.{fits}
use Rattle.ground.specs.Choice.{when◌then◌else◌}
use Rattle.ground.specs.Integers.{Within, within}
use Rattle.constants.specs.Sizes.{rows_most, pilots_least, pilots_most, power_least, start_most}
use Rattle.gap_runs.specs.Runs.{RunIn}
use Rattle.gap_runs.specs.Runs as runs
use Rattle.command_algorithms.specs.Sets.{fresh_of, IsSet}
use Rattle.command_algorithms.specs.Sets as sets
use Rattle.resume_filter.specs.Update.{empty_of, IsFilter}
use Rattle.resume_filter.specs.Update as filters
use Rattle.job_settings.specs.declared.Settings.{Settings}
use Rattle.job_settings.specs.Settings.{StartIn}
use Rattle.row_state.specs.declared.Opening.{Opening}
use Rattle.row_state.specs.declared.State.{State}

-- a run in which no uplink gap slot was seen, and one whose first had this command
abbrev pub unopened : Opening
unopened = record { seen = false; command = pos 0 }

abbrev pub opened_by : ℤ → Opening
opened_by command = record { seen = true; command = command }

-- before row 0: nothing sent, nothing withheld, no slot walked, and the start power
-- DECISIONS: power-nothing-withheld
unfoldable pub state_start : Settings → State
state_start s =
    record {
      row = 0;
      sent = false;
      power = s.start;
      held = pos 0;
      pilots = 0;
      limited = false;
      run = runs.no_run;
      opening = unopened;
      set = fresh_of;
      filter = empty_of;
    }

-- the same field by field
pub record Starts (s : Settings) : Type 0 where
  pub row : (state_start s).row ≡ 0
  pub sent : (state_start s).sent ≡ false
  pub power : (state_start s).power ≡ s.start
  pub held : (state_start s).held ≡ pos 0
  pub pilots : (state_start s).pilots ≡ 0
  pub limited : (state_start s).limited ≡ false
  pub run : (state_start s).run ≡ runs.no_run
  pub opening : (state_start s).opening ≡ unopened
  pub set : (state_start s).set ≡ fresh_of
  pub filter : (state_start s).filter ≡ empty_of

-- ---- "The ranges for 11 stand in docs/ and hold for every state handed out by a load or a step"

-- "a field's range may rise with the number of rows accepted": what may be withheld after so many rows. The first
-- sent row can be the whole way from the highest start power, 2,112, to the lowest ceiling, −5,204, above it; each
-- later one a resume change of 1,984 and a pilot change of 273
abbrev pub held_most : ℕ → ℤ
held_most row = pos (7316 + 2257 * row)

-- the books until a row is sent
pub record UnsentIn (power held : ℤ) (pilots : ℕ) : Type 0 where
  pub power_in : StartIn power
  pub held_is : held ≡ pos 0
  pub pilots_is : pilots ≡ 0

-- and from then on
pub record SentIn (ceiling : ℤ) (row : ℕ) (power held : ℤ) (pilots : ℕ) : Type 0 where
  pub power_in : Within power_least ceiling power
  pub held_in : Within (pos 0) (held_most row) held
  pub pilots_in : (pilots_least ≤ pilots) × (pilots ≤ pilots_most)

-- the ranges of a state's fields, for so many link sets and under a ceiling
-- DECISIONS: refusals-range-by-field
pub record StateIn (links : ℕ) (ceiling : ℤ) (st : State) : Type 0 where
  pub row_in : st.row ≤ rows_most
  pub unsent : st.sent ≡ false → UnsentIn st.power st.held st.pilots
  pub sent : st.sent ≡ true → SentIn ceiling st.row st.power st.held st.pilots
  pub run_in : RunIn st.run
  pub opening_in : nat_abs st.opening.command ≤ 1
  pub set_in : IsSet links st.set
  pub filter_in : IsFilter st.row st.filter

-- ---- the same as a test

-- DECISIONS: refusals-range-by-field
unfoldable pub opening_sound : ℤ → Bool
opening_sound command = within (negsuc 0) (pos 1) command

unfoldable pub slots_sound : (links : ℕ) → State → Bool
slots_sound links st = runs.run_sound st.run && opening_sound st.opening.command && sets.set_sound links st.set

unfoldable pub unsent_sound : (power held : ℤ) (pilots : ℕ) → Bool
unsent_sound power held pilots = within power_least start_most power && within (pos 0) (pos 0) held && ltb pilots 1

unfoldable pub sent_sound : (ceiling : ℤ) (row : ℕ) (power held : ℤ) (pilots : ℕ) → Bool
sent_sound ceiling row power held pilots =
    within power_least ceiling power && within (pos 0) (held_most row) held
    && leb pilots_least pilots && leb pilots pilots_most

unfoldable pub books_sound : (ceiling : ℤ) → State → Bool
books_sound ceiling st =
    when st.sent then sent_sound ceiling st.row st.power st.held st.pilots else
    unsent_sound st.power st.held st.pilots

unfoldable pub state_sound : (links : ℕ) (ceiling : ℤ) → State → Bool
state_sound links ceiling st =
    when ltb rows_most st.row then false else
    (filters.filter_sound st.filter st.row && slots_sound links st && books_sound ceiling st)

-- what the test answers, and tells besides: an f64's number is one that 64 bits hold, which no code can ask
pub record StateTested (links : ℕ) (ceiling : ℤ) (st : State) (answer : Bool) : Type 0 where
  pub is : answer ≡ state_sound links ceiling st
  pub fits : T (fits binary64 st.filter.level)
