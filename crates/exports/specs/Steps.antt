-- What the exported functions answer that hand a state over as numbers: a live test goes on from where it stands.
-- RULES: refusals
-- Definitions, to be believed.
use Rattle.std.specs.Prelude.{ℕ, false, List, eqb, ℤ, Float, length, Ok, Err, Some, None, Option}
use Rattle.std.specs.Option.{unwrap_or}
use Rattle.ground.specs.declared.Refusal.{Refusal}
use Rattle.ground.specs.Choice.{when◌then◌else◌}
use Rattle.constants.specs.Refusals.{refusal, no_refusal, wrong_state}
use Rattle.job_settings.specs.declared.Settings.{Settings}
use Rattle.row_values.specs.Rows.{rows_offered}
use Rattle.row_state.specs.declared.State.{State}
use Rattle.row_state.specs.States.{state_start}
use Rattle.row_rules.specs.declared.Ran.{Ran}
use Rattle.row_rules.specs.Runs.{refusal_by, End, run_refusal, run_of}
use Rattle.job.specs.Load.{Loaded}
use Rattle.job.specs.Load.{gains_body, records_body, loaded_of}
use Rattle.exports_state.specs.Packed.{state_numbers, numbers_of, unpacked_of, row_said}

-- a state as it was lent: its numbers, however many, and its filter's level
pub record Lent : Type 0 where
  pub numbers : List ℤ
  pub level : Float

abbrev pub lent : List ℤ → Float → Lent
lent numbers level = record { numbers = numbers; level = level }

-- a state handed out
unfoldable pub lent_of : State → Lent
lent_of st = lent (numbers_of st) st.filter.level

-- "A refused row changes no state": the state that a run hands out, and the one before where all of it is refused
unfoldable pub lent_by : Ran → Lent → Lent
lent_by (Ran.Done st) before = lent_of st
lent_by (Ran.Stopped st r) before = lent_of st
lent_by (Ran.Refused r) before = before

-- ---- the state before row 0

-- a refusal, and the lent state afterwards
pub record LentStart : Type 0 where
  pub refusal : Refusal
  pub state : Lent

abbrev pub handed : Refusal → Lent → LentStart
handed r state = record { refusal = r; state = state }

abbrev pub start_told : (number place : ℕ) → Lent → LentStart
start_told number place state = handed (refusal number place) state

-- what was lent is asked for its size alone: numbers of another count are no state, and are left as they were
-- DECISIONS: refusals-lent-state
unfoldable pub start_handed : State → Lent → LentStart
start_handed st before =
    when eqb (length before.numbers) state_numbers then handed no_refusal (lent_of st) else
    handed (refusal wrong_state 0) before

-- where the job is refused, the state as it was
abbrev pub start_by : Loaded → Lent → LentStart
start_by (Ok (s, b)) before = start_handed (state_start s) before
start_by (Err r) before = handed r before

-- the state before row 0 of a job, as it is lent
unfoldable pub started_lent : (job : List ℕ) → Lent → LentStart
started_lent job before = start_by (loaded_of job) before

-- ---- rows after a state

-- a refusal, the lent state and the lent answers afterwards
pub record NextTold : Type 0 where
  pub refusal : Refusal
  pub state : Lent
  pub out : List ℤ

abbrev pub next_told : (number place : ℕ) → Lent → List ℤ → NextTold
next_told number place state out = record { refusal = refusal number place; state = state; out = out }

-- all as it was
abbrev pub untouched : Refusal → Lent → List ℤ → NextTold
untouched r before out = record { refusal = r; state = before; out = out }

-- what a run answers
abbrev pub lent_after : Lent → End → NextTold
lent_after before e = record { refusal = refusal_by e.result; state = lent_by e.result before; out = e.out }

-- what numbers that are no state are refused with: as a run is from a state of their row that is not sound
-- DECISIONS: refusals-lent-state
abbrev pub outside_of : (numbers : List ℤ) (rows : List ℕ) (out : List ℤ) → Refusal
outside_of numbers rows out =
    unwrap_or (run_refusal (row_said numbers) (rows_offered rows) (length out) false) no_refusal

-- the run after the state that lent numbers are; where they are none, its refusal, and all as it was
abbrev pub after_by : Option State → Settings → (gains records rows : List ℕ) → Lent → List ℤ → NextTold
after_by (Some st) s gains records rows before out = lent_after before (run_of s gains records st rows out)
after_by None s gains records rows before out = untouched (outside_of before.numbers rows out) before out

-- rows after lent numbers and their level, whatever they are
unfoldable pub after_lent : Settings → (gains records rows : List ℕ) → Lent → List ℤ → NextTold
after_lent s gains records rows before out =
    after_by (unpacked_of before.numbers before.level) s gains records rows before out

-- the refusal of the file, then those after it
abbrev pub next_by : Loaded → (job rows : List ℕ) → Lent → List ℤ → NextTold
next_by (Ok (s, b)) job rows before out = after_lent s (gains_body job b) (records_body job b) rows before out
next_by (Err r) job rows before out = untouched r before out

-- rows of the caller's own after a lent state
unfoldable pub next_of : (job rows : List ℕ) → Lent → List ℤ → NextTold
next_of job rows before out = next_by (loaded_of job) job rows before out
