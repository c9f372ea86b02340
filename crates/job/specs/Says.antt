-- What each case of the answer to a start, a step and a run of a job says: the refusal of the file, or what the state
-- before row 0, the row or the rows are. Statements alone. Their proofs stand in Theorems/.
-- Definitions, to be believed.
use Rattle.std.specs.Prelude.{ℕ, ◌≤◌, ◌≡◌, ◌⊎◌, List, ℤ, Ok, Err, Result}
use Rattle.ground.specs.declared.Refusal.{Refusal}
use Rattle.constants.specs.Refusals.{too_many_rows, power_too_low, short_answers, wrong_state}
use Rattle.job_contents.specs.declared.Bodies.{Bodies}
use Rattle.job_settings.specs.declared.Settings.{Settings}
use Rattle.row_state.specs.declared.State.{State}
use Rattle.row_state.specs.States.{state_start}
use Rattle.row_values.specs.declared.Row.{Row}
use Rattle.row_rules.specs.Stepping.{Stepped}
use Rattle.row_rules.specs.declared.Ran.{Ran}
use Rattle.row_rules.specs.Rules.{refusal_of}
use Rattle.row_rules.specs.Runs.{refusal_by, ended}
use Rattle.row_rules.specs.Says.{StepSays, RunSays}
use Rattle.job.specs.Load.{gains_body, records_body, rows_body, LoadSays}
use Rattle.job.specs.Jobs.{started_of, stepped_of, ran_of}
use Rattle.job.specs.Jobs as jobs

-- ---- a start

pub data StartSays (job : List ℕ) : Result State Refusal → Type 0 where
  -- 1 to 7, by the load
  refused : {r : Refusal} → LoadSays job (Err r) → StartSays job (Err r)
  -- the state before row 0
  begins : {s : Settings} {b : Bodies} → LoadSays job (Ok (s, b)) → StartSays job (Ok (state_start s))

-- what a start promises: its answer, what this says, and its number on the page: none, or 1 to 7
pub record StartTold (job : List ℕ) (answer : Result State Refusal) : Type 0 where
  pub is : answer ≡ started_of job
  pub says : StartSays job answer
  pub number : (jobs.refusal_of answer).number ≤ too_many_rows

-- ---- a step

pub data JobStepSays (job : List ℕ) (st : State) (row : Row) : Stepped → Type 0 where
  -- 1 to 7, by the load
  refused : {r : Refusal} → LoadSays job (Err r) → JobStepSays job st row (Err r)
  -- 7, 11, 8, 9, or the row's values: the step with the triple and every record of the file
  by_step_lem : {s : Settings} {b : Bodies} {x : Stepped} → LoadSays job (Ok (s, b)) →
      StepSays s (gains_body job b) (records_body job b) st row x → JobStepSays job st row x

-- what a step promises: its answer, what this says, and its number on the page: none, 1 to 9, or 11
pub record JobStepTold (job : List ℕ) (st : State) (row : Row) (answer : Stepped) : Type 0 where
  pub is : answer ≡ stepped_of job st row
  pub says : JobStepSays job st row answer
  pub number : ((refusal_of answer).number ≤ power_too_low) ⊎ ((refusal_of answer).number ≡ wrong_state)

-- ---- a run

pub data JobRunSays (job : List ℕ) (out : List ℤ) : Ran → List ℤ → Type 0 where
  -- 1 to 7, by the load, and the whole buffer as it was
  refused : {r : Refusal} → LoadSays job (Err r) → JobRunSays job out (Ran.Refused r) out
  -- 10, 8, 9, or all rows: the run from the start with the triple, every record and every row of the file
  by_run : {s : Settings} {b : Bodies} {result : Ran} {after : List ℤ} → LoadSays job (Ok (s, b)) →
      RunSays s (gains_body job b) (records_body job b) (state_start s) (rows_body job b) out result after →
      JobRunSays job out result after

-- what a run promises: how it ends and the buffer afterwards, what these say, and its number: none, or 1 to 10
-- DECISIONS: refusals-job-run
pub record JobRunTold (job : List ℕ) (out : List ℤ) (answer : Ran) (after : List ℤ) : Type 0 where
  pub is : ended answer after ≡ ran_of job out
  pub says : JobRunSays job out answer after
  pub number : (refusal_by answer).number ≤ short_answers
