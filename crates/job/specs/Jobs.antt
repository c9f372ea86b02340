-- What a customer asks of a job, which is always handed over whole: the state before row 0, one row, and all rows.
-- RULES: refusals
-- Definitions, to be believed.
use Rattle.std.specs.Prelude.{ℕ, List, ℤ, Ok, Err, Result}
use Rattle.ground.specs.declared.Refusal.{Refusal}
use Rattle.constants.specs.Refusals.{no_refusal}
use Rattle.row_state.specs.declared.State.{State}
use Rattle.row_state.specs.States.{state_start}
use Rattle.row_values.specs.declared.Row.{Row}
use Rattle.row_rules.specs.Stepping.{Stepped}
use Rattle.row_rules.specs.declared.Ran.{Ran}
use Rattle.row_rules.specs.Rules.{step_of}
use Rattle.row_rules.specs.Runs.{End, ended, run_of}
use Rattle.job.specs.Load.{Loaded}
use Rattle.job.specs.Load.{gains_body, records_body, rows_body, loaded_of}

-- the state before row 0, or the refusal of the file
abbrev pub started_by : Loaded → Result State Refusal
started_by (Ok (s, b)) = Ok (state_start s)
started_by (Err r) = Err r

-- the page's number and place of each case: a refusal, and none where there is a state
abbrev pub refusal_of : Result State Refusal → Refusal
refusal_of (Ok st) = no_refusal
refusal_of (Err r) = r

unfoldable pub started_of : List ℕ → Result State Refusal
started_of job = started_by (loaded_of job)

-- one row after a state: the refusal of the file, or the step with every record of the file
-- DECISIONS: rows-any-offered
abbrev pub stepped_by : Loaded → List ℕ → State → Row → Stepped
stepped_by (Ok (s, b)) job st row = step_of s (gains_body job b) (records_body job b) st row
stepped_by (Err r) job st row = Err r

unfoldable pub stepped_of : List ℕ → State → Row → Stepped
stepped_of job st row = stepped_by (loaded_of job) job st row

-- all rows from the start: the refusal of the file and the buffer as it was, or the run with every record and every row
-- of the file
-- DECISIONS: refusals-job-run
abbrev pub ran_by : Loaded → List ℕ → List ℤ → End
ran_by (Ok (s, b)) job out = run_of s (gains_body job b) (records_body job b) (state_start s) (rows_body job b) out
ran_by (Err r) job out = ended (Ran.Refused r) out

unfoldable pub ran_of : List ℕ → List ℤ → End
ran_of job out = ran_by (loaded_of job) job out
