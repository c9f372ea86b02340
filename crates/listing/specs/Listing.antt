-- "The listing": what a program prints for a job, byte by byte.
-- RULES: listing
-- Definitions, to be believed.
use Rattle.std.specs.Prelude.{ℕ, Bool, List, ◌++◌, Ok, Err}
use Rattle.gap_slots.specs.Slots.{slot_at}
use Rattle.power.specs.declared.Gain.{Gain}
use Rattle.job_settings.specs.declared.Settings.{Settings}
use Rattle.row_state.specs.States.{state_start}
use Rattle.row_rules.specs.declared.Ran.{Ran}
use Rattle.row_rules.specs.Rules.{gain_for}
use Rattle.row_rules.specs.Runs.{Rows, go_over}
use Rattle.job_contents.specs.declared.Bodies.{Bodies}
use Rattle.listing_rules.specs.Text.{header, lines, ending, refusal_line}
use Rattle.job.specs.Load.{Loaded}
use Rattle.job.specs.Load.{gains_body, records_body, rows_body, loaded_of}

-- "and a last line. A refusal prints `refused NUMBER at PLACE` in place of the last line"
-- DECISIONS: listing-refused-alone
unfoldable pub closing_line : Ran → List ℕ
closing_line (Ran.Done st) = ending st.row st.held
closing_line (Ran.Stopped st r) = refusal_line r
closing_line (Ran.Refused r) = refusal_line r

-- "one line a row", from the row with a number on, and the last line
abbrev pub shown : (sends : Bool) (row : ℕ) → Rows → List ℕ
shown sends row r = lines sends row r.answers ++ closing_line r.result

-- a job's gain, which tells whether data are carried at all
abbrev pub job_gain : List ℕ → Settings → Bodies → Gain
job_gain job s b = gain_for s (gains_body job b)

-- every row of a job, from the start
abbrev pub all_rows : List ℕ → Settings → Bodies → Rows
all_rows job s b = go_over s (job_gain job s b) (slot_at (records_body job b)) (state_start s) (rows_body job b)

-- "prints the fixed header, one line a row with "-" for absent powers, and a last line"; a refusal "alone if it is 1 to
-- 7"
-- DECISIONS: listing-refused-alone
abbrev pub listed : Loaded → List ℕ → List ℕ
listed (Ok (s, b)) job = header ++ shown (job_gain job s b).carries_data 0 (all_rows job s b)
listed (Err r) job = refusal_line r

unfoldable pub listing_of : List ℕ → List ℕ
listing_of job = listed (loaded_of job) job
