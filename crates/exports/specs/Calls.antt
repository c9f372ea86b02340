-- What the exported functions answer: the number and the place of a refusal, and every number that was lent.
-- RULES: refusals
-- Definitions, to be believed.
use Rattle.std.specs.Prelude.{ℕ, List, ℤ, Ok, Err}
use Rattle.ground.specs.declared.Refusal.{Refusal}
use Rattle.constants.specs.Refusals.{refusal, no_refusal}
use Rattle.gap_slots.specs.declared.Slot.{Slot}
use Rattle.gap_slots.specs.Slots.{no_gap, slot_at}
use Rattle.job_contents.specs.declared.Bodies.{Bodies}
use Rattle.job_settings.specs.declared.Settings.{Settings}
use Rattle.row_state.specs.declared.State.{State}
use Rattle.row_state.specs.States.{state_start}
use Rattle.row_rules.specs.declared.Ran.{Ran}
use Rattle.row_rules.specs.Runs.{refusal_by, End, ended, run_of}
use Rattle.job.specs.Load.{Loaded}
use Rattle.job.specs.Load.{gains_body, records_body, loaded_of}

-- a refusal, and the lent answers afterwards
pub record Told : Type 0 where
  pub refusal : Refusal
  pub out : List ℤ

abbrev pub told : (number place : ℕ) → List ℤ → Told
told number place out = record { refusal = refusal number place; out = out }

abbrev pub told_by : End → Told
told_by e = record { refusal = refusal_by e.result; out = e.out }

-- rows of the caller's own after a state of a job that is taken, with its triple and all its records
abbrev pub run_after : (job : List ℕ) → Settings → Bodies → State → (rows : List ℕ) → List ℤ → End
run_after job s b st rows out = run_of s (gains_body job b) (records_body job b) st rows out

-- such rows after the state before row 0; the refusal of the file, and the buffer as it was
-- DECISIONS: rows-of-the-caller, rows-cut-short
abbrev pub callers_rows_by : Loaded → (job rows : List ℕ) → List ℤ → End
callers_rows_by (Ok (s, b)) job rows out = run_after job s b (state_start s) rows out
callers_rows_by (Err r) job rows out = ended (Ran.Refused r) out

unfoldable pub callers_rows : (job rows : List ℕ) → List ℤ → End
callers_rows job rows out = callers_rows_by (loaded_of job) job rows out

-- a refusal, and the ids that put a slot into an uplink gap and into a downlink gap, sums of 2^(id−1)
pub record SlotTold : Type 0 where
  pub refusal : Refusal
  pub slot : Slot

abbrev pub slot_told : (number place up down : ℕ) → SlotTold
slot_told number place up down = record { refusal = refusal number place; slot = record { up = up; down = down } }

-- where the job is refused, none
abbrev pub slot_answered_by : Loaded → (job : List ℕ) (slot : ℕ) → SlotTold
slot_answered_by (Ok (s, b)) job slot = record { refusal = no_refusal; slot = slot_at (records_body job b) slot }
slot_answered_by (Err r) job slot = record { refusal = r; slot = no_gap }

unfoldable pub slot_answered : (job : List ℕ) (slot : ℕ) → SlotTold
slot_answered job slot = slot_answered_by (loaded_of job) job slot
