-- What the demands are about: a job that is taken; rows that are offered to it, the file's own or a caller's; how far
-- they are accepted; and the power before each of them.
-- Definitions, to be believed.
use Rattle.std.specs.Prelude.{ℕ, zero, suc, ◌+◌, ◌*◌, ◌≤◌, ◌≡◌, ◌⊎◌, List, ℤ, length, Ok}
use Rattle.ground.specs.declared.Refusal.{Refusal}
use Rattle.ground.specs.Choice.{when◌then◌else◌}
use Rattle.constants.specs.Sizes.{rows_most, answer_numbers}
use Rattle.constants.specs.Refusals.{wrong_row, power_too_low}
use Rattle.power.specs.declared.Triple.{Triple}
use Rattle.gap_slots.specs.declared.Slot.{Slot}
use Rattle.gap_slots.specs.Slots.{slot_at}
use Rattle.job_settings.specs.declared.Settings.{Settings}
use Rattle.job_settings.specs.Gains.{triple_at}
use Rattle.row_values.specs.declared.Row.{Row}
use Rattle.row_values.specs.Rows.{row_at, rows_offered}
use Rattle.row_state.specs.declared.State.{State}
use Rattle.row_rules.specs.declared.Ran.{Ran}
use Rattle.row_rules.specs.Runs.{OnStopped}
use Rattle.row_rules.specs.History.{History, Accepted, answer_at, is_sent}
use Rattle.row_rules.specs.Theorems.{offered_to, Ends}
use Rattle.job_contents.specs.declared.Bodies.{Bodies}
use Rattle.job.specs.Load.{Loaded}
use Rattle.job.specs.Load.{gains_body, records_body, rows_body, row_count, loaded_of}

-- a job that is taken: its settings, and where its bodies lie
pub record TakenJob (job : List ℕ) : Type 0 where
  pub settings : Settings
  pub bodies : Bodies
  pub is_taken : loaded_of job ≡ Ok (settings, bodies)

module _ {job : List ℕ} (j : TakenJob job) where
  -- the bytes of its triple, those of its rows, and how many rows these are
  abbrev pub job_gains : List ℕ
  job_gains = gains_body job j.bodies

  abbrev pub file_bytes : List ℕ
  file_bytes = rows_body job j.bodies

  abbrev pub file_count : ℕ
  file_count = row_count job j.bodies

  -- slot k, by every record of it
  abbrev pub job_slot : ℕ → Slot
  job_slot = slot_at (records_body job j.bodies)

  -- "5 βc …; 6 βd …; 7 DPDCH count n": the triple of row k. A job has one, and every row has it
  abbrev pub row_triple : (k : ℕ) → Triple
  row_triple k = triple_at job_gains 0

  -- rows offered one after the other from its start, whoever offers them
  abbrev pub offered_rows : (ℕ → Row) → History
  offered_rows row = offered_to j.settings job_gains (records_body job j.bodies) row

  -- those that stand in bytes, of a caller; and the file's own. Past the last row the bytes are 0
  abbrev pub part_rows : List ℕ → History
  part_rows bytes = offered_rows (row_at bytes)

  abbrev pub file_rows : History
  file_rows = part_rows file_bytes

-- A test with a job: the job is taken, rows are offered to it one after the other from its start, the file's own or a
-- caller's, and the first n of them are accepted. So every row that is offered after accepted rows is row n of a test.
pub record Test (job : List ℕ) : Type 0 where
  pub taken : TakenJob job
  pub row : ℕ → Row
  pub n : ℕ
  pub few : n ≤ rows_most
  pub accepted : Accepted (offered_rows taken row) n

abbrev pub history : {job : List ℕ} → Test job → History
history t = offered_rows t.taken t.row

-- the test with the rows of a part, as far as they are accepted
abbrev pub part_test : {job : List ℕ} (j : TakenJob job) (bytes : List ℕ) {n : ℕ} → n ≤ rows_most →
    Accepted (part_rows j bytes) n → Test job
part_test j bytes {n} l a = record { taken = j; row = row_at bytes; n = n; few = l; accepted = a }

-- there is room for all rows of a part after so many: neither 7, "more than 30,000 rows", nor 10, which "asks for 8
-- numbers a row", is due
pub record RoomAfter (before : ℕ) (bytes : List ℕ) (out : List ℤ) : Type 0 where
  pub few : before + rows_offered bytes ≤ rows_most
  pub long : answer_numbers * rows_offered bytes ≤ length out

-- how far the rows of a part are accepted, n of them, and how a run of them ends, in the state after these: all were
-- accepted; or row n is refused by 8 or 9, at its place; or it lacks a byte, which breaks its rule
pub record CameTo (h : History) (bytes : List ℕ) (n : ℕ) (x : Ran) : Type 0 where
  pub accepted : Accepted h n
  pub ends : Ends h bytes n x
  pub refused : OnStopped
      (λ (st : State) (r : Refusal). ((r.number ≡ wrong_row) ⊎ (r.number ≡ power_too_low)) × (r.place ≡ n)) x

-- "old power": the start power until a row is sent, then that of the last sent row
-- DECISIONS: power-old
unfoldable pub old_power : History → ℕ → ℤ
old_power h zero = h.settings.start
old_power h (suc k) = when is_sent h k then (answer_at h k).dpcch else old_power h k
