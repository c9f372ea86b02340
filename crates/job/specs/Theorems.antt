-- What the definitions of a job imply: refusals exactly when stated, every record of the file taken or the file
-- refused, the buffer of a run. Statements alone, and at the end the list of all theorems with their premises. Their
-- proofs stand in Theorems/.
-- RULES: file, refusals, promises
-- Definitions, to be believed.
use Rattle.std.specs.Prelude.{ℕ, ◌+◌, ◌*◌, ◌^◌, ◌≤◌, ◌<◌, ◌≡◌, ◌↔◌, ◌⊎◌, Bool, true, List, ◌++◌, ltb, ℤ, pos, length, get_or, take, drop, Ok, Err, Result}
use Rattle.ground.specs.declared.Refusal.{Refusal}
use Rattle.ground.specs.Choice.{when◌then◌else◌}
use Rattle.ground.specs.Sums.{is_in}
use Rattle.constants.specs.Sizes.{contents_bytes, settings_bytes, triple_bytes, record_bytes, records_most, row_bytes}
use Rattle.constants.specs.Sizes.{rows_most, answer_numbers, id_most}
use Rattle.constants.specs.Refusals.{refusal, file_too_long, wrong_contents, too_many_rows, short_answers}
use Rattle.gap_records.specs.declared.Sequence.{Sequence}
use Rattle.gap_records.specs.Records.{sequence_at, record_of, count_of, RecordsFine}
use Rattle.gap_slots.specs.Slots.{opens_uplink, opens_downlink, uplink, downlink, InGap, slot_at}
use Rattle.job_settings.specs.declared.Settings.{Settings}
use Rattle.row_state.specs.declared.State.{State}
use Rattle.power.specs.Triples.{TripleIn}
use Rattle.job_settings.specs.Settings.{SettingsIn}
use Rattle.job_settings.specs.Gains.{triple_at}
use Rattle.row_state.specs.States.{state_start}
use Rattle.row_values.specs.declared.Row.{Row}
use Rattle.row_values.specs.declared.Answer.{Answer}
use Rattle.row_values.specs.Rows.{row_at}
use Rattle.row_rules.specs.Stepping.{Stepped}
use Rattle.row_rules.specs.declared.Ran.{Ran}
use Rattle.row_rules.specs.Rules.{gain_for, step_of}
use Rattle.row_rules.specs.Runs.{go_over, AtRow, OnStopped, OnRun, ended, then_rest}
use Rattle.row_rules.specs.Refusing.{IsF64, HandedOut}
use Rattle.row_rules.specs.History.{Accepted, state_at, stepped_at}
use Rattle.row_rules.specs.Theorems.{history_of, IsHistory}
use Rattle.job_contents.specs.declared.Bodies.{Bodies}
use Rattle.job_contents.specs.Contents.{second, third, contents_of, Lies}
use Rattle.job_settings.specs.Body.{settings_in}
use Rattle.job.specs.Load.{Loaded}
use Rattle.job.specs.Load.{settings_body, gains_body, records_body, rows_body, row_count, refusal_of, loaded_of}
use Rattle.job.specs.Load.{LoadTold}
use Rattle.job.specs.Parts.{bodies_judged}
pub use Rattle.job.specs.Load.{LoadSays}
use Rattle.job.specs.Jobs.{started_of, stepped_of, ran_of}
use Rattle.job.specs.Says.{StartSays, StartTold, JobStepSays, JobStepTold, JobRunSays, JobRunTold}

-- ---- a job that is taken

-- a part of the file: so many bytes from a place on, each the file's own
pub record Own (job : List ℕ) (place size : ℕ) (body : List ℕ) : Type 0 where
  pub its_length : length body ≡ size
  pub its_byte : (i : ℕ) → i < size → get_or body i 0 ≡ get_or job (place + i) 0

-- where record i of a file begins, and where the one after it does
abbrev pub record_place : Bodies → ℕ → ℕ
record_place b i = b.records + record_bytes * i

-- a record of the file with this id makes a slot a gap slot of a direction
pub record MakesInBy (job : List ℕ) (b : Bodies) (count : ℕ) (direction : Sequence → Bool) (slot id : ℕ) : Type 0 where
  pub which : ℕ
  pub among : which < count
  pub named : (sequence_at job (record_place b which)).id ≡ id
  pub direct : direction (sequence_at job (record_place b which)) ≡ true
  pub gap : InGap (sequence_at job (record_place b which)) slot

-- some record of the file does
pub record MakesIn (job : List ℕ) (b : Bodies) (count : ℕ) (direction : Sequence → Bool) (slot : ℕ) : Type 0 where
  pub id : ℕ
  pub by : MakesInBy job b count direction slot id

-- "which ids, as a set over 1 to 6, put it there": bit id − 1 of the set is 1 exactly where one with this id does, and
-- there is no other bit
pub record IdsIn (job : List ℕ) (b : Bodies) (count : ℕ) (direction : Sequence → Bool) (slot set : ℕ) : Type 0 where
  pub each : (id : ℕ) → 1 ≤ id → id ≤ id_most → is_in set id ≡ true ↔ MakesInBy job b count direction slot id
  pub small : set < 2 ^ id_most

-- all the records of body 2: as many as the length that the contents state, each read from the file's own bytes, and
-- each asked for every slot
pub record AllRecords (job : List ℕ) (b : Bodies) (count : ℕ) : Type 0 where
  pub stated : (second job).length ≡ record_bytes * count
  pub few : count ≤ records_most
  pub own : Own job b.records (record_bytes * count) (records_body job b)
  pub counted : count_of (records_body job b) ≡ count
  pub each : (i : ℕ) → i < count → record_of (records_body job b) i ≡ sequence_at job (record_place b i)
  pub fine : RecordsFine (records_body job b) count
  pub up : (slot : ℕ) → opens_uplink (slot_at (records_body job b) slot) ≡ true ↔ MakesIn job b count uplink slot
  pub down : (slot : ℕ) → opens_downlink (slot_at (records_body job b) slot) ≡ true ↔ MakesIn job b count downlink slot
  pub up_ids : (slot : ℕ) → IdsIn job b count uplink slot (slot_at (records_body job b) slot).up
  pub down_ids : (slot : ℕ) → IdsIn job b count downlink slot (slot_at (records_body job b) slot).down

pub record Takes (job : List ℕ) (s : Settings) (b : Bodies) : Type 0 where
  pub found : contents_of job ≡ Ok b
  pub lies : Lies job b
  pub settings : s ≡ settings_in (settings_body job b)
  pub settings_own : Own job b.settings settings_bytes (settings_body job b)
  pub ranged : SettingsIn s
  pub gains_own : Own job b.gains triple_bytes (gains_body job b)
  pub triple : TripleIn (triple_at (gains_body job b) 0)
  pub count : ℕ
  pub all : AllRecords job b count
  pub rows_own : Own job b.rows (row_bytes * row_count job b) (rows_body job b)
  pub rows_few : row_count job b ≤ rows_most

-- ---- a record left out

-- the file without its record i
abbrev pub without : List ℕ → Bodies → ℕ → List ℕ
without job b i = take (record_place b i) job ++ drop (record_place b (i + 1)) job

-- ---- a step and a run

-- a job's step is the step with its settings and every record of it
pub record StepsJob (job : List ℕ) (s : Settings) (b : Bodies) : Type 0 where
  pub started : started_of job ≡ Ok (state_start s)
  pub step : (st : State) (row : Row) → stepped_of job st row ≡ step_of s (gains_body job b) (records_body job b) st row
  -- and row after row of the file it is the file's history
  pub by_row : {n : ℕ} → n < row_count job b →
      Accepted (history_of s (gains_body job b) (records_body job b) (rows_body job b)) n →
      stepped_of job (state_at (history_of s (gains_body job b) (records_body job b) (rows_body job b)) n)
      (row_at (rows_body job b) n) ≡
      stepped_at (history_of s (gains_body job b) (records_body job b) (rows_body job b)) n

-- a run of a job that is taken
pub record RunsJob (job : List ℕ) (s : Settings) (b : Bodies) (out : List ℤ) : Type 0 where
  -- "10 | lent answers shorter than … numbers a row | numbers needed"; "10 asks for 8 numbers a row"
  pub ten : ran_of job out ≡ ended (Ran.Refused (refusal short_answers (answer_numbers * row_count job b))) out ↔
      length out < answer_numbers * row_count job b
  -- and else every row of the file with every record of it: the answers of the accepted rows, then what stood there
  pub rows_run : answer_numbers * row_count job b ≤ length out →
      ran_of job out ≡ then_rest out (go_over s (gain_for s (gains_body job b)) (slot_at (records_body job b)) (state_start s)
      (rows_body job b))
  -- a row that stops it is refused by 8 or 9, at its row
  pub stopped : OnStopped AtRow (ran_of job out).result
  -- and the run is the history of the file's rows
  pub history : IsHistory s (gains_body job b) (records_body job b) (rows_body job b)
      (go_over s (gain_for s (gains_body job b)) (slot_at (records_body job b)) (state_start s) (rows_body job b))

-- a claim on the refusal of a whole run
unfoldable pub OnWhole : (Refusal → Type 0) → Ran → Type 0
OnWhole P (Ran.Done st) = Unit {0}
OnWhole P (Ran.Stopped st r) = Unit {0}
OnWhole P (Ran.Refused r) = P r

-- a refusal of the whole run: 1 to 7 or 10, and every number of the buffer as it was
pub record Untouched (out left : List ℤ) (r : Refusal) : Type 0 where
  pub its_number : ((file_too_long ≤ r.number) × (r.number ≤ too_many_rows)) ⊎ (r.number ≡ short_answers)
  pub buffer : left ≡ out

-- ---- every theorem with its premises

pub record Theorems : Type 0 where
  -- refusals 1 to 7 exactly when stated, in the order of the table; what is refused so is refused alike by a start, a
  -- step and a run
  pub load : (job : List ℕ) (l : Loaded) → loaded_of job ≡ l ↔ LoadSays job l
  pub refused_start : (job : List ℕ) {r : Refusal} → loaded_of job ≡ Err r → started_of job ≡ Err r
  pub refused_step : (job : List ℕ) (st : State) (row : Row) {r : Refusal} → loaded_of job ≡ Err r →
      stepped_of job st row ≡ Err r
  pub refused_run : (job : List ℕ) (out : List ℤ) {r : Refusal} → loaded_of job ≡ Err r →
      ran_of job out ≡ ended (Ran.Refused r) out
  -- a job that is taken: all its records, none left out
  pub taken : (job : List ℕ) {s : Settings} {b : Bodies} → loaded_of job ≡ Ok (s, b) → Takes job s b
  -- dropping any record of it makes it shorter than its contents state, and it is refused: by the second entry where
  -- the second body no longer ends inside the file, and else by the third
  pub dropped : (job : List ℕ) {s : Settings} {b : Bodies} → loaded_of job ≡ Ok (s, b) → (i : ℕ) →
      record_bytes * i < (second job).length →
      loaded_of (without job b i) ≡ Err
      (refusal wrong_contents (when ltb (third job).length record_bytes then 2 else 3))
  -- two jobs with one table of contents are equally long where both are taken
  pub one_length : (j k : List ℕ) {s t : Settings} {b c : Bodies} → take contents_bytes j ≡ take contents_bytes k →
      loaded_of j ≡ Ok (s, b) → loaded_of k ≡ Ok (t, c) → length j ≡ length k
  -- two jobs with the same settings, triple and rows whose answers differ in a number have records that differ
  -- DECISIONS: promises-records-differ
  pub differ : (j k : List ℕ) {s : Settings} {b c : Bodies} → loaded_of j ≡ Ok (s, b) →
      loaded_of k ≡ Ok (s, c) →
      gains_body j b ≡ gains_body k c → rows_body j b ≡ rows_body k c →
      (out : List ℤ) (i : ℕ) → (get_or (ran_of j out).out i (pos 0) ≡ get_or (ran_of k out).out i (pos 0) → ⊥) →
      records_body j b ≡ records_body k c → ⊥
  -- steps and runs
  pub steps : (job : List ℕ) {s : Settings} {b : Bodies} → loaded_of job ≡ Ok (s, b) → StepsJob job s b
  pub runs : (job : List ℕ) {s : Settings} {b : Bodies} (out : List ℤ) → loaded_of job ≡ Ok (s, b) →
      RunsJob job s b out
  pub untouched : (job : List ℕ) (out : List ℤ) → OnWhole (Untouched out (ran_of job out).out) (ran_of job out).result
  -- "The ranges for 11 … hold for every state handed out by a load or a step"
  pub start_handed : (job : List ℕ) {s : Settings} {b : Bodies} → loaded_of job ≡ Ok (s, b) →
      HandedOut s (gains_body job b) (state_start s)
  pub step_handed : (job : List ℕ) {s : Settings} {b : Bodies} (st : State) (row : Row) {next : State} {a : Answer} →
      loaded_of job ≡ Ok (s, b) → IsF64 st →
      stepped_of job st row ≡ Ok (next, a) → HandedOut s (gains_body job b) next
  pub run_handed : (job : List ℕ) {s : Settings} {b : Bodies} (out : List ℤ) → loaded_of job ≡ Ok (s, b) →
      OnRun (HandedOut s (gains_body job b)) (ran_of job out).result
  -- each answer of a start, a step and a run exactly where its case says so
  pub start_said : (job : List ℕ) (x : Result State Refusal) → started_of job ≡ x ↔ StartSays job x
  pub step_said : (job : List ℕ) (st : State) (row : Row) → IsF64 st → (x : Stepped) →
      stepped_of job st row ≡ x ↔ JobStepSays job st row x
  pub run_said : (job : List ℕ) (out : List ℤ) (r : Ran) (after : List ℤ) →
      ran_of job out ≡ ended r after ↔ JobRunSays job out r after
  -- one answer
  pub one_load : (job : List ℕ) {x y : Loaded} → LoadTold job x → LoadTold job y → x ≡ y
  -- bodies that were found are judged as their job is loaded
  pub judged : (job : List ℕ) {b : Bodies} → contents_of job ≡ Ok b →
      bodies_judged b (settings_body job b) (records_body job b) (rows_body job b) ≡ loaded_of job
  pub one_judged : (b : Bodies) (settings records rows : List ℕ) {x y : Loaded} →
      x ≡ bodies_judged b settings records rows → y ≡ bodies_judged b settings records rows → x ≡ y
  pub one_refusal : (loaded : Loaded) {x y : Refusal} → x ≡ refusal_of loaded → y ≡ refusal_of loaded → x ≡ y
  pub one_start : (job : List ℕ) {x y : Result State Refusal} → StartTold job x → StartTold job y → x ≡ y
  pub one_step : (job : List ℕ) (st : State) (row : Row) {x y : Stepped} → JobStepTold job st row x →
      JobStepTold job st row y → x ≡ y
  pub one_run : (job : List ℕ) (out : List ℤ) {r t : Ran} {o p : List ℤ} → JobRunTold job out r o →
      JobRunTold job out t p → (r ≡ t) × (o ≡ p)
