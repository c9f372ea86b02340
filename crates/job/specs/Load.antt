-- "The job file": a load, refusals 1 to 7 in their order, and the parts of the file that are handed on.
-- RULES: file, refusals
-- Definitions, to be believed.
use Rattle.std.specs.Prelude.{ℕ, ◌+◌, ◌-◌, ◌/◌, ◌≤◌, ◌<◌, ◌≡◌, List, ltb, length, take, drop, Ok, Err, Result}
use Rattle.ground.specs.declared.Refusal.{Refusal}
use Rattle.ground.specs.Choice.{when◌then◌else◌}
use Rattle.constants.specs.Sizes.{triple_bytes, row_bytes, rows_most}
use Rattle.constants.specs.Refusals.{refusal, no_refusal, too_many_rows}
use Rattle.gap_records.specs.Records.{checked_of, RecordsSay}
use Rattle.job_settings.specs.declared.Settings.{Settings}
use Rattle.job_contents.specs.declared.Bodies.{Bodies}
use Rattle.job_contents.specs.Contents.{contents_of, ContentsSay, Lies}
use Rattle.job_settings.specs.Body.{settings_read, SettingsSay}

-- "Each body is a part of the file that starts in its middle": from one byte up to another
abbrev pub part : List ℕ → (start end : ℕ) → List ℕ
part job start end = take (end - start) (drop start job)

-- "Body 1 starts at byte 29, each later one where the one before ends, and body 3 ends the file."
abbrev pub settings_body : List ℕ → Bodies → List ℕ
settings_body job b = part job b.settings b.records

-- the triple, inside the settings
abbrev pub gains_body : List ℕ → Bodies → List ℕ
gains_body job b = part job b.gains (b.gains + triple_bytes)

abbrev pub records_body : List ℕ → Bodies → List ℕ
records_body job b = part job b.records b.rows

abbrev pub rows_body : List ℕ → Bodies → List ℕ
rows_body job b = part job b.rows (length job)

-- what a load answers: the settings and where the bodies lie, or a refusal
abbrev pub Loaded : Type 0
Loaded = Result (Settings × Bodies) Refusal

-- the page's number and place of each case: a refusal, and none where a job is taken
-- DECISIONS: refusals-none
unfoldable pub refusal_of : Loaded → Refusal
refusal_of (Ok (s, b)) = no_refusal
refusal_of (Err r) = r

-- each check, and what follows it where it refuses nothing
abbrev pub after_contents : Result Bodies Refusal → (Bodies → Loaded) → Loaded
after_contents (Ok b) next = next b
after_contents (Err r) next = Err r

abbrev pub after_settings : Result Settings Refusal → (Settings → Loaded) → Loaded
after_settings (Ok s) next = next s
after_settings (Err r) next = Err r

abbrev pub after_records : Result ℕ Refusal → Loaded → Loaded
after_records (Ok count) next = next
after_records (Err r) next = Err r

-- "Rows (2 bytes, 0 to 30,000 of them)": how many a file has
abbrev pub row_count : List ℕ → Bodies → ℕ
row_count job b = (length job - b.rows) / row_bytes

-- "7 | more than 30,000 rows, or … | 30,000"
-- DECISIONS: refusals-rows-always
unfoldable pub rows_checked : List ℕ → Settings → Bodies → Loaded
rows_checked job s b =
    when ltb rows_most (row_count job b) then Err (refusal too_many_rows rows_most) else Ok (s, b)

-- "Checked in this order": 1 and 2, 3, 4 to 6, 7
-- DECISIONS: refusals-load-order
unfoldable pub loaded_of : List ℕ → Loaded
loaded_of job =
    after_contents (contents_of job) λ b.
    after_settings (settings_read (settings_body job b)) λ s.
    after_records (checked_of (records_body job b)) (rows_checked job s b)

-- a claim on a job that is taken
unfoldable pub OnJob : (Settings → Bodies → Type 0) → Loaded → Type 0
OnJob P (Ok (s, b)) = P s b
OnJob P (Err r) = Unit {0}

-- what each case of a load says of the file: "Checked in this order", "Given exactly when"
pub data LoadSays (job : List ℕ) : Loaded → Type 0 where
  -- 1 and 2, by the contents
  contents : {r : Refusal} → ContentsSay job (Err r) → LoadSays job (Err r)
  -- 3, by the settings
  settings : {b : Bodies} {r : Refusal} → ContentsSay job (Ok b) →
      SettingsSay (settings_body job b) (Err r) → LoadSays job (Err r)
  -- 4, then 5 and 6 record by record
  records : {b : Bodies} {s : Settings} {r : Refusal} → ContentsSay job (Ok b) →
      SettingsSay (settings_body job b) (Ok s) →
      RecordsSay (records_body job b) (Err r) → LoadSays job (Err r)
  -- 7
  rows : {b : Bodies} {s : Settings} {n : ℕ} → ContentsSay job (Ok b) →
      SettingsSay (settings_body job b) (Ok s) →
      RecordsSay (records_body job b) (Ok n) → rows_most < row_count job b →
      LoadSays job (Err (refusal too_many_rows rows_most))
  -- and a job that is taken has none of them
  taken : {b : Bodies} {s : Settings} {n : ℕ} → ContentsSay job (Ok b) →
      SettingsSay (settings_body job b) (Ok s) →
      RecordsSay (records_body job b) (Ok n) → row_count job b ≤ rows_most → LoadSays job (Ok (s, b))

-- what a load promises: its answer, what this says, its number on the page, none or 1 to 7, and where a job is taken
-- that its bodies lie inside the file and end with it
pub record LoadTold (job : List ℕ) (answer : Loaded) : Type 0 where
  pub is : answer ≡ loaded_of job
  pub says : LoadSays job answer
  pub number : (refusal_of answer).number ≤ too_many_rows
  pub lies : OnJob (λ s b. Lies job b) answer
