-- W-202, writing jobs: the answer of the writer and every lent byte afterwards, for any three parts.
-- RULES: writing, refusals
-- Definitions, to be believed.
use Rattle.std.specs.Prelude.{ℕ, ◌%◌, ◌/◌, ◌≤◌, ◌<◌, ◌≡◌, List, ltb, length, Ok, Err, Result}
use Rattle.std.proofs.lemmas.List.Edits.{sets}
use Rattle.ground.specs.declared.Refusal.{Refusal}
use Rattle.ground.specs.Choice.{when◌then◌else◌}
use Rattle.constants.specs.Sizes.{file_most, settings_bytes, record_bytes, row_bytes, rows_most}
use Rattle.constants.specs.Refusals.{refusal, no_refusal, file_too_long, wrong_contents, too_many_rows, short_bytes}
use Rattle.gap_records.specs.Records.{RecordsSay}
use Rattle.job_settings.specs.declared.Settings.{Settings}
use Rattle.job_settings.specs.Body.{SettingsSay}
use Rattle.job.specs.Load.{Loaded}
use Rattle.job.specs.Load.{loaded_of}
use Rattle.job_file.specs.File.{file_of, file_size, Shaped}

-- how a writing ends, and the lent bytes afterwards
pub record End : Type 0 where
  pub result : Result ℕ Refusal
  pub out : List ℕ

abbrev pub ended : Result ℕ Refusal → List ℕ → End
ended result out = record { result = result; out = out }

-- the page's number and place of each case: a refusal, and none where a file is written
abbrev pub refusal_of : Result ℕ Refusal → Refusal
refusal_of (Ok size) = no_refusal
refusal_of (Err r) = r

-- "then 12 if the lent bytes are too few, at the size needed": a file from the first lent byte on, and the others as
-- they were
-- DECISIONS: writing-size-needed
unfoldable pub placed : (file out : List ℕ) → End
placed file out =
    when ltb (length out) (length file) then ended (Err (refusal short_bytes (length file))) out else
    ended (Ok (length file)) (sets out 0 file)

-- "Refusals: the reader's 1 to 7 for the file they make, then 12 …; on any of them nothing is written"
abbrev pub made_by : Loaded → (file out : List ℕ) → End
made_by (Ok (s, b)) file out = placed file out
made_by (Err r) file out = ended (Err r) out

-- "a writer of job files from settings, gap records and rows, as bytes": the file that they make, asked of the reader
unfoldable pub made_of : (kind : ℕ) (settings records rows out : List ℕ) → End
made_of kind settings records rows out =
    made_by (loaded_of (file_of kind settings records rows)) (file_of kind settings records rows) out

-- ---- the answer, case by case, by the parts alone

-- parts that the reader would take. No row is judged by its own bytes
-- DECISIONS: writing-rows-unjudged
pub record Right (kind : ℕ) (settings records rows : List ℕ) : Type 0 where
  pub shaped : Shaped kind settings records rows
  pub its_settings : Settings
  pub settings_good : SettingsSay settings (Ok its_settings)
  pub count : ℕ
  pub records_good : RecordsSay records (Ok count)
  pub rows_few : length rows / row_bytes ≤ rows_most

-- what each case says of the parts and of the lent bytes, before and after
pub data WriteSays (kind : ℕ) (settings records rows out : List ℕ) : Result ℕ Refusal → List ℕ → Type 0 where
  -- 1, then 2 at byte 0 and at each entry
  over : file_most < file_size settings records rows →
      WriteSays kind settings records rows out (Err (refusal file_too_long 0)) out
  other_kind : file_size settings records rows ≤ file_most → (kind ≡ 1 → ⊥) →
      WriteSays kind settings records rows out (Err (refusal wrong_contents 0)) out
  not_twelve : file_size settings records rows ≤ file_most → kind ≡ 1 → (length settings ≡ settings_bytes → ⊥) →
      WriteSays kind settings records rows out (Err (refusal wrong_contents 1)) out
  not_whole : file_size settings records rows ≤ file_most → kind ≡ 1 → length settings ≡ settings_bytes →
      (length records % record_bytes ≡ 0 → ⊥) →
      WriteSays kind settings records rows out (Err (refusal wrong_contents 2)) out
  not_even : file_size settings records rows ≤ file_most → kind ≡ 1 → length settings ≡ settings_bytes →
      length records % record_bytes ≡ 0 → (length rows % row_bytes ≡ 0 → ⊥) →
      WriteSays kind settings records rows out (Err (refusal wrong_contents 3)) out
  -- 3, by the settings
  settings_broken : Shaped kind settings records rows → {r : Refusal} → SettingsSay settings (Err r) →
      WriteSays kind settings records rows out (Err r) out
  -- 4, then 5 and 6 record by record
  records_broken : Shaped kind settings records rows → {s : Settings} → SettingsSay settings (Ok s) →
      {r : Refusal} → RecordsSay records (Err r) →
      WriteSays kind settings records rows out (Err r) out
  -- 7
  rows_many : Shaped kind settings records rows → {s : Settings} → SettingsSay settings (Ok s) →
      {n : ℕ} → RecordsSay records (Ok n) → rows_most < length rows / row_bytes →
      WriteSays kind settings records rows out (Err (refusal too_many_rows rows_most)) out
  -- 12
  short : Right kind settings records rows → length out < file_size settings records rows →
      WriteSays kind settings records rows out (Err (refusal short_bytes (file_size settings records rows))) out
  -- and else the file is written, and what follows it in the lent bytes stays
  written : Right kind settings records rows → file_size settings records rows ≤ length out →
      WriteSays kind settings records rows out (Ok (file_size settings records rows))
      (sets out 0 (file_of kind settings records rows))

-- what a writing promises: its answer and the lent bytes afterwards, and what these say
pub record WriteTold (kind : ℕ) (settings records rows out : List ℕ) (answer : Result ℕ Refusal) (after : List ℕ) : Type 0 where
  pub is : ended answer after ≡ made_of kind settings records rows out
  pub says : WriteSays kind settings records rows out answer after
