-- That the bodies of a job follow each other inside the file, and what a load says of them.
-- Assumes nothing.
use Rattle.std.specs.Prelude.{ℕ, ◌-◌, ◌/◌, ◌≡◌, List, ltb, length, Ok, Err, Result}
use Rattle.std.proofs.Common.{sym, ◌∙◌, subst, arith, length-take, length-drop}
use Rattle.ground.specs.Choice.{when◌then◌else◌}
use Rattle.ground.proofs.Laws.Choice.{either}
use Rattle.constants.specs.Sizes.{row_bytes, rows_most}
use Rattle.constants.specs.Refusals.{refusal, too_many_rows}
use Rattle.gap_records.specs.Records.{checked_of}
use Rattle.job_settings.specs.Body.{settings_read}
use Rattle.job_settings.specs.declared.Settings.{Settings}
use Rattle.job_contents.specs.declared.Bodies.{Bodies}
use Rattle.job_contents.specs.Contents.{contents_of, Lies}
use Rattle.job_contents.proofs.Laws.Contents.{contents_lie}
use Rattle.job.specs.Load.{Loaded}
use Rattle.job.specs.Load.{settings_body, records_body, rows_body, after_settings, after_records, rows_checked, loaded_of, OnJob, LoadTold}
use Rattle.job.specs.Parts.{Inside, bodies_judged}
use Rattle.ground.specs.declared.Refusal.{Refusal}

within : {job : List ℕ} {b : Bodies} → Lies job b → Inside job b
within l =
    record {
      settings = omega (arith, l.settings);
      gains = l.triple;
      records = omega (arith, l.records);
      rows = omega (arith, l.rows);
    }

-- where the contents were found, and where a job was loaded
pub found_lies : {job : List ℕ} {c : Result Bodies Refusal} {b : Bodies} → c ≡ contents_of job → c ≡ Ok b → Lies job b
found_lies {job} e g = contents_lie job (sym e ∙ g)

pub found_inside : {job : List ℕ} {c : Result Bodies Refusal} {b : Bodies} → c ≡ contents_of job → c ≡ Ok b → Inside job b
found_inside e g = within (found_lies e g)

pub loaded_inside : {job : List ℕ} {l : Loaded} {s : Settings} {b : Bodies} → LoadTold job l → l ≡ Ok (s, b) → Inside job b
unfolding OnJob
loaded_inside {job} t g = within (subst (OnJob (λ s b. Lies job b)) g t.lies)

-- ---- the load of a job whose contents were found, by its bodies

rows_long : (job : List ℕ) {b : Bodies} → Inside job b → length (rows_body job b) ≡ length job - b.rows
rows_long job {b} i = omega (arith, i.rows, length-take {A = ℕ}, length-drop {A = ℕ})

judged_same : (job : List ℕ) {b : Bodies} → Inside job b →
    bodies_judged b (settings_body job b) (records_body job b) (rows_body job b)
    ≡ after_settings (settings_read (settings_body job b)) (λ s. after_records (checked_of (records_body job b)) (rows_checked job s b))
unfolding bodies_judged rows_checked
judged_same job i = rw (rows_long job i)

pub judged_load : (job : List ℕ) {b : Bodies} → contents_of job ≡ Ok b →
    bodies_judged b (settings_body job b) (records_body job b) (rows_body job b) ≡ loaded_of job
unfolding loaded_of
judged_load job e = rw e (judged_same job (within (contents_lie job e)))

-- what holds of the bodies holds of a job that is taken
on_records : (P : Bodies → Type 0) {b : Bodies} (s : Settings) (c : Result ℕ Refusal) (rows : List ℕ) → P b →
    OnJob (λ s b. P b) (after_records c (when ltb rows_most (length rows / row_bytes) then Err (refusal too_many_rows rows_most) else Ok (s, b)))
unfolding OnJob
on_records P s (Err r) rows p = tt
on_records P {b} s (Ok n) rows p = either (OnJob (λ s b. P b)) (ltb rows_most (length rows / row_bytes)) (λ _. tt) (λ _. p)

on_settings : (P : Bodies → Type 0) {b : Bodies} (x : Result Settings Refusal) (records rows : List ℕ) → P b →
    OnJob (λ s b. P b)
    (after_settings x λ s. after_records (checked_of records) (when ltb rows_most (length rows / row_bytes)
    then Err (refusal too_many_rows rows_most) else Ok (s, b)))
unfolding OnJob
on_settings P (Err r) records rows p = tt
on_settings P (Ok s) records rows p = on_records P s (checked_of records) rows p

pub judged_on : (P : Bodies → Type 0) {b : Bodies} (settings records rows : List ℕ) → P b →
    OnJob (λ s b. P b) (bodies_judged b settings records rows)
unfolding bodies_judged
judged_on P settings records rows p = on_settings P (settings_read settings) records rows p
