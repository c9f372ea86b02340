-- The laws of the parts: a load of the file that they make says what is asked of them alone.
-- Assumes nothing.
use Rattle.std.specs.Prelude.{ℕ, ◌+◌, ◌-◌, ◌/◌, ◌%◌, ◌≤◌, ◌<◌, ◌≡◌, refl, true, false, not, List, eqb, length, take, drop, Ok, Err, Result}
use Rattle.std.proofs.Common.{ap, ◌∙◌, arith}
use borrow.Author.Tests.{ltb-true, ltb-false, eqb-true, eq-eqb, not-false}
use Rattle.std.proofs.Math.Dec.{ltb}
use Rattle.std.proofs.Math.Seq.{take-length}
use Rattle.ground.specs.Choice.{when◌then◌else◌}
use Rattle.ground.proofs.Laws.Choice.{clash, either}
use Rattle.constants.specs.Sizes.{file_most, contents_bytes, settings_bytes, record_bytes, row_bytes, rows_most}
use Rattle.constants.specs.Refusals.{refusal, too_many_rows}
use Rattle.gap_records.specs.Records.{checked_of}
use Rattle.job_contents.specs.declared.Bodies.{Bodies}
use Rattle.job_contents.specs.Contents.{contents_of, bodies_at}
use Rattle.job_settings.specs.declared.Settings.{Settings}
use Rattle.job_settings.specs.Body.{settings_read}
use Rattle.job.specs.Load.{settings_body, records_body, rows_body, after_contents, after_settings, after_records, rows_checked, loaded_of}
use Rattle.job_file.specs.File.{file_of, file_size, Shaped}
use Rattle.job_file.proofs.Laws.File.{file_length, file_over, file_kind, file_settings, file_records, file_rows_lem, file_found}
use Rattle.job_file.proofs.Laws.File.{settings_part, records_part, rows_part_lem}
use Rattle.job.specs.Parts.{bodies_judged}
use Rattle.job_writer.specs.Parts.{contents_by, loaded_by}
use Rattle.ground.specs.declared.Refusal.{Refusal}

-- a test of two numbers that should be one
pub one_number : (m n : ℕ) → not (eqb m n) ≡ false → m ≡ n
one_number m n e = eqb-true m n (not-false _ e)

pub two_numbers : (m n : ℕ) → not (eqb m n) ≡ true → m ≡ n → ⊥
two_numbers m n e p = let f : not (eqb m n) ≡ false = rw (eq-eqb m n p) in clash e f

module _ (kind : ℕ) (settings records rows : List ℕ) where
  abbrev pub file : List ℕ
  file = file_of kind settings records rows

  -- where the bodies of it begin
  abbrev pub bodies : Bodies
  bodies = bodies_at (contents_bytes + length settings) (contents_bytes + length settings + length records)

  -- a claim on the contents holds where it holds in each case, the parts being what the case says
  pub by_contents : (P : Result Bodies Refusal → Type 0) → (file_most < file_size settings records rows → P (Err (refusal 1 0))) →
      (file_size settings records rows ≤ file_most → (kind ≡ 1 → ⊥) → P (Err (refusal 2 0))) →
      (file_size settings records rows ≤ file_most → kind ≡ 1 → (length settings ≡ settings_bytes → ⊥) → P (Err (refusal 2 1))) →
      (file_size settings records rows ≤ file_most → kind ≡ 1 → length settings ≡ settings_bytes → (length records % record_bytes ≡ 0 → ⊥) →
      P (Err (refusal 2 2))) →
      (file_size settings records rows ≤ file_most → kind ≡ 1 → length settings ≡ settings_bytes → length records % record_bytes ≡ 0 →
      (length rows % row_bytes ≡ 0 → ⊥) → P (Err (refusal 2 3))) →
      (Shaped kind settings records rows → P (Ok bodies)) →
      P (contents_by kind (length settings) (length records) (length rows))
  unfolding contents_by
  by_contents P one two-0 two-1 two-2 two-3 found =
      either P (ltb file_most (file_size settings records rows)) (λ e. one (ltb-true _ _ e)) λ a.
      let few = ltb-false file_most (file_size settings records rows) a in
      either P (not (eqb kind 1)) (λ e. two-0 few (two_numbers kind 1 e)) λ b.
      let k = one_number kind 1 b in
      either P (not (eqb (length settings) settings_bytes)) (λ e. two-1 few k (two_numbers (length settings) settings_bytes e)) λ c.
      let s = one_number (length settings) settings_bytes c in
      either P (not (eqb (length records % record_bytes) 0)) (λ e. two-2 few k s (two_numbers (length records % record_bytes) 0 e)) λ d.
      let r = one_number (length records % record_bytes) 0 d in
      either P (not (eqb (length rows % row_bytes) 0)) (λ e. two-3 few k s r (two_numbers (length rows % row_bytes) 0 e)) λ f.
      found (record { few = few; its_kind = k; twelve = s; whole = r; even = one_number (length rows % row_bytes) 0 f })

  pub contents_parts : contents_of file ≡ contents_by kind (length settings) (length records) (length rows)
  contents_parts =
      by_contents (λ (c : Result Bodies Refusal). contents_of file ≡ c) (file_over kind settings records rows) (file_kind kind settings records rows)
      (file_settings kind settings records rows) (file_records kind settings records rows) (file_rows_lem kind settings records rows)
      (file_found kind settings records rows)

  -- ---- its bodies are the parts

  pub settings_back : settings_body file bodies ≡ settings
  settings_back =
      let n : contents_bytes + length settings - contents_bytes ≡ length settings = omega arith in
      ap (λ (k : ℕ). take k (drop contents_bytes file)) n ∙ settings_part kind settings records rows

  pub records_back : records_body file bodies ≡ records
  records_back =
      let n : contents_bytes + length settings + length records - (contents_bytes + length settings) ≡ length records = omega arith in
      ap (λ (k : ℕ). take k (drop (contents_bytes + length settings) file)) n ∙ records_part kind settings records rows

  rows_length : length file - (contents_bytes + length settings + length records) ≡ length rows
  rows_length = omega (arith, file_length kind settings records rows)

  pub rows_back : rows_body file bodies ≡ rows
  rows_back =
      ap (λ (k : ℕ). take k (drop (contents_bytes + length settings + length records) file)) rows_length
      ∙ ap (λ (l : List ℕ). take (length rows) l) (rows_part_lem kind settings records rows)
      ∙ take-length rows

  -- ---- so that a load of it asks the parts

  checked_parts : (s : Settings) → rows_checked file s bodies
      ≡ (when ltb rows_most (length rows / row_bytes) then Err (refusal too_many_rows rows_most) else Ok (s, bodies))
  unfolding rows_checked
  checked_parts s = rw rows_length

  pub loaded_parts : loaded_of file ≡ loaded_by kind settings records rows
  unfolding loaded_of loaded_by bodies_judged
  loaded_parts =
      rw contents_parts
      (by_contents
      (λ (c : Result Bodies Refusal). after_contents c (λ b. after_settings (settings_read (settings_body file b)) λ s.
      after_records (checked_of (records_body file b)) (rows_checked file s b))
      ≡ after_contents c (λ b. after_settings (settings_read settings) λ s. after_records (checked_of records)
      (when ltb rows_most (length rows / row_bytes) then Err (refusal too_many_rows rows_most) else Ok (s, b))))
      (λ _. refl) (λ _ _. refl) (λ _ _ _. refl) (λ _ _ _ _. refl) (λ _ _ _ _ _. refl)
      (λ _. simp (settings_back, records_back, checked_parts)))
