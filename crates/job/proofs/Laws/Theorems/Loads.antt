-- Refusals 1 to 7 exactly when stated, in the order of the table.
-- Assumes nothing.
use Rattle.std.specs.Prelude.{ℕ, ◌≤◌, ◌≡◌, ◌↔◌, List, ltb, Ok, Err, Result}
use Rattle.std.proofs.Math.Path.{refl}
use Rattle.std.proofs.Common.{sym, subst, arith}
use Rattle.std.proofs.Math.Logic.{⊎_elim}
use borrow.Author.Tests.{ltb-true, ltb-false, lt-ltb, le-ltb}
use Rattle.std.proofs.Math.Dec.{lit≤}
use Rattle.ground.proofs.Laws.OnAnswers.{one_answer}
use Rattle.ground.proofs.Laws.Choice.{either}
use Rattle.constants.specs.Sizes.{rows_most}
use Rattle.constants.specs.Refusals.{wrong_settings, too_many_records, repeated_id, too_many_rows}
use Rattle.gap_records.specs.Records.{checked_of, RecordsSay}
use Rattle.gap_records.proofs.Laws.Records.{checked_exactly, check_number}
use Rattle.job_settings.specs.declared.Settings.{Settings}
use Rattle.job_contents.specs.declared.Bodies.{Bodies}
use Rattle.job_contents.specs.Contents.{contents_of, ContentsSay, Lies}
use Rattle.job_contents.proofs.Laws.Contents.{contents_exactly, contents_number}
use Rattle.job_settings.specs.Body.{settings_read, SettingsSay}
use Rattle.job_settings.proofs.Laws.Body.{read_exactly, settings_number}
use Rattle.job.specs.Load.{Loaded}
use Rattle.job.specs.Load.{settings_body, records_body, row_count, after_contents, after_settings, after_records, rows_checked, loaded_of}
use Rattle.job.specs.Load.{OnJob, refusal_of, LoadSays, LoadTold}
use Rattle.ground.specs.declared.Refusal.{Refusal}

module _ (job : List ℕ) where
  in_rows : {b : Bodies} {s : Settings} {n : ℕ} → ContentsSay job (Ok b) → SettingsSay (settings_body job b) (Ok s) →
      RecordsSay (records_body job b) (Ok n) → LoadSays job (rows_checked job s b)
  unfolding rows_checked
  in_rows {b} {n} w x y =
      either (LoadSays job) (ltb rows_most (row_count job b)) (λ e. LoadSays.rows {n = n} w x y (ltb-true rows_most (row_count job b) e))
      (λ e. LoadSays.taken {n = n} w x y (ltb-false rows_most (row_count job b) e))

  in_records : {b : Bodies} {s : Settings} → ContentsSay job (Ok b) → SettingsSay (settings_body job b) (Ok s) →
      (c : Result ℕ Refusal) → checked_of (records_body job b) ≡ c → LoadSays job (after_records c (rows_checked job s b))
  in_records {b} w x (Ok n) e = in_rows {n = n} w x ((checked_exactly (records_body job b) (Ok n)).0 e)
  in_records {b} w x (Err r) e = LoadSays.records w x ((checked_exactly (records_body job b) (Err r)).0 e)

  in_settings : {b : Bodies} → ContentsSay job (Ok b) → (x : Result Settings Refusal) → settings_read (settings_body job b) ≡ x →
      LoadSays job (after_settings x (λ s. after_records (checked_of (records_body job b)) (rows_checked job s b)))
  in_settings {b} w (Ok s) e = in_records w ((read_exactly (settings_body job b) (Ok s)).0 e) (checked_of (records_body job b)) refl
  in_settings {b} w (Err r) e = LoadSays.settings w ((read_exactly (settings_body job b) (Err r)).0 e)

  in_contents : (c : Result Bodies Refusal) → contents_of job ≡ c →
      LoadSays job (after_contents c (λ b. after_settings (settings_read (settings_body job b))
      (λ s. after_records (checked_of (records_body job b)) (rows_checked job s b))))
  in_contents (Ok b) e = in_settings ((contents_exactly job (Ok b)).0 e) (settings_read (settings_body job b)) refl
  in_contents (Err r) e = LoadSays.contents ((contents_exactly job (Err r)).0 e)

  says : LoadSays job (loaded_of job)
  unfolding loaded_of
  says = in_contents (contents_of job) refl

  answer : {l : Loaded} → LoadSays job l → loaded_of job ≡ l
  unfolding loaded_of rows_checked
  answer (LoadSays.contents w) = rw ((contents_exactly job _).1 w)
  answer (LoadSays.settings {b} w x) = rw ((contents_exactly job _).1 w, (read_exactly (settings_body job b) _).1 x)
  answer (LoadSays.records {b} {r} w x y) =
      rw ((contents_exactly job _).1 w, (read_exactly (settings_body job b) _).1 x, (checked_exactly (records_body job b) (Err r)).1 y)
  answer (LoadSays.rows {b} {n} w x y h) =
      rw (
        (contents_exactly job _).1 w,
        (read_exactly (settings_body job b) _).1 x,
        (checked_exactly (records_body job b) (Ok n)).1 y,
        lt-ltb rows_most (row_count job b) h,
      )
  answer (LoadSays.taken {b} {n} w x y h) =
      rw (
        (contents_exactly job _).1 w,
        (read_exactly (settings_body job b) _).1 x,
        (checked_exactly (records_body job b) (Ok n)).1 y,
        le-ltb rows_most (row_count job b) h,
      )

  pub load_exactly : (l : Loaded) → loaded_of job ≡ l ↔ LoadSays job l
  load_exactly l = (λ e. subst (LoadSays job) e says, answer)

  pub load_number : {l : Loaded} → LoadSays job l → (refusal_of l).number ≤ too_many_rows
  unfolding refusal_of
  load_number (LoadSays.contents w) = omega (arith, contents_number job w)
  load_number (LoadSays.settings {b} {r} w x) =
      ⊎_elim (λ (e : r.number ≡ 0). omega arith) (λ (e : r.number ≡ wrong_settings). omega arith) (settings_number (settings_body job b) x)
  load_number (LoadSays.records {b} {r} w x y) =
      ⊎_elim (λ (e : r.number ≡ 0). omega arith) (λ (h : (too_many_records ≤ r.number) × (r.number ≤ repeated_id)). omega (arith, h.1))
      (check_number (records_body job b) (Err r) y)
  load_number (LoadSays.rows w x y h) = lit≤ tt
  load_number (LoadSays.taken w x y h) = lit≤ tt

  -- so that a load says what it promises, and no other answer is promised
  pub load_told : {l : Loaded} → l ≡ loaded_of job → OnJob (λ s b. Lies job b) l → LoadTold job l
  load_told {l} e h = let w = (load_exactly l).0 (sym e) in record { is = e; says = w; number = load_number w; lies = h }

  pub one_load : {l m : Loaded} → LoadTold job l → LoadTold job m → l ≡ m
  one_load t u = one_answer t.is u.is
