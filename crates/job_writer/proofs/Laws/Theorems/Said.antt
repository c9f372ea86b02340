-- Each answer of the writer exactly where its case says so of the parts and of the lent bytes.
-- Assumes nothing.
use Rattle.std.specs.Prelude.{ℕ, ◌/◌, ◌≤◌, ◌<◌, ◌≡◌, refl, ◌↔◌, List, ltb, length, Ok, Err, Result}
use Rattle.std.proofs.Math.Path.{sym, ap, subst}
use Rattle.std.proofs.Common.{◌∙◌, arith}
use borrow.Author.Tests.{ltb-true, ltb-false, lt-ltb, le-ltb}
use Rattle.std.proofs.lemmas.List.Edits.{sets}
use Rattle.ground.specs.declared.Refusal.{Refusal}
use Rattle.ground.proofs.Laws.OnAnswers.{one_answer}
use Rattle.ground.specs.Choice.{when◌then◌else◌}
use Rattle.ground.proofs.Laws.Choice.{either, if_true, if_false}
use Rattle.constants.specs.Sizes.{row_bytes, rows_most}
use Rattle.constants.specs.Refusals.{refusal, too_many_rows, short_bytes}
use Rattle.gap_records.specs.Records.{checked_of, RecordsSay}
use Rattle.gap_records.proofs.Laws.Records.{checked_exactly}
use Rattle.job_contents.specs.declared.Bodies.{Bodies}
use Rattle.job_contents.specs.Contents.{contents_of}
use Rattle.job_settings.specs.declared.Settings.{Settings}
use Rattle.job_settings.specs.Body.{settings_read, SettingsSay}
use Rattle.job_settings.proofs.Laws.Body.{read_exactly}
use Rattle.job.specs.Load.{Loaded}
use Rattle.job.specs.Load.{after_contents, after_settings, after_records, loaded_of, OnJob}
use Rattle.job_file.specs.File.{file_size, Shaped}
use Rattle.job_file.proofs.Laws.File.{file_length, file_over, file_kind, file_settings, file_records, file_rows_lem, file_found}
use Rattle.job_writer.specs.Writing.{End, ended, placed, made_by, made_of, Right, WriteSays, WriteTold}
use Rattle.job.specs.Parts.{bodies_judged}
use Rattle.job_writer.specs.Parts.{contents_by, loaded_by}
use Rattle.job_writer.proofs.Laws.Parts.{file, bodies, by_contents, contents_parts, loaded_parts}

module _ (kind : ℕ) (settings records rows : List ℕ) where
  -- ---- the load, where the parts are as a case says

  contents_refused : {r : Refusal} → contents_of (file kind settings records rows) ≡ Err r →
      loaded_of (file kind settings records rows) ≡ Err r
  unfolding loaded_of
  contents_refused e = rw e

  -- the contents of parts of the right shape are found
  found : Shaped kind settings records rows →
      contents_by kind (length settings) (length records) (length rows) ≡ Ok (bodies kind settings records rows)
  found h = sym (contents_parts kind settings records rows) ∙ file_found kind settings records rows h

  settings_refused : {r : Refusal} → Shaped kind settings records rows → SettingsSay settings (Err r) →
      loaded_of (file kind settings records rows) ≡ Err r
  unfolding loaded_by bodies_judged
  settings_refused {r} h x = loaded_parts kind settings records rows ∙ rw (found h, (read_exactly settings (Err r)).1 x)

  records_refused : {s : Settings} {r : Refusal} → Shaped kind settings records rows → SettingsSay settings (Ok s) →
      RecordsSay records (Err r) → loaded_of (file kind settings records rows) ≡ Err r
  unfolding loaded_by bodies_judged
  records_refused {s} {r} h x y =
      loaded_parts kind settings records rows
      ∙ rw (found h, (read_exactly settings (Ok s)).1 x, (checked_exactly records (Err r)).1 y)

  rows_refused : {s : Settings} {n : ℕ} → Shaped kind settings records rows → SettingsSay settings (Ok s) →
      RecordsSay records (Ok n) → rows_most < length rows / row_bytes →
      loaded_of (file kind settings records rows) ≡ Err (refusal too_many_rows rows_most)
  unfolding loaded_by bodies_judged
  rows_refused {s} {n} h x y many =
      loaded_parts kind settings records rows
      ∙ rw (
        found h,
        (read_exactly settings (Ok s)).1 x,
        (checked_exactly records (Ok n)).1 y,
        lt-ltb rows_most (length rows / row_bytes) many,
      )

  -- right parts are taken
  pub right_taken : (h : Right kind settings records rows) →
      loaded_of (file kind settings records rows) ≡ Ok (h.its_settings, (bodies kind settings records rows))
  unfolding loaded_by bodies_judged
  right_taken h =
      loaded_parts kind settings records rows
      ∙ rw (
        found h.shaped,
        (read_exactly settings (Ok h.its_settings)).1 h.settings_good,
        (checked_exactly records (Ok h.count)).1 h.records_good,
        le-ltb rows_most (length rows / row_bytes) h.rows_few,
      )

  -- ---- the load, and what it says of the parts

  data LoadOfParts : Loaded → Type 0 where
    refused : {r : Refusal} → ((out : List ℕ) → WriteSays kind settings records rows out (Err r) out) → LoadOfParts (Err r)
    taken : (h : Right kind settings records rows) → LoadOfParts (Ok (h.its_settings, (bodies kind settings records rows)))

  abbrev rows_last : Settings → Bodies → Loaded
  rows_last s b = when ltb rows_most (length rows / row_bytes) then Err (refusal too_many_rows rows_most) else Ok (s, b)

  in_records : Shaped kind settings records rows → {s : Settings} → SettingsSay settings (Ok s) → (c : Result ℕ Refusal) → checked_of records ≡ c →
      LoadOfParts (after_records c (rows_last s (bodies kind settings records rows)))
  in_records h x (Err r) e = LoadOfParts.refused (λ out. WriteSays.records_broken h x ((checked_exactly records (Err r)).0 e))
  in_records h {s} x (Ok n) e =
      let y = (checked_exactly records (Ok n)).0 e in
      either LoadOfParts (ltb rows_most (length rows / row_bytes)) (λ f. LoadOfParts.refused (λ out. WriteSays.rows_many h x {n = n} y (ltb-true _ _ f)))
      (λ f. LoadOfParts.taken (record {
        shaped = h;
        its_settings = s;
        settings_good = x;
        count = n;
        records_good = y;
        rows_few = ltb-false _ _ f;
      }))

  in_settings : Shaped kind settings records rows → (x : Result Settings Refusal) → settings_read settings ≡ x →
      LoadOfParts (after_settings x λ s. after_records (checked_of records) (rows_last s (bodies kind settings records rows)))
  in_settings h (Err r) e = LoadOfParts.refused (λ out. WriteSays.settings_broken h ((read_exactly settings (Err r)).0 e))
  in_settings h (Ok s) e = in_records h ((read_exactly settings (Ok s)).0 e) (checked_of records) refl

  load_says : LoadOfParts (loaded_of (file kind settings records rows))
  unfolding loaded_by bodies_judged
  load_says =
      subst LoadOfParts (sym (loaded_parts kind settings records rows))
      (by_contents kind settings records rows
      (λ (c : Result Bodies Refusal). LoadOfParts (after_contents c λ b. after_settings (settings_read settings) λ s. after_records (checked_of records) (rows_last s b)))
      (λ h. LoadOfParts.refused (λ out. WriteSays.over h)) (λ few f. LoadOfParts.refused (λ out. WriteSays.other_kind few f))
      (λ few k f. LoadOfParts.refused (λ out. WriteSays.not_twelve few k f)) (λ few k s f. LoadOfParts.refused (λ out. WriteSays.not_whole few k s f))
      (λ few k s r f. LoadOfParts.refused (λ out. WriteSays.not_even few k s r f)) (λ h. in_settings h (settings_read settings) refl))

  on_job : {l : Loaded} → LoadOfParts l → OnJob (λ s b. Right kind settings records rows) l
  unfolding OnJob
  on_job (LoadOfParts.refused w) = tt
  on_job (LoadOfParts.taken h) = h

  -- what is taken is right
  pub taken_right : {s : Settings} {b : Bodies} → loaded_of (file kind settings records rows) ≡ Ok (s, b) → Right kind settings records rows
  unfolding OnJob
  taken_right e = subst (OnJob (λ s b. Right kind settings records rows)) e (on_job load_says)

  module _ (out : List ℕ) where
    -- ---- what is made, by what the load says

    pub refused_made : {r : Refusal} → loaded_of (file kind settings records rows) ≡ Err r →
        made_of kind settings records rows out ≡ ended (Err r) out
    unfolding made_of
    refused_made e = ap (λ (l : Loaded). made_by l (file kind settings records rows) out) e

    taken_placed : {s : Settings} {b : Bodies} → loaded_of (file kind settings records rows) ≡ Ok (s, b) →
        made_of kind settings records rows out ≡ placed (file kind settings records rows) out
    unfolding made_of
    taken_placed e = ap (λ (l : Loaded). made_by l (file kind settings records rows) out) e

    pub short_made : {s : Settings} {b : Bodies} → loaded_of (file kind settings records rows) ≡ Ok (s, b) →
        length out < file_size settings records rows →
        made_of kind settings records rows out ≡ ended (Err (refusal short_bytes (file_size settings records rows))) out
    unfolding placed
    short_made e h =
        let n = file_length kind settings records rows in
        taken_placed e
        ∙ sym (if_true _ _ (lt-ltb (length out) (length (file kind settings records rows)) (omega arith)))
        ∙ ap (λ (k : ℕ). ended (Err (refusal short_bytes k)) out) n

    pub file_made : {s : Settings} {b : Bodies} → loaded_of (file kind settings records rows) ≡ Ok (s, b) →
        file_size settings records rows ≤ length out →
        made_of kind settings records rows out ≡
        ended (Ok (file_size settings records rows)) (sets out 0 (file kind settings records rows))
    unfolding placed
    file_made e h =
        let n = file_length kind settings records rows in
        taken_placed e
        ∙ sym (if_false _ _ (le-ltb (length out) (length (file kind settings records rows)) (omega arith)))
        ∙ ap (λ (k : ℕ). ended (Ok k) (sets out 0 (file kind settings records rows))) n

    -- ---- each answer is what it says

    abbrev Says : End → Type 0
    Says e = WriteSays kind settings records rows out e.result e.out

    in_room : Right kind settings records rows → Says (placed (file kind settings records rows) out)
    unfolding placed
    in_room h =
        rw (file_length kind settings records rows)
        (either Says (ltb (length out) (file_size settings records rows)) (λ e. WriteSays.short h (ltb-true _ _ e)) (λ e. WriteSays.written h (ltb-false _ _ e)))

    by_load : {l : Loaded} → LoadOfParts l → Says (made_by l (file kind settings records rows) out)
    by_load (LoadOfParts.refused w) = w out
    by_load (LoadOfParts.taken h) = in_room h

    pub says : Says (made_of kind settings records rows out)
    unfolding made_of
    says = by_load load_says

    -- and what says so is the answer
    pub answered : {answer : Result ℕ Refusal} {after : List ℕ} → WriteSays kind settings records rows out answer after →
        made_of kind settings records rows out ≡ ended answer after
    answered (WriteSays.over h) = refused_made (contents_refused (file_over kind settings records rows h))
    answered (WriteSays.other_kind few f) = refused_made (contents_refused (file_kind kind settings records rows few f))
    answered (WriteSays.not_twelve few k f) = refused_made (contents_refused (file_settings kind settings records rows few k f))
    answered (WriteSays.not_whole few k s f) = refused_made (contents_refused (file_records kind settings records rows few k s f))
    answered (WriteSays.not_even few k s r f) = refused_made (contents_refused (file_rows_lem kind settings records rows few k s r f))
    answered (WriteSays.settings_broken h x) = refused_made (settings_refused h x)
    answered (WriteSays.records_broken h {s} x {r} y) = refused_made (records_refused {s = s} {r = r} h x y)
    answered (WriteSays.rows_many h {s} x {n} y many) = refused_made (rows_refused {s = s} {n = n} h x y many)
    answered (WriteSays.short h less) = short_made (right_taken h) less
    answered (WriteSays.written h room) = file_made (right_taken h) room

    pub made_exactly : (answer : Result ℕ Refusal) (after : List ℕ) → made_of kind settings records rows out ≡ ended answer after ↔
        WriteSays kind settings records rows out answer after
    made_exactly answer after = (λ e. subst Says e says, answered)

    -- so that a writing says what it promises, and no other answer is promised
    pub write_told : {answer : Result ℕ Refusal} {after : List ℕ} → ended answer after ≡ made_of kind settings records rows out →
        WriteTold kind settings records rows out answer after
    write_told {answer} {after} e = record { is = e; says = (made_exactly answer after).0 (sym e) }

    pub one_made : {x y : Result ℕ Refusal} {o p : List ℕ} → WriteTold kind settings records rows out x o → WriteTold kind settings records rows out y p →
        (x ≡ y) × (o ≡ p)
    one_made t u = let q = one_answer t.is u.is in (ap (λ (e : End). e.result) q, ap (λ (e : End). e.out) q)
