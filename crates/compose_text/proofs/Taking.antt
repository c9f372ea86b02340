-- A line after those before it: what the numbers and the buffer stand for then.
-- Assumes nothing.
use Prim.Native.Nat.{ℕ, zero, suc, ◌+◌, ◌≤◌, ◌<◌}
use Rattle.std.proofs.Math.Path.{◌≡◌, refl, sym, ap, ◌∙◌}
use Rattle.std.proofs.Common.{List, [], ◌++◌, append_assoc, append-nil, Some, None}
use Rattle.std.proofs.Math.Nat.{add_assoc}
use native.Mathlib.Omega.{arith}
use borrow.Author.Tests.{lt-ltb, le-ltb, eq-eqb, ne_eqb}
use Rattle.std.proofs.Math.ListN.{length, length-append}
use Rattle.constants.specs.Sizes.{record_bytes}
use Rattle.power.specs.declared.Triple.{Triple}
use Rattle.gap_records.specs.declared.Sequence.{Sequence}
use Rattle.job_settings.specs.declared.Settings.{Settings}
use Rattle.job_file.specs.Numbers.{record_bytes_of}
use Rattle.compose_lines.specs.declared.Item.{Item}
use Rattle.compose_text.specs.declared.Stage.{Stage}
use Rattle.compose_text.specs.declared.Standing.{Standing}
use Rattle.compose_text.specs.Composing.{Progress, rows_bytes, advanced}
use Rattle.compose_text.specs.Standing.{Appended, stage_number, Stands, Steps, line_adds}
use Rattle.compose_text.proofs.Appends.{rows_length}

-- ---- a stage and its number

stage_at : ℕ → Stage
stage_at zero = Stage.Nothing
stage_at (suc zero) = Stage.Settings
stage_at (suc (suc zero)) = Stage.Gain
stage_at (suc (suc (suc n))) = Stage.Rows

there_and_back : (s : Stage) → stage_at (stage_number s) ≡ s
unfolding stage_at
there_and_back (Stage.Nothing) = refl
there_and_back (Stage.Settings) = refl
there_and_back (Stage.Gain) = refl
there_and_back (Stage.Rows) = refl

pub same_stage : {s t : Stage} → stage_number s ≡ stage_number t → s ≡ t
same_stage {s} {t} e = sym (there_and_back s) ∙ ap stage_at e ∙ there_and_back t

-- ---- what is added

pub record_short : (q : Sequence) → length (record_bytes_of q) ≤ record_bytes
unfolding record_bytes_of
record_short q = omega arith

pub gap_grows : {next at : ℕ} {entry exit : List ℕ} (q : Sequence) → Appended next exit entry at (record_bytes_of q) → next ≤ at + line_adds
gap_grows q a = omega (arith, a.place, record_short q)

pub rows_grow : {next at : ℕ} {entry exit : List ℕ} (count commands pilots : ℕ) → count < 4294967296 →
    Appended next exit entry at (rows_bytes count commands pilots) → next ≤ at + line_adds
rows_grow count commands pilots h a = omega (arith, a.place, rows_length count commands pilots)

-- ---- a line

module _ {st : Standing} {bodies : List ℕ} (p : Progress) (s : Stands st bodies p) where
  pub gap_taken : {next : ℕ} {exit : List ℕ} (q : Sequence) → st.stage ≡ Stage.Gain → Appended next exit bodies st.used (record_bytes_of q) →
      Steps (advanced p (Item.Gap q)) (Some (record { stage = st.stage; settings = st.settings; gain = st.gain; records = next; used = next })) exit
  unfolding Steps advanced
  gap_taken {next} {exit} q e a =
      let two : p.stage ≡ 2 = sym s.stage_is ∙ ap stage_number e in
      let none : p.rows ≡ [] = s.no_rows (omega arith) in
      let zero : length p.rows ≡ 0 = ap length none in
      let n : next ≡ length (p.records ++ record_bytes_of q) = sym (length-append p.records (record_bytes_of q) ∙ omega (arith, a.place, s.used_is)) in
      rw (eq-eqb p.stage 2 two) (record {
        stage_is = ap stage_number e;
        settings_is = s.settings_is;
        gain_is = s.gain_is;
        records_is = n;
        used_is = omega arith;
        stored = λ h. a.bytes (omega (arith, a.long)) ∙
            rw (s.stored (omega (arith, a.long, a.place)), none, append-nil p.records, append-nil (p.records ++ record_bytes_of q));
        no_rows = λ _. none;
      })

  pub gap_late : (q : Sequence) → (st.stage ≡ Stage.Gain → ⊥) → Steps (advanced p (Item.Gap q)) None bodies
  unfolding Steps advanced
  gap_late q f = rw (ne_eqb p.stage 2 (λ e. f (same_stage (s.stage_is ∙ e)))) tt

  pub rows_taken_lem : {next : ℕ} {exit : List ℕ} (count commands pilots : ℕ) → 1 < stage_number st.stage →
      Appended next exit bodies st.used (rows_bytes count commands pilots) →
      Steps (advanced p (Item.Rows count commands pilots))
      (Some (record { stage = Stage.Rows; settings = st.settings; gain = st.gain; records = st.records; used = next })) exit
  unfolding Steps advanced
  rows_taken_lem {next} {exit} count commands pilots h a =
      let rows = rows_bytes count commands pilots in
      rw (lt-ltb 1 p.stage (omega (arith, s.stage_is))) (record {
        stage_is = refl;
        settings_is = s.settings_is;
        gain_is = s.gain_is;
        records_is = s.records_is;
        used_is = a.place ∙ rw (s.used_is, length-append p.rows rows) (add_assoc (length p.records) (length p.rows) (length rows));
        stored = λ k. a.bytes (omega (arith, a.long)) ∙ rw (s.stored (omega (arith, a.long, a.place)), append_assoc p.records p.rows rows);
        no_rows = λ k. absurd (omega arith);
      })

  pub rows_early : (count commands pilots : ℕ) → stage_number st.stage ≤ 1 → Steps (advanced p (Item.Rows count commands pilots)) None bodies
  unfolding Steps advanced
  rows_early count commands pilots h = rw (le-ltb 1 p.stage (omega (arith, s.stage_is))) tt

  pub settings_taken : (x : Settings) → st.stage ≡ Stage.Nothing → Steps (advanced p (Item.Settings x))
      (Some (record { stage = Stage.Settings; settings = x; gain = st.gain; records = st.records; used = st.used })) bodies
  unfolding Steps advanced
  settings_taken x e =
      let begins : p.stage ≡ 0 = sym s.stage_is ∙ ap stage_number e in
      rw (eq-eqb p.stage 0 begins) (record {
        stage_is = refl;
        settings_is = refl;
        gain_is = s.gain_is;
        records_is = s.records_is;
        used_is = s.used_is;
        stored = s.stored;
        no_rows = λ _. s.no_rows (omega arith);
      })

  pub settings_again : (x : Settings) → (st.stage ≡ Stage.Nothing → ⊥) → Steps (advanced p (Item.Settings x)) None bodies
  unfolding Steps advanced
  settings_again x f = rw (ne_eqb p.stage 0 (λ e. f (same_stage (s.stage_is ∙ e)))) tt

  pub gain_taken : (x : Triple) → st.stage ≡ Stage.Settings → Steps (advanced p (Item.Gain x))
      (Some (record { stage = Stage.Gain; settings = st.settings; gain = x; records = st.records; used = st.used })) bodies
  unfolding Steps advanced
  gain_taken x e =
      let begins : p.stage ≡ 1 = sym s.stage_is ∙ ap stage_number e in
      rw (eq-eqb p.stage 1 begins) (record {
        stage_is = refl;
        settings_is = s.settings_is;
        gain_is = refl;
        records_is = s.records_is;
        used_is = s.used_is;
        stored = s.stored;
        no_rows = λ _. s.no_rows (omega arith);
      })

  pub gain_elsewhere : (x : Triple) → (st.stage ≡ Stage.Settings → ⊥) → Steps (advanced p (Item.Gain x)) None bodies
  unfolding Steps advanced
  gain_elsewhere x f = rw (ne_eqb p.stage 1 (λ e. f (same_stage (s.stage_is ∙ e)))) tt

  pub blank_taken : Steps (advanced p Item.Blank) (Some st) bodies
  unfolding Steps advanced
  blank_taken = s

  pub nothing_taken : Steps (advanced p Item.Unreadable) None bodies
  unfolding Steps advanced
  nothing_taken = tt
