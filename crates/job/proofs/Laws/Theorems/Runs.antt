-- Steps and runs of a job: the refusals of the file, 10, the rows, and the buffer.
-- Assumes nothing.
use Rattle.std.specs.Prelude.{ℕ, ◌*◌, ◌≤◌, ◌<◌, ◌≡◌, refl, ◌↔◌, List, ℤ, length, Ok, Err, Result}
use Rattle.std.proofs.Common.{sym, ◌∙◌, subst, inl, inr, arith, lit≤}
use Rattle.ground.specs.declared.Refusal.{Refusal}
use Rattle.ground.proofs.Laws.Choice.{clash}
use Rattle.constants.specs.Sizes.{answer_numbers}
use Rattle.constants.specs.Refusals.{refusal, short_answers}
use Rattle.gap_records.specs.Records.{RecordsSay}
use Rattle.gap_slots.specs.Slots.{slot_at}
use Rattle.job_settings.specs.declared.Settings.{Settings}
use Rattle.row_state.specs.declared.State.{State}
use Rattle.row_state.specs.States.{state_start}
use Rattle.row_state.proofs.Laws.States.{starts}
use Rattle.row_values.specs.declared.Row.{Row}
use Rattle.row_values.specs.declared.Answer.{Answer}
use Rattle.row_values.specs.Rows.{row_at, is_cut, rows_offered, rows_in}
use Rattle.row_values.proofs.Laws.Rows.{offered_whole}
use Rattle.row_rules.specs.declared.Ran.{Ran}
use Rattle.row_rules.specs.Rules.{gain_for, step_of}
use Rattle.row_rules.specs.Runs.{AtRow, OnStopped, OnRun, End, ended, run_of}
use Rattle.row_rules.proofs.Laws.Runs.{rows_stopped}
use Rattle.row_rules.specs.History.{History, Accepted, state_at, stepped_at}
use Rattle.row_rules.specs.Refusing.{IsF64, TooMany, HandedOut}
use Rattle.row_rules.specs.Theorems.{history_of, Ends, done, stopped, short}
use Rattle.row_rules.proofs.Laws.Theorems.All.{theorems}
use Rattle.row_rules.proofs.Laws.Theorems.Runs.{run_cases}
use Rattle.job_contents.specs.declared.Bodies.{Bodies}
use Rattle.job_contents.specs.Contents.{ContentsSay}
use Rattle.job_settings.specs.Body.{SettingsSay}
use Rattle.job.specs.Load.{Loaded}
use Rattle.job.specs.Load.{gains_body, records_body, rows_body, row_count, loaded_of, LoadSays}
use Rattle.job.specs.Jobs.{started_of, stepped_of, ran_of}
use Rattle.job.specs.Theorems.{StepsJob, RunsJob, OnWhole, Untouched}
use Rattle.job.proofs.Laws.Theorems.Loads.{load_exactly}
use Rattle.job.proofs.Laws.Theorems.Taking.{takes}

-- ---- by what the load says

pub refused_start : (job : List ℕ) {r : Refusal} → loaded_of job ≡ Err r → started_of job ≡ Err r
unfolding started_of
refused_start job e = rw e

pub refused_step : (job : List ℕ) (st : State) (row : Row) {r : Refusal} → loaded_of job ≡ Err r → stepped_of job st row ≡ Err r
unfolding stepped_of
refused_step job st row e = rw e

pub refused_run : (job : List ℕ) (out : List ℤ) {r : Refusal} → loaded_of job ≡ Err r → ran_of job out ≡ ended (Ran.Refused r) out
unfolding ran_of
refused_run job out e = rw e

module _ (job : List ℕ) {s : Settings} {b : Bodies} where
  pub started_job : loaded_of job ≡ Ok (s, b) → started_of job ≡ Ok (state_start s)
  unfolding started_of
  started_job e = rw e

  pub stepped_job : (st : State) (row : Row) → loaded_of job ≡ Ok (s, b) → stepped_of job st row ≡ step_of s (gains_body job b) (records_body job b) st row
  unfolding stepped_of
  stepped_job st row e = rw e

  pub ran_job : (out : List ℤ) → loaded_of job ≡ Ok (s, b) →
      ran_of job out ≡ run_of s (gains_body job b) (records_body job b) (state_start s) (rows_body job b) out
  unfolding ran_of
  ran_job out e = rw e

-- ---- a job that is taken

module _ (job : List ℕ) {s : Settings} {b : Bodies} (e : loaded_of job ≡ Ok (s, b)) where
  abbrev gains : List ℕ
  gains = gains_body job b

  abbrev records : List ℕ
  records = records_body job b

  abbrev rows : List ℕ
  rows = rows_body job b

  abbrev history : History
  history = history_of s gains records rows

  pub start_handed_lem : HandedOut s (gains_body job b) (state_start s)
  start_handed_lem = theorems.start s gains (takes job e).ranged (takes job e).triple

  pub start_f64 : IsF64 (state_start s)
  start_f64 = start_handed_lem.ranged.state.filter_in.level.fits

  counted : rows_offered rows ≡ row_count job b
  counted = (offered_whole rows (row_count job b) (takes job e).rows_own.its_length).2

  room : TooMany (state_start s) rows → ⊥
  room m = let z : ⊥ = omega (arith, m.1, counted, (takes job e).rows_few, (starts s).row) in z

  pub step_handed : (st : State) (row : Row) {next : State} {a : Answer} → IsF64 st → stepped_of job st row ≡ Ok (next, a) →
      HandedOut s (gains_body job b) next
  step_handed st row f h = theorems.step s gains records st row f (sym (stepped_job job st row e) ∙ h)

  pub run_handed : (out : List ℤ) → OnRun (HandedOut s (gains_body job b)) (ran_of job out).result
  run_handed out = subst (λ (x : End). OnRun (HandedOut s (gains_body job b)) x.result) (sym (ran_job job out e))
      (theorems.run s gains records (state_start s) rows out start_f64)

  by_row : {n : ℕ} → n < row_count job b → Accepted history n →
      stepped_of job (state_at history n) (row_at rows n) ≡ stepped_at history n
  by_row {n} h all =
      let t = takes job e in
      stepped_job job _ _ e ∙ theorems.step_history s gains records (row_at rows) t.ranged t.triple (omega (arith, t.rows_few)) all

  pub steps : StepsJob job s b
  steps =
      record {
        started = started_job job e;
        step = λ st row. stepped_job job st row e;
        by_row = by_row;
      }

  stops : (out : List ℤ) → OnStopped AtRow (run_of s gains records (state_start s) rows out).result
  unfolding OnStopped
  stops out =
      run_cases s gains records (state_start s) rows out (λ (x : End). OnStopped AtRow x.result) (λ _. tt) (λ _ _. tt)
      (λ _ _ _. rows_stopped s (gain_for s gains) (slot_at records) (state_start s) (rows_in rows) (is_cut rows)) (λ _ _ _. tt)

  pub runs : (out : List ℤ) → RunsJob job s b out
  runs out =
      let same = ran_job job out e in
      let says = theorems.run_refused s gains records (state_start s) rows out start_f64 in
      record {
        ten = subst (λ (n : ℕ). ran_of job out ≡ ended (Ran.Refused (refusal short_answers (answer_numbers * n))) out ↔ length out < answer_numbers * n) counted
            (λ h. (says.ten.0 (sym same ∙ h)).1, λ l. same ∙ says.ten.1 (room, l));
        rows_run = λ h. same ∙ says.rows_run room (omega (arith, counted)) start_handed_lem.ranged;
        stopped = subst (λ (x : End). OnStopped AtRow x.result) (sym same) (stops out);
        history = theorems.run_history s gains records rows;
      }

-- ---- the buffer

InTable : Refusal → Type 0
InTable r = (1 ≤ r.number) × (r.number ≤ 7)

-- a claim on the refusal of each check, and of a load
abbrev ByContents : Result Bodies Refusal → Type 0
ByContents (Ok b) = Unit {0}
ByContents (Err r) = InTable r

abbrev ByReading : Result Settings Refusal → Type 0
ByReading (Ok s) = Unit {0}
ByReading (Err r) = InTable r

abbrev ByLoad : Loaded → Type 0
ByLoad (Ok (s, b)) = Unit {0}
ByLoad (Err r) = InTable r

contents_in : {job : List ℕ} {c : Result Bodies Refusal} → ContentsSay job c → ByContents c
unfolding InTable
contents_in (ContentsSay.over h) = (lit≤ tt, lit≤ tt)
contents_in (ContentsSay.unheaded h f) = (lit≤ tt, lit≤ tt)
contents_in (ContentsSay.first_wrong h k f) = (lit≤ tt, lit≤ tt)
contents_in (ContentsSay.second_wrong h k a f) = (lit≤ tt, lit≤ tt)
contents_in (ContentsSay.third_wrong h k a b f) = (lit≤ tt, lit≤ tt)
contents_in (ContentsSay.right w) = tt

reading_in : {body : List ℕ} {x : Result Settings Refusal} → SettingsSay body x → ByReading x
unfolding InTable
reading_in (SettingsSay.short h) = (lit≤ tt, lit≤ tt)
reading_in (SettingsSay.broken h b f) = (lit≤ tt, lit≤ tt)
reading_in (SettingsSay.kept h f) = tt

records_in : {body : List ℕ} (r : Refusal) → RecordsSay body (Err r) → InTable r
unfolding InTable
records_in r (inl t) = (omega (arith, t.number), omega (arith, t.number))
records_in r (inr (inl t)) = (omega (arith, t.number), omega (arith, t.number))
records_in r (inr (inr t)) = (omega (arith, t.number), omega (arith, t.number))

load_in : {job : List ℕ} {l : Loaded} → LoadSays job l → ByLoad l
unfolding InTable
load_in (LoadSays.contents w) = contents_in w
load_in (LoadSays.settings w x) = reading_in x
load_in (LoadSays.records {r} w x y) = records_in r y
load_in (LoadSays.rows w x y h) = (lit≤ tt, lit≤ tt)
load_in (LoadSays.taken w x y h) = tt

-- a file that is refused is refused by 1 to 7
pub load_number : (job : List ℕ) {r : Refusal} → loaded_of job ≡ Err r → (1 ≤ r.number) × (r.number ≤ 7)
unfolding InTable
load_number job {r} e = load_in ((load_exactly job (Err r)).0 e)

-- rows that were run end the run with no refusal of the whole
ends_whole : {h : History} {rows : List ℕ} {n : ℕ} {x : Ran} (P : Refusal → Type 0) → Ends h rows n x → OnWhole P x
unfolding OnWhole
ends_whole P (done e c) = tt
ends_whole P (stopped l e) = tt
ends_whole P (short e c) = tt

pub untouched : (job : List ℕ) (out : List ℤ) → OnWhole (Untouched out (ran_of job out).out) (ran_of job out).result
unfolding OnWhole
untouched job out = by (loaded_of job) refl
  where
    Kept : End → Type 0
    Kept x = OnWhole (Untouched out x.out) x.result

    by : (l : Loaded) → loaded_of job ≡ l → Kept (ran_of job out)
    by (Err r) e =
        subst Kept (sym (refused_run job out e)) (record { its_number = inl (load_number job e); buffer = refl })
    by (Ok (s, b)) e =
        subst Kept (sym (ran_job job out e))
        (run_cases s (gains_body job b) (records_body job b) (state_start s) (rows_body job b) out Kept (λ m. absurd (room job e m))
        (λ _ _. record { its_number = inr refl; buffer = refl })
        (λ _ _ _. ends_whole _ (theorems.run_history s (gains_body job b) (records_body job b) (rows_body job b)).ends)
        (λ _ _ off. absurd (clash (start_handed_lem job e).passes off)))
