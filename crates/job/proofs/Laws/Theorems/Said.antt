-- Each answer of a start, a step and a run of a job is given exactly when its case says so.
-- Assumes nothing.
use Rattle.std.specs.Prelude.{ℕ, ◌≤◌, ◌≡◌, refl, ◌↔◌, ◌⊎◌, List, ℤ, Ok, Err, Result}
use Rattle.std.proofs.Common.{sym, ◌∙◌, subst, inl, inr, arith, lit≤}
use Rattle.ground.specs.declared.Refusal.{Refusal}
use Rattle.ground.proofs.Laws.OnAnswers.{one_answer}
use Rattle.constants.specs.Refusals.{too_many_rows, power_too_low, short_answers, wrong_state}
use Rattle.job_contents.specs.declared.Bodies.{Bodies}
use Rattle.job_settings.specs.declared.Settings.{Settings}
use Rattle.row_state.specs.declared.State.{State}
use Rattle.row_state.specs.States.{state_start}
use Rattle.row_values.specs.declared.Row.{Row}
use Rattle.row_rules.specs.Stepping.{Stepped}
use Rattle.row_rules.specs.declared.Ran.{Ran}
use Rattle.row_rules.specs.Rules.{refusal_of}
use Rattle.row_rules.specs.Runs.{refusal_by, End, ended}
use Rattle.row_rules.proofs.Laws.Runs.{one_end}
use Rattle.row_rules.specs.Refusing.{IsF64}
use Rattle.row_rules.specs.Says.{StepNumber, StepTold}
use Rattle.row_rules.proofs.Laws.Theorems.Said.{step_exactly, step_number, run_exactly, ranged_number}
use Rattle.job.specs.Load.{Loaded}
use Rattle.job.specs.Load as load
use Rattle.job.specs.Load.{gains_body, records_body, rows_body, loaded_of, LoadSays}
use Rattle.job.specs.Jobs as jobs
use Rattle.job.specs.Jobs.{started_of, stepped_of, ran_of}
use Rattle.job.specs.Says.{StartSays, StartTold, JobStepSays, JobStepTold, JobRunSays, JobRunTold}
use Rattle.job.proofs.Laws.Theorems.Loads.{load_exactly, load_number}
use Rattle.job.proofs.Laws.Theorems.Runs.{refused_start, refused_step, refused_run, started_job, stepped_job, ran_job, start_handed_lem, start_f64}

-- the number of a file's refusal
refused_number : (job : List ℕ) {r : Refusal} → LoadSays job (Err r) → r.number ≤ too_many_rows
unfolding load.refusal_of
refused_number job w = load_number job w

-- ---- a start

module _ (job : List ℕ) where
  start_says : StartSays job (started_of job)
  start_says = by (loaded_of job) refl
    where
      by : (l : Loaded) → loaded_of job ≡ l → StartSays job (started_of job)
      by (Err r) e = subst (StartSays job) (sym (refused_start job e)) (StartSays.refused ((load_exactly job (Err r)).0 e))
      by (Ok (s, b)) e = subst (StartSays job) (sym (started_job job e)) (StartSays.begins ((load_exactly job (Ok (s, b))).0 e))

  start_said : {x : Result State Refusal} → StartSays job x → started_of job ≡ x
  start_said (StartSays.refused {r} w) = refused_start job ((load_exactly job (Err r)).1 w)
  start_said (StartSays.begins {s} {b} w) = started_job job ((load_exactly job (Ok (s, b))).1 w)

  pub start_exactly : (x : Result State Refusal) → started_of job ≡ x ↔ StartSays job x
  start_exactly x = (λ e. subst (StartSays job) e start_says, start_said)

  start_number : {x : Result State Refusal} → StartSays job x → (jobs.refusal_of x).number ≤ too_many_rows
  start_number (StartSays.refused w) = refused_number job w
  start_number (StartSays.begins w) = lit≤ tt

  -- so that a start says what it promises, and no other answer is promised
  pub start_told_lem : {x : Result State Refusal} → x ≡ started_of job → StartTold job x
  start_told_lem {x} e = let w = (start_exactly x).0 (sym e) in record { is = e; says = w; number = start_number w }

  pub one_start : {x y : Result State Refusal} → StartTold job x → StartTold job y → x ≡ y
  one_start t u = one_answer t.is u.is

-- ---- a step

module _ (job : List ℕ) (st : State) (row : Row) where
  step_says : IsF64 st → JobStepSays job st row (stepped_of job st row)
  step_says f = by (loaded_of job) refl
    where
      by : (l : Loaded) → loaded_of job ≡ l → JobStepSays job st row (stepped_of job st row)
      by (Err r) e =
          subst (JobStepSays job st row) (sym (refused_step job st row e)) (JobStepSays.refused ((load_exactly job (Err r)).0 e))
      by (Ok (s, b)) e =
          JobStepSays.by_step_lem ((load_exactly job (Ok (s, b))).0 e)
          ((step_exactly s (gains_body job b) (records_body job b) st row f _).0 (sym (stepped_job job st row e)))

  step_said : IsF64 st → {x : Stepped} → JobStepSays job st row x → stepped_of job st row ≡ x
  step_said f (JobStepSays.refused {r} w) = refused_step job st row ((load_exactly job (Err r)).1 w)
  step_said f {x} (JobStepSays.by_step_lem {s} {b} w v) =
      stepped_job job st row ((load_exactly job (Ok (s, b))).1 w) ∙ (step_exactly s (gains_body job b) (records_body job b) st row f x).1 v

  pub job_step_exactly : IsF64 st → (x : Stepped) → stepped_of job st row ≡ x ↔ JobStepSays job st row x
  job_step_exactly f x = (λ e. subst (JobStepSays job st row) e (step_says f), step_said f)

  among : {n : ℕ} → StepNumber n → (n ≤ power_too_low) ⊎ (n ≡ wrong_state)
  among (inl e) = inl (omega arith)
  among (inr (inl h)) = inl h.1
  among (inr (inr e)) = inr e

  number : {x : Stepped} → JobStepSays job st row x → ((refusal_of x).number ≤ power_too_low) ⊎ ((refusal_of x).number ≡ wrong_state)
  number (JobStepSays.refused w) = inl (omega (arith, refused_number job w))
  number (JobStepSays.by_step_lem {s} {b} w v) = among (step_number s (gains_body job b) (records_body job b) st row v)

  -- so that a step says what it promises, and no other answer is promised: of a file that is refused, and of one that is taken
  pub step_refused : {r : Refusal} {x : Stepped} → loaded_of job ≡ Err r → x ≡ stepped_of job st row → JobStepTold job st row x
  step_refused {r} e i =
      let w = subst (JobStepSays job st row) (sym (i ∙ refused_step job st row e)) (JobStepSays.refused ((load_exactly job (Err r)).0 e)) in
      record { is = i; says = w; number = number w }

  pub step_taken : {s : Settings} {b : Bodies} {x : Stepped} → loaded_of job ≡ Ok (s, b) →
      StepTold s (gains_body job b) (records_body job b) st row x → JobStepTold job st row x
  step_taken {s} {b} e t =
      let w = JobStepSays.by_step_lem ((load_exactly job (Ok (s, b))).0 e) t.says in
      record { is = t.is ∙ sym (stepped_job job st row e); says = w; number = number w }

  pub one_step : {x y : Stepped} → JobStepTold job st row x → JobStepTold job st row y → x ≡ y
  one_step t u = one_answer t.is u.is

-- ---- a run

module _ (job : List ℕ) (out : List ℤ) where
  abbrev Says : End → Type 0
  Says e = JobRunSays job out e.result e.out

  run_says : Says (ran_of job out)
  run_says = by (loaded_of job) refl
    where
      by : (l : Loaded) → loaded_of job ≡ l → Says (ran_of job out)
      by (Err r) e = subst Says (sym (refused_run job out e)) (JobRunSays.refused ((load_exactly job (Err r)).0 e))
      by (Ok (s, b)) e =
          JobRunSays.by_run ((load_exactly job (Ok (s, b))).0 e)
          ((run_exactly s (gains_body job b) (records_body job b) (state_start s) (rows_body job b) out (start_f64 job e) _ _).0 (sym (ran_job job out e)))

  run_said : {result : Ran} {after : List ℤ} → JobRunSays job out result after → ran_of job out ≡ ended result after
  run_said (JobRunSays.refused {r} w) = refused_run job out ((load_exactly job (Err r)).1 w)
  run_said {result} {after} (JobRunSays.by_run {s} {b} w v) =
      let e = (load_exactly job (Ok (s, b))).1 w in
      ran_job job out e
      ∙ (run_exactly s (gains_body job b) (records_body job b) (state_start s) (rows_body job b) out (start_f64 job e) result after).1 v

  pub job_run_exactly : (result : Ran) (after : List ℤ) → ran_of job out ≡ ended result after ↔ JobRunSays job out result after
  job_run_exactly result after = (λ e. subst Says e run_says, run_said)

  ran_number : {result : Ran} {after : List ℤ} → JobRunSays job out result after → (refusal_by result).number ≤ short_answers
  unfolding refusal_by
  ran_number (JobRunSays.refused w) = omega (arith, refused_number job w)
  ran_number (JobRunSays.by_run {s} {b} w v) =
      let ranged = (start_handed_lem job ((load_exactly job (Ok (s, b))).1 w)).ranged in
      ranged_number s (gains_body job b) (records_body job b) (state_start s) (rows_body job b) out ranged v

  -- so that a run says what it promises, and no other end is promised
  pub run_told : {result : Ran} {after : List ℤ} → ended result after ≡ ran_of job out → JobRunTold job out result after
  run_told {result} {after} e = let w = (job_run_exactly result after).0 (sym e) in record { is = e; says = w; number = ran_number w }

  pub one_run : {r t : Ran} {o p : List ℤ} → JobRunTold job out r o → JobRunTold job out t p → (r ≡ t) × (o ≡ p)
  one_run a b = one_end a.is b.is
