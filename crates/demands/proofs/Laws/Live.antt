-- A live test is a history: the calls' rows, as far as they were accepted, are rows offered one after the other, and the lent state is the one after them.
-- Assumes nothing.
pub mod OnAnswers
pub mod AnyNumbers
pub mod Calls
pub mod Parts
use Rattle.std.specs.Prelude.{ℕ, ◌≡◌, refl, ◌↔◌, Bool, true, false, List, [], eqb, ℤ, length, Ok, Err}
use Rattle.std.proofs.Common.{sym, ap, subst, not-suc-le-zero, arith, eqb-true, eq-eqb}
use Rattle.std.proofs.lemmas.Bool.{eqb-false}
use Rattle.ground.specs.declared.Refusal.{Refusal}
use Rattle.ground.specs.Choice.{when◌then◌else◌}
use Rattle.ground.proofs.Laws.Choice.{if_true}
use Rattle.constants.specs.Refusals.{refusal, no_refusal, wrong_state}
use Rattle.job_settings.specs.declared.Settings.{Settings}
use Rattle.row_state.specs.declared.State.{State}
use Rattle.row_state.specs.States.{state_start}
use Rattle.row_rules.specs.History.{state_at}
use Rattle.job_contents.specs.declared.Bodies.{Bodies}
use Rattle.job.specs.Load.{Loaded}
use Rattle.job.specs.Load.{loaded_of}
use Rattle.exports_state.specs.Packed.{state_numbers}
use Rattle.exports.specs.Steps.{Lent, lent_of, start_handed, LentStart, start_by, started_lent, handed as give, next_of}
use Rattle.exports.proofs.Laws.Steps.{start_refused}
use Rattle.listing_theorems.proofs.Laws.Theorems.All.{theorems as listings}
use Rattle.demands.specs.Rows.{TakenJob}
use Rattle.demands.specs.Refusals.{CallTells}
use Rattle.demands.specs.Live.{StartTells, Live, LiveSaid, LeftBy}
use Rattle.demands.proofs.Laws.Live.Calls.{call, of_a_call}

-- a job that is taken begins a live test
pub begun : {job : List ℕ} (j : TakenJob job) → LiveSaid job [] (lent_of (state_start j.settings))
unfolding state_at
begun j = record { taken = j; whole = refl; few = omega arith; accepted = λ k m. absurd (not-suc-le-zero m); state = refl }

abbrev pub started_in : Bool → State → Lent → LentStart
started_in sized st before = when sized then give no_refusal (lent_of st) else give (refusal wrong_state 0) before

begins : (job : List ℕ) (before : Lent) → (started_lent job before).refusal ≡ no_refusal → LiveSaid job [] (started_lent job before).state
unfolding started_lent start_handed state_at
begins job before = by (loaded_of job) refl
  where
    number : {r : Refusal} → r ≡ no_refusal → r.number ≡ 0
    number e = ap (λ (x : Refusal). x.number) e

    sized : {s : Settings} {b : Bodies} → loaded_of job ≡ Ok (s, b) → (t : Bool) → (started_in t (state_start s) before).refusal ≡ no_refusal →
        LiveSaid job [] (started_in t (state_start s) before).state
    sized {s} {b} e true r = begun (record { settings = s; bodies = b; is_taken = e })
    sized e false r = let z : wrong_state ≡ 0 = number r in absurd (omega (arith, z))

    by : (x : Loaded) → loaded_of job ≡ x → (start_by x before).refusal ≡ no_refusal → LiveSaid job [] (start_by x before).state
    by (Ok (s, b)) e r = sized e (eqb (length before.numbers) state_numbers) r
    by (Err q) e r = let z = (listings.alone job e).1.0 in absurd (omega (arith, number r))

-- a start with as many numbers as a state has
start_sized : (job : List ℕ) {s : Settings} {b : Bodies} → loaded_of job ≡ Ok (s, b) → (before : Lent) → length before.numbers ≡ state_numbers →
    started_lent job before ≡ give no_refusal (lent_of (state_start s))
unfolding started_lent start_handed
start_sized job e before f = rw e (sym (if_true _ _ (eq-eqb _ _ f)))

-- what a start tells, exactly
pub of_a_start : (job : List ℕ) → TakenJob job → (before : Lent) (r : Refusal) → (started_lent job before).refusal ≡ r ↔ StartTells before r
of_a_start job j before r = (λ e. subst (StartTells before) e stated_start, given_start)
  where
    stated_start : StartTells before (started_lent job before).refusal
    stated_start = by (eqb (length before.numbers) state_numbers) refl
      where
        by : (t : Bool) → eqb (length before.numbers) state_numbers ≡ t → StartTells before (started_lent job before).refusal
        by true e =
            let f = eqb-true (length before.numbers) state_numbers e in
            subst (StartTells before) (sym (ap (λ (t : LentStart). t.refusal) (start_sized job j.is_taken before f))) (StartTells.none f)
        by false e =
            let f = eqb-false (length before.numbers) state_numbers e in
            subst (StartTells before) (sym (ap (λ (t : LentStart). t.refusal) (start_refused job j.is_taken before f))) (StartTells.wrong_count f)

    given_start : {q : Refusal} → StartTells before q → (started_lent job before).refusal ≡ q
    given_start (StartTells.wrong_count f) = ap (λ (t : LentStart). t.refusal) (start_refused job j.is_taken before f)
    given_start (StartTells.none f) = ap (λ (t : LentStart). t.refusal) (start_sized job j.is_taken before f)

-- the first call after a start
pub of_first_call : {job : List ℕ} (j : TakenJob job) (more : List ℕ) (out : List ℤ) (r : Refusal) →
    (next_of job more (lent_of (state_start j.settings)) out).refusal ≡ r ↔ CallTells j [] more out r
unfolding begun
of_first_call j more out r = of_a_call (begun j) more out r

pub live : {job rows : List ℕ} {st : Lent} → Live job rows st → LiveSaid job rows st
live {job} (Live.started before e) = begins job before e
live (Live.called l more out) = (call (live l) more out).0

pub live_left : {job rows : List ℕ} {st : Lent} (l : Live job rows st) (more : List ℕ) (out : List ℤ) → LeftBy (live l) more out
live_left l more out = (call (live l) more out).1
