-- The laws of the change of a row: what a slot is to its row, each of the five rules where it applies, and how large a change is.
-- Assumes nothing.
use Rattle.std.specs.Prelude.{ℕ, ◌≤◌, ◌≡◌, ◌↔◌, Bool, true, false, ℤ, pos, nat_abs, ◌+ℤ◌}
use Rattle.std.proofs.Math.Path.{refl, sym}
use Rattle.std.proofs.Common.{ap, ◌∙◌, le_trans, arith, lit≤}
use Rattle.std.proofs.Math.Bool.{not}
use Rattle.ground.proofs.Laws.Choice.{clash, if_true, if_false, either}
use Rattle.ground.proofs.Laws.Integers.Products.{abs_sum}
use Rattle.constants.specs.Sizes.{pilots_least, pilots_most}
use Rattle.gap_slots.specs.declared.Slot.{Slot}
use Rattle.gap_slots.specs.Slots.{opens_uplink, opens_downlink}
use Rattle.gap_runs.specs.declared.Kind.{Kind}
use Rattle.gap_runs.specs.declared.Kind.TheVariants.{Gap, Resume, Recovery, Plain}
use Rattle.command.specs.Row.{recovery_of}
use Rattle.command.proofs.Laws.Row.{recovery_plain}
use Rattle.power.specs.Steps.{step_units, recovery_step_of, pilot_change_of, step_change_of}
use Rattle.power.proofs.Laws.Steps.{step_most, recovery_most, pilots_most_lem, step_change_most}
use Rattle.resume_filter.specs.Update.{IsFilter}
use Rattle.resume_filter.specs.Resuming.{resume_of, whole_units_of}
use Rattle.resume_filter.proofs.Laws.Resuming.{resume_most}
use Rattle.job_settings.specs.declared.Settings.{Settings}
use Rattle.row_state.specs.declared.State.{State}
use Rattle.row_change.specs.declared.Here.{Here}
use Rattle.row_change.specs.Change.{resumes, here_of, by_resume, by_recovery, by_step, change_of}

-- ---- what a slot is to its row

module _ (rpp : ℕ) (slot : Slot) (kind : Kind) where
  pub here_up : (here_of rpp slot kind).up ≡ opens_uplink slot
  unfolding here_of
  here_up = refl

  pub here_down : (here_of rpp slot kind).down ≡ opens_downlink slot
  unfolding here_of
  here_down = refl

  pub here_recovery : (here_of rpp slot kind).recovery ≡ recovery_of rpp kind
  unfolding here_of
  here_recovery = refl

  pub here_resumes : (here_of rpp slot kind).resume ≡ resumes kind
  unfolding here_of
  here_resumes = refl

-- a resume slot and no other
pub resumes_exactly : (kind : Kind) → resumes kind ≡ true ↔ kind ≡ Resume
unfolding resumes
resumes_exactly kind = (there kind, λ e. ap resumes e)
  where
    there : (k : Kind) → resumes k ≡ true → k ≡ Resume
    there Gap e = absurd (clash e refl)
    there Resume e = refl
    there Recovery e = absurd (clash e refl)
    there Plain e = absurd (clash e refl)

-- a plain slot is its directions to its row, and no more
pub here_plain : (rpp : ℕ) (slot : Slot) →
    here_of rpp slot Plain ≡ record { up = opens_uplink slot; down = opens_downlink slot; resume = false; recovery = false }
unfolding here_of resumes
here_plain rpp slot = rw (recovery_plain rpp)

-- ---- "A sent row takes the first that applies"

module _ (s : Settings) (st : State) (here : Here) (command : ℤ) (pilots : ℕ) where
  -- "1. first sent row of the job: no change from the start power"
  pub change_first : st.sent ≡ false → change_of s st here command pilots ≡ pos 0
  unfolding change_of
  change_first e = sym (if_true _ _ (ap not e))

  module _ (e : st.sent ≡ true) where
    -- "2. resume slot"
    pub change_resume : here.resume ≡ true →
        change_of s st here command pilots
        ≡ whole_units_of (resume_of s.itp (step_units s.step) st.opening.command st.filter) +ℤ pilot_change_of st.pilots pilots
    unfolding change_of by_resume
    change_resume r = sym (if_true _ _ r ∙ if_false _ _ (ap not e))

    -- "3. downlink gap: 0, pilot change included"
    pub change_down : here.resume ≡ false → here.down ≡ true → change_of s st here command pilots ≡ pos 0
    unfolding change_of
    change_down r d = sym (if_true _ _ d ∙ if_false _ _ r ∙ if_false _ _ (ap not e))

    -- "4. recovery slot, RPP 1"
    pub change_recovery : here.resume ≡ false → here.down ≡ false → here.recovery ≡ true →
        change_of s st here command pilots ≡ step_change_of command (recovery_step_of s.pca (step_units s.step)) st.pilots pilots
    unfolding change_of by_recovery
    change_recovery r d q = sym (if_true _ _ q ∙ if_false _ _ d ∙ if_false _ _ r ∙ if_false _ _ (ap not e))

    -- "5."
    pub change_step : here.resume ≡ false → here.down ≡ false → here.recovery ≡ false →
        change_of s st here command pilots ≡ step_change_of command (step_units s.step) st.pilots pilots
    unfolding change_of by_step
    change_step r d q = sym (if_false _ _ q ∙ if_false _ _ d ∙ if_false _ _ r ∙ if_false _ _ (ap not e))

-- ---- its size

-- what a change needs of the state and the row: commands of −1, 0 or 1, a filter that a state may hold, and pilot bits of sent rows
pub record Changes (st : State) (command : ℤ) (pilots : ℕ) : Type 0 where
  pub command_in : nat_abs command ≤ 1
  pub opening_in : nat_abs st.opening.command ≤ 1
  pub filter_in : IsFilter st.row st.filter
  pub before_in : st.sent ≡ true → (pilots_least ≤ st.pilots) × (st.pilots ≤ pilots_most)
  pub pilots_in : (pilots_least ≤ pilots) × (pilots ≤ pilots_most)

-- a resume change of at most 1,984 and a pilot change of at most 273
pub change_most : (s : Settings) (st : State) (here : Here) (command : ℤ) (pilots : ℕ) → Changes st command pilots →
    nat_abs (change_of s st here command pilots) ≤ 2257
unfolding change_of by_resume by_recovery by_step
change_most s st here command pilots h = by st.sent refl
  where
    P : ℤ → Type 0
    P z = nat_abs z ≤ 2257

    by : (t : Bool) → st.sent ≡ t → P (change_of s st here command pilots)
    by false e = either P (not st.sent) (λ _. omega arith) (λ n. absurd (clash (ap not e) n))
    by true e =
        let b = h.before_in e in
        let p = h.pilots_in in
        let step = step_units s.step in
        either P (not st.sent) (λ _. omega arith) (λ _.
        either P here.resume
        (λ _. abs_sum (whole_units_of (resume_of s.itp step st.opening.command st.filter)) (pilot_change_of st.pilots pilots) {d = 1984} {e = 273}
        (resume_most s.itp step st.opening.command st.filter h.opening_in (step_most s.step) h.filter_in)
        (pilots_most_lem b.0 b.1 p.0 p.1))
        (λ _.
        either P here.down (λ _. omega arith) (λ _.
        either P here.recovery
        (λ _. le_trans (step_change_most command h.command_in (recovery_most s.pca step) b.0 b.1 p.0 p.1) (lit≤ tt))
        (λ _. le_trans (step_change_most command h.command_in (le_trans (step_most s.step) (lit≤ tt)) b.0 b.1 p.0 p.1) (lit≤ tt)))))
