-- "The change of a row": which of its five rules applies, and what it gives.
-- RULES: change
-- Definitions, to be believed.
use Rattle.std.specs.Prelude.{ℕ, Bool, true, false, not, ℤ, pos, ◌+ℤ◌}
use Rattle.ground.specs.Choice.{when◌then◌else◌}
use Rattle.gap_slots.specs.declared.Slot.{Slot}
use Rattle.gap_slots.specs.Slots.{opens_uplink, opens_downlink}
use Rattle.gap_runs.specs.declared.Kind.{Kind}
use Rattle.gap_runs.specs.declared.Kind.TheVariants.{Gap, Resume, Recovery, Plain}
use Rattle.command.specs.Row.{recovery_of}
use Rattle.power.specs.Steps.{step_units, recovery_step_of, pilot_change_of, step_change_of}
use Rattle.resume_filter.specs.Resuming.{resume_of, whole_units_of}
use Rattle.job_settings.specs.declared.Settings.{Settings}
use Rattle.row_state.specs.declared.State.{State}
use Rattle.row_change.specs.declared.Here.{Here}

-- whether a slot is a resume slot
unfoldable pub resumes : Kind → Bool
resumes Gap = false
resumes Resume = true
resumes Recovery = false
resumes Plain = false

-- what a slot is to its row; a recovery slot counts as one only under RPP 1
-- DECISIONS: command-recovery-everywhere, gaps-recovery-any-rpp
unfoldable pub here_of : (rpp : ℕ) (slot : Slot) (kind : Kind) → Here
here_of rpp slot kind =
    record {
      up = opens_uplink slot;
      down = opens_downlink slot;
      resume = resumes kind;
      recovery = recovery_of rpp kind;
    }

-- "2. resume slot: resume change + pilot change", where "ITP 0: step × the command of the run's first uplink gap
-- slot, 0 if there is none. ITP 1: the filter as it stands before this row's own update, to the nearest unit"
-- DECISIONS: command-of-resume
unfoldable pub by_resume : Settings → State → (pilots : ℕ) → ℤ
by_resume s st pilots =
    let resume = resume_of s.itp (step_units s.step) st.opening.command st.filter in
    whole_units_of resume +ℤ pilot_change_of st.pilots pilots

-- "4. recovery slot, RPP 1: command × recovery step + pilot change"
unfoldable pub by_recovery : Settings → (command : ℤ) (before pilots : ℕ) → ℤ
by_recovery s command before pilots = step_change_of command (recovery_step_of s.pca (step_units s.step)) before pilots

-- "5. command × step + pilot change"
unfoldable pub by_step : Settings → (command : ℤ) (before pilots : ℕ) → ℤ
by_step s command before pilots = step_change_of command (step_units s.step) before pilots

-- "A sent row takes the first that applies": "1. first sent row of the job: no change from the start power; 2. resume
-- slot: …; 3. downlink gap: 0, pilot change included; 4. recovery slot, RPP 1: …; 5. …"
-- DECISIONS: change-first-goes-first, change-no-pilots-in-gap
unfoldable pub change_of : Settings → State → Here → (command : ℤ) (pilots : ℕ) → ℤ
change_of s st here command pilots =
    when not st.sent then pos 0 else
    when here.resume then by_resume s st pilots else
    when here.down then pos 0 else
    when here.recovery then by_recovery s command st.pilots pilots else
    by_step s command st.pilots pilots
