-- What the next row needs: the filter, and the first uplink gap slot of a run.
-- RULES: filter, change
-- Definitions, to be believed.
use Rattle.std.specs.Prelude.{Bool, not, ◌&&◌, ◌||◌, ℤ}
use Rattle.ground.specs.Choice.{when◌then◌else◌}
use Rattle.power.specs.Steps.{step_units}
use Rattle.resume_filter.specs.declared.Filter.{Filter}
use Rattle.resume_filter.specs.Update.{update_bracket, empty_of, updated_of}
use Rattle.job_settings.specs.declared.Settings.{Settings}
use Rattle.row_state.specs.declared.Opening.{Opening}
use Rattle.row_state.specs.declared.State.{State}
use Rattle.row_state.specs.States.{unopened, opened_by}
use Rattle.row_change.specs.declared.Here.{Here}

-- "No row before the first sent row updates it. From that row on, each sent row that is no downlink gap slot, and a
-- run's first uplink gap slot if that is no downlink gap slot, updates it"
-- DECISIONS: change-one-first-slot, change-gap-before-first, filter-any-itp
unfoldable pub updates : Here → (sent seen : Bool) → Bool
updates here sent seen = not here.down && (not here.up || (sent && not seen))

-- "After a resume slot's update it returns to 0."
-- DECISIONS: filter-count-returns
unfoldable pub returned : (resume : Bool) → Filter → Filter
returned resume f = when resume then empty_of else f

-- "updates it after the row's power is settled: it becomes 0.9375 × filter, rounded, minus (command × step × 31/32 ×
-- k), rounded … k is 0 if this row and the one before it are both limited, else 1"; always by the step, never by the
-- recovery step
-- DECISIONS: filter-by-the-step, filter-row-before
unfoldable pub filter_after : Settings → State → Here → (command : ℤ) (limited : Bool) → Filter
filter_after s st here command limited =
    let bracket = update_bracket command (step_units s.step) st.limited limited in
    when updates here st.sent st.opening.seen then returned here.resume (updated_of st.filter bracket) else
    st.filter

-- "the command of the run's first uplink gap slot": kept to the end of the run, and forgotten by the slot after it
-- DECISIONS: change-one-first-slot, change-gap-before-first
unfoldable pub opening_after : Opening → Here → (command : ℤ) → Opening
opening_after opening here command =
    when here.up then (when opening.seen then opening else opened_by command) else
    when here.down then opening else
    unopened
