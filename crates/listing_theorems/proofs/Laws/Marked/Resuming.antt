-- The page's case of the filter, computed row by row from its settings, its triple, its record and its rows.
-- Assumes nothing.
use Rattle.std.specs.Prelude.{ℕ, ◌≡◌, refl, true, pos, negsuc}
use Rattle.std.proofs.Common.{sym, ◌∙◌, ap, subst}
use Rattle.std.proofs.Math.Path.{fun_ext}
use Rattle.std.specs.Float.{fin}
use Rattle.std.specs.Float.Ieee.{le, lt, eq, mul, sub, of_int}
use Rattle.ground.proofs.Laws.Integers.Signs.{lesser_first}
use Rattle.ground.specs.Sums.{sum_of}
use Rattle.levels.specs.Level.{ranged, is_level}
use Rattle.levels.proofs.Laws.Level.{level_at}
use Rattle.gap_records.specs.Records.{sequence_at, sequences_from, count_of, some}
use Rattle.gap_records.proofs.Laws.Records.Examples.{one_gap}
use Rattle.gap_slots.specs.declared.Slot.{Slot}
use Rattle.gap_slots.specs.Slots.{lies, active, in_pattern, in_gap, uplink, downlink, slot_by, opens_uplink, opens_downlink}
use Rattle.gap_slots.proofs.Laws.Slots.{slot_by_lem}
use Rattle.gap_runs.specs.Runs.{no_run, stepped, walked_of}
use Rattle.command_algorithms.specs.Algorithms.{all_ones, algorithm1}
use Rattle.command_algorithms.specs.Sets.{fresh_of}
use Rattle.command.specs.Row.{recovery_of, command_of}
use Rattle.power.specs.declared.Gain.{Gain}
use Rattle.power.specs.Steps.{step_units, pilot_change_of}
use Rattle.resume_filter.specs.Scaled.{scaled, in_range}
use Rattle.resume_filter.specs.Update.{next, share_of, update_bracket, empty_of, updated_of}
use Rattle.resume_filter.specs.Resuming.{half_up, away, nearest_of, resume_of, whole_units_of}
use Rattle.row_values.specs.Rows.{row_at}
use Rattle.row_state.specs.States.{state_start}
use Rattle.row_change.specs.Change.{resumes, here_of, by_resume, change_of}
use Rattle.row_change.specs.After.{updates, returned, filter_after, opening_after}
use Rattle.row_rules.specs.Rules.{commands_wrong, pilots_wrong, row_wrong, resting, settled_of, next_state}
use Rattle.row_rules.specs.Rules.{sent_at, sent_row, row_with, row_in, row_of}
use Rattle.row_rules.specs.History.{History, state_after, state_at, change_on}
use Rattle.listing_theorems.specs.Marked.{gap_settings, gap_rows, gap_history}
use Rattle.listing_theorems.proofs.Laws.Marked.Page.{gain, gain_is}

-- the case, of any rows
pub record Resumed (h : History) : Type 0 where
  pub all_taken : (state_at h 5).row ≡ 5
  pub first : (state_at h 1).filter.level ≡ fin true 31 (pos 1)
  pub second : (state_at h 2).filter.level ≡ fin true 961 (negsuc 2)
  pub resume : change_on h 4 ≡ negsuc 119

-- the same rows under the gain as numbers, and in slots that compute
abbrev plain : (ℕ → Slot) → (ℕ → Gain) → History
plain slots gains = record { settings = gap_settings; gain = gains; slot = slots; row = row_at gap_rows }

abbrev slots : ℕ → Slot
slots = slot_by (sequences_from (one_gap 1 1 1 3 1) (count_of (one_gap 1 1 1 3 1)) 0)

same : gap_history ≡ plain slots (λ k. gain)
same =
    ap (λ (g : ℕ → Gain). plain gap_history.slot g) (fun_ext (λ k. gain_is))
    ∙ ap (λ (l : ℕ → Slot). plain l (λ k. gain)) (fun_ext (slot_by_lem (one_gap 1 1 1 3 1)))

computed : Resumed (plain slots (λ k. gain))
unfolding ranged is_level pilot_change_of by_resume whole_units_of resume_of nearest_of in_range le lt eq scaled away half_up
    one_gap
    sequence_at sequences_from some lies active in_pattern in_gap uplink downlink sum_of slot_by opens_uplink opens_downlink no_run
    stepped
    walked_of all_ones algorithm1 fresh_of recovery_of command_of step_units next share_of update_bracket empty_of updated_of mul
    sub
    of_int state_start resumes here_of change_of updates returned filter_after opening_after commands_wrong pilots_wrong
    row_wrong
    resting settled_of next_state sent_at sent_row row_with row_in row_of state_after state_at
computed =
    record {
      all_taken = rw (lesser_first (pos 0) (pos 1343) refl, level_at 6 498 refl refl);
      first = refl;
      second = refl;
      resume = rw (level_at 6 498 refl refl);
    }

pub resumed : Resumed gap_history
resumed = subst Resumed (sym same) computed
