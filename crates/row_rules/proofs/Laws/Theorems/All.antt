-- Every theorem, proved.
-- Assumes nothing.
use Rattle.row_rules.specs.Theorems.{Theorems}
use Rattle.row_rules.proofs.Laws.Theorems.Slots.{slots_said}
use Rattle.row_rules.proofs.Laws.Theorems.Changes.{changed, of_triple}
use Rattle.row_rules.proofs.Laws.Theorems.Once.{one_change}
use Rattle.row_rules.proofs.Laws.Theorems.Books.{balances, largest, one_largest, sent_row_lem, gap_row, ids_told}
use Rattle.row_rules.proofs.Laws.Theorems.Filter.{filter_said}
use Rattle.row_rules.proofs.Laws.Theorems.Refusals.{row_refused, step_refused}
use Rattle.row_rules.proofs.Laws.Theorems.Runs.{run_refused, run_history, run_after_lem, joined}
use Rattle.row_rules.proofs.Laws.Theorems.Said.{row_exactly, step_exactly, run_exactly, one_step, one_run}
use Rattle.row_rules.proofs.Laws.Theorems.Ranges.{start_handed_lem, step_handed, run_handed, state_before, history_handed, step_history}

pub theorems : Theorems
theorems =
    record {
      start = start_handed_lem;
      step = step_handed;
      run = run_handed;
      slots = slots_said;
      changes = changed;
      one_change = one_change;
      books = balances;
      held = largest;
      one_held = one_largest;
      sent = sent_row_lem;
      gap = gap_row;
      ids = ids_told;
      of_triple = of_triple;
      filter = filter_said;
      row_refused = row_refused;
      step_refused = step_refused;
      run_refused = run_refused;
      history_handed = history_handed;
      state_before = state_before;
      run_history = run_history;
      run_after = run_after_lem;
      step_history = step_history;
      joined = joined;
      row_said = row_exactly;
      step_said = step_exactly;
      run_said = run_exactly;
      one_step = one_step;
      one_run = one_run;
    }
