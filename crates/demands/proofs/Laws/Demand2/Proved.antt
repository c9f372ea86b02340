-- Demand 2, proved.
-- Assumes nothing.
use Rattle.levels.proofs.Laws.Level.{level_is, level_unique}
use Rattle.row_rules.proofs.Laws.Theorems.All.{theorems}
use Rattle.job.proofs.Laws.Theorems.All.{theorems as jobs}
use Rattle.demands.specs.Demand2.{RowSaid, Demand2}
use Rattle.demands.proofs.Laws.Demand2.Said.{named, row_said_lem, of_a_row, same_command}
use Rattle.demands.proofs.Laws.Demand2.Met.{meets}
use Rattle.demands.proofs.Laws.Live.Calls.{of_a_call}
use Rattle.demands.proofs.Laws.Live.OnAnswers.{on_answers}
use Rattle.demands.proofs.Laws.Live.AnyNumbers.{of_a_lent_call}
use Rattle.demands.proofs.Laws.Live.{of_a_start}
use Rattle.demands.proofs.Laws.Demand2.Shut.{done, refuses_everything, takes_damaged, same_row_always, no_answers, row_0_copied}

pub demand2 : Demand2
demand2 =
    record {
      named = named;
      rows = row_said_lem;
      live_rows = λ l more out. on_answers l more out RowSaid row_said_lem;
      one_command = same_command;
      one_change = theorems.one_change;
      levels = level_is;
      one_level = level_unique;
      of_a_file = jobs.load;
      of_a_row = of_a_row;
      of_a_start = of_a_start;
      of_a_call = of_a_call;
      of_a_lent_call = of_a_lent_call;
      meets = meets;
      done = done;
      refuses_everything = refuses_everything;
      takes_damaged = takes_damaged;
      same_row_always = same_row_always;
      no_answers = no_answers;
      row_0_copied = row_0_copied;
    }
