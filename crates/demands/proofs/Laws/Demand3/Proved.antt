-- Demand 3, proved.
-- Assumes nothing.
use Rattle.row_rules.proofs.Laws.Theorems.All.{theorems}
use Rattle.demands.specs.Demand3.{Balanced, Demand3}
use Rattle.demands.proofs.Laws.Live.OnAnswers.{on_answers}
use Rattle.demands.proofs.Laws.Demand1.Proved.{one_text}
use Rattle.demands.proofs.Laws.Demand3.Rows.{books, kept, same_amount, one_row}
use Rattle.demands.proofs.Laws.Demand3.One.{keeps, one_run, one_step}

pub demand3 : Demand3
demand3 =
    record {
      books = books;
      live_books = λ l more out. on_answers l more out (λ h t. Balanced h) books;
      kept = kept;
      same_amount = same_amount;
      one_held = theorems.one_held;
      one_answer = one_row;
      keeps = keeps;
      one_run = one_run;
      one_step = one_step;
      one_text = λ ref m job. one_text job _ (m.prints job);
    }
