-- Every theorem, proved.
-- Assumes nothing.
use Rattle.ground.proofs.Laws.OnAnswers.{one_answer}
use Rattle.job.specs.Theorems.{Theorems}
use Rattle.job.proofs.Parts.{judged_load}
use Rattle.job.proofs.Laws.Theorems.Loads.{load_exactly, one_load}
use Rattle.job.proofs.Laws.Theorems.Taking.{takes}
use Rattle.job.proofs.Laws.Theorems.Drops.{dropped, one_length, differ}
use Rattle.job.proofs.Laws.Theorems.Runs.{refused_start, refused_step, refused_run, steps, runs, untouched, start_handed_lem, step_handed, run_handed}
use Rattle.job.proofs.Laws.Theorems.Said.{start_exactly, job_step_exactly, job_run_exactly, one_start, one_step, one_run}

pub theorems : Theorems
theorems =
    record {
      load = load_exactly;
      refused_start = refused_start;
      refused_step = refused_step;
      refused_run = refused_run;
      taken = takes;
      dropped = dropped;
      one_length = one_length;
      differ = differ;
      steps = steps;
      runs = λ job out e. runs job e out;
      untouched = untouched;
      start_handed = start_handed_lem;
      step_handed = λ job st row e f h. step_handed job e st row f h;
      run_handed = λ job out e. run_handed job e out;
      start_said = start_exactly;
      step_said = job_step_exactly;
      run_said = job_run_exactly;
      one_load = one_load;
      judged = judged_load;
      one_judged = λ b settings records rows e f. one_answer e f;
      one_refusal = λ loaded e f. one_answer e f;
      one_start = one_start;
      one_step = one_step;
      one_run = one_run;
    }
