-- `job::run` meets its contract: the bodies of a job that was loaded lie inside the file, and the load says which case it is.
use Rattle.std.proofs.Common.{refl}
use Rattle.job.specs.Load.{refusal_of}
use Rattle.job.specs.Jobs.{ran_of}
use Rattle.job.proofs.Laws.Theorems.Said.{run_told}
use Rattle.job.proofs.Parts.{loaded_inside}
use Rattle.job.proofs.run.Goals as goal

pub returns-in_default : goal.returns-in_default
unfolding ran_of refusal_of
returns-in_default c = run_told _ _ (rw (← c.in_default.ensures.is, c.refusal.ensures, c.in_default.is))

pub slices_of-p-requires : goal.slices_of-p-requires
slices_of-p-requires c = loaded_inside c.in-Ok.ensures refl

pub returns : goal.returns
unfolding ran_of
returns c =
    run_told _ _
    (rw (← c.in-Ok.ensures.is, ← c.start-st.ensures)
    (rw (c.slices_of-p.ensures.gains, c.slices_of-p.ensures.records, c.slices_of-p.ensures.rows) at c.run.ensures.is))
