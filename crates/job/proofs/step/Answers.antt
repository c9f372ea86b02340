-- `job::step` meets its contract: the bodies of a job that was loaded lie inside the file, and the load says which case it is.
use Rattle.std.proofs.Common.{sym, refl}
use Rattle.job.specs.Load.{refusal_of}
use Rattle.job.specs.Jobs.{stepped_of}
use Rattle.job.proofs.Laws.Theorems.Said.{step_refused, step_taken}
use Rattle.job.proofs.Parts.{loaded_inside}
use Rattle.job.proofs.step.Goals as goal

pub returns-in_default : goal.returns-in_default
unfolding stepped_of refusal_of
returns-in_default c =
    step_refused _ _ _ (sym c.in_default.ensures.is) (rw (← c.in_default.ensures.is, c.refusal.ensures, c.in_default.is))

pub slices_of-p-requires : goal.slices_of-p-requires
slices_of-p-requires c = loaded_inside c.in-Ok.ensures refl

pub returns : goal.returns
returns c =
    step_taken _ _ _ (sym c.in-Ok.ensures.is)
    (rw (c.slices_of-p.ensures.gains, c.slices_of-p.ensures.records) at c.step.ensures)
