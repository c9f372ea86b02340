-- `job::start` meets its contract: the load says which case it is.
use Rattle.job.specs.Load.{refusal_of}
use Rattle.job.specs.Jobs.{started_of}
use Rattle.job.proofs.Laws.Theorems.Said.{start_told_lem}
use Rattle.job.proofs.start.Goals as goal

pub returns-in_default : goal.returns-in_default
unfolding started_of refusal_of
returns-in_default c = start_told_lem _ (rw (← c.load-loaded.ensures.is, c.refusal.ensures, c.in_default.is))

pub returns : goal.returns
unfolding started_of
returns c = start_told_lem _ (rw (← c.in-Ok.ensures.is, c.start.ensures))
