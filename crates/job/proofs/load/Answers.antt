-- `job::load` meets its contract: what its bodies are judged as is what `loaded_of` says.
use Rattle.std.proofs.Common.{◌∙◌, sym, refl}
use Rattle.job.specs.Load.{loaded_of, OnJob}
use Rattle.job.proofs.Laws.Theorems.Loads.{load_told}
use Rattle.job.proofs.Parts.{found_lies, found_inside, judged_load, judged_on}
use Rattle.job_contents.specs.Contents.{Lies}
use Rattle.std.proofs.lemmas.Result.{err_from_is_err_and}
use Rattle.job.proofs.load.Goals as goal

pub slices_of-p-requires : goal.slices_of-p-requires
slices_of-p-requires c = found_inside c.in_ok-b.ensures.is refl

pub returns-in_err-b : goal.returns-in_err-b
unfolding loaded_of OnJob
returns-in_err-b c =
    let p = err_from_is_err_and c.from_residual.result c.from_residual.ensures.1 in
    rw (p.1, p.2) (load_told _ (rw (← c.in_err-b.ensures.is)) tt)

pub returns : goal.returns
returns c =
    let e = rw (c.slices_of-p.ensures.settings, c.slices_of-p.ensures.records, c.slices_of-p.ensures.rows) at c.judged.ensures in
    load_told _ (e ∙ judged_load _ (sym c.in_ok-b.ensures.is))
    (rw e (judged_on (Lies _) _ _ _ (found_lies c.in_ok-b.ensures.is refl)))
