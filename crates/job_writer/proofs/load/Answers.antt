-- `job_writer::load` meets its contract: the contents, and what the parts are judged as.
use Rattle.std.proofs.Common.{sym, ◌∙◌}
use Rattle.std.proofs.lemmas.Result.{err_from_is_err_and}
use Rattle.job_writer.specs.Parts.{loaded_by}
use Rattle.job_writer.proofs.Laws.Parts.{loaded_parts}
use Rattle.job_writer.proofs.load.Goals as goal

pub returns-in_err-b : goal.returns-in_err-b
unfolding loaded_by
returns-in_err-b c =
    let p = err_from_is_err_and c.from_residual.result c.from_residual.ensures.1 in
    rw (p.1, p.2) ((rw (← c.in_err-b.ensures)) ∙ sym (loaded_parts _ _ _ _))

pub returns : goal.returns
unfolding loaded_by
returns c =
    let a = c.args in
    c.judged.ensures ∙ sym (loaded_parts a.kind a.settings.now a.records.now a.rows.now ∙ (rw (← c.in_ok-b.ensures)))
