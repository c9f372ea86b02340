-- `job_writer::file` meets its contract: the contents, then part after part.
use Rattle.job_writer.proofs.Steps.{file_stored}
use Rattle.job_writer.proofs.file.Goals as goal

pub returns : goal.returns
returns c =
    let a = c.args in
    file_stored a.kind a.settings.now a.records.now a.rows.now a.out.now c.head.ensures c.part.ensures c.part-2.ensures
    c.part-3.ensures
