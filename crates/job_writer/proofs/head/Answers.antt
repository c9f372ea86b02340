-- `job_writer::head` meets its contract: two bytes, then entry after entry.
use Rattle.job_writer.proofs.Steps.{head_stored}
use Rattle.job_writer.proofs.head.Goals as goal

pub returns : goal.returns
returns c =
    let a = c.args in
    head_stored a.kind a.settings a.records a.rows a.out.now c.part.ensures c.entry.ensures c.entry-2.ensures c.entry-3.ensures
