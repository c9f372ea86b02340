-- `job_writer::write` meets its contract: a job that is taken is not too long, and each end is that of its load.
use Rattle.std.proofs.Common.{arith}
use Rattle.std.proofs.lemmas.Result.{err_from_is_err_and}
use Rattle.job_writer.proofs.Steps.{refused_end, few, short_end, file_end}
use Rattle.job_writer.proofs.write.Goals as goal

pub returns-in_err-load : goal.returns-in_err-load
returns-in_err-load c =
    let p = err_from_is_err_and c.from_residual.result c.from_residual.ensures.1 in
    rw (p.1, p.2) (refused_end _ _ _ _ _ c.in_err-load.ensures)

pub overflow_add-size-2 : goal.overflow_add-size-2
overflow_add-size-2 c = omega (arith, few _ _ _ _ c.in_ok-load.ensures)

pub overflow_add-size-3 : goal.overflow_add-size-3
overflow_add-size-3 c = omega (arith, few _ _ _ _ c.in_ok-load.ensures)

pub returns-then-out-size : goal.returns-then-out-size
returns-then-out-size c = short_end _ _ _ _ _ c.in_ok-load.ensures c.if-out-size.true

pub file-requires : goal.file-requires
file-requires c = (omega arith, few _ _ _ _ c.in_ok-load.ensures)

pub returns : goal.returns
returns c = file_end _ _ _ _ _ c.in_ok-load.ensures c.if-out-size.false c.file.ensures
