-- `job_writer::part` meets its contract: a copy into so many bytes from a place on.
use Rattle.job_writer.proofs.Steps.{copied}
use Rattle.job_writer.proofs.part.Goals as goal

pub returns : goal.returns
returns c = copied c.args.out.now c.args.bytes.now c.args.at c.requires c.copy_from_slice.ensures.after
