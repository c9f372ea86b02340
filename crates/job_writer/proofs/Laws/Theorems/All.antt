-- Every theorem, proved.
-- Assumes nothing.
use Rattle.job_writer.specs.Theorems.{Theorems}
use Rattle.job_writer.proofs.Laws.Theorems.Said.{made_exactly, one_made}
use Rattle.job_writer.proofs.Laws.Theorems.Reads as reads

pub theorems : Theorems
theorems =
    record {
      accepts = reads.accepts;
      writes = reads.writes;
      refuses = reads.refuses;
      short = reads.short;
      untouched = reads.untouched;
      reads_back = reads.reads_back;
      written_read = reads.written_read;
      rest_stays = reads.rest_stays;
      taken_written = reads.taken_written;
      taken_made = reads.taken_made;
      taken_filled = reads.taken_filled;
      is_file = reads.is_file;
      made_said = made_exactly;
      one_made = one_made;
    }
