-- Every theorem, proved.
-- Assumes nothing.
use Rattle.job_file.specs.Theorems.{Theorems}
use Rattle.job_file.proofs.Laws.File as file
use Rattle.job_file.proofs.Laws.Numbers as numbers

pub theorems : Theorems
theorems =
    record {
      of_parts = λ kind settings records rows.
          record {
            size = file.file_length kind settings records rows;
            over = file.file_over kind settings records rows;
            no_kind = file.file_kind kind settings records rows;
            no_settings = file.file_settings kind settings records rows;
            no_records = file.file_records kind settings records rows;
            no_rows = file.file_rows_lem kind settings records rows;
            found = file.file_found kind settings records rows;
            its_settings = file.settings_part kind settings records rows;
            its_records = file.records_part kind settings records rows;
            its_rows = file.rows_part_lem kind settings records rows;
          };
      own_parts = file.whole_file;
      bits = λ half some z.
          record {
            below = numbers.signed_below half some z;
            back = numbers.signed_back half some z;
            greatest = numbers.signed_above half some z;
            least = numbers.signed_beneath half some z;
          };
      of_settings = λ s t.
          record {
            twelve = numbers.settings_length s t;
            back = numbers.settings_back s t;
            triple = numbers.triple_back s t;
            judged = numbers.settings_judged s t;
          };
      of_record = λ q. record { twelve = numbers.record_length q; back = numbers.record_back q; among = numbers.record_among q };
    }
