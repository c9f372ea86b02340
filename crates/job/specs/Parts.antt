-- What a load says where the contents were found, asked of the bodies alone, and that they follow each other inside the
-- file.
-- Definitions, to be believed.
use Rattle.std.specs.Prelude.{ℕ, ◌+◌, ◌/◌, ◌≤◌, List, ltb, length, Ok, Err}
use Rattle.ground.specs.Choice.{when◌then◌else◌}
use Rattle.constants.specs.Sizes.{triple_bytes, row_bytes, rows_most}
use Rattle.constants.specs.Refusals.{refusal, too_many_rows}
use Rattle.gap_records.specs.Records.{checked_of}
use Rattle.job_contents.specs.declared.Bodies.{Bodies}
use Rattle.job_settings.specs.Body.{settings_read}
use Rattle.job.specs.Load.{Loaded, after_settings, after_records}

-- settings, records, and the number of rows
unfoldable pub bodies_judged : Bodies → (settings records rows : List ℕ) → Loaded
bodies_judged b settings records rows =
    after_settings (settings_read settings) λ s.
    after_records (checked_of records) (when ltb rows_most (length rows / row_bytes)
    then Err (refusal too_many_rows rows_most) else Ok (s, b))

-- the bounds of the parts that are handed on
pub record Inside (job : List ℕ) (b : Bodies) : Type 0 where
  pub settings : b.settings ≤ b.records
  pub gains : b.gains + triple_bytes ≤ b.records
  pub records : b.records ≤ b.rows
  pub rows : b.rows ≤ length job
