-- What a reader says of the file that parts make, asked of the parts alone: the writer makes no file that is refused.
-- Definitions beside the rules, which need not be believed.
use Rattle.std.specs.Prelude.{ℕ, ◌+◌, ◌%◌, not, List, ltb, eqb, length, Ok, Err, Result}
use Rattle.ground.specs.Choice.{when◌then◌else◌}
use Rattle.constants.specs.Sizes.{file_most, contents_bytes, settings_bytes, record_bytes, row_bytes}
use Rattle.constants.specs.Refusals.{refusal, file_too_long, wrong_contents}
use Rattle.job_contents.specs.Contents.{bodies_at}
use Rattle.job.specs.Load.{Loaded}
use Rattle.job.specs.Load.{after_contents}
use Rattle.job.specs.Parts.{bodies_judged}
use Rattle.ground.specs.declared.Refusal.{Refusal}
use Rattle.job_contents.specs.declared.Bodies.{Bodies}

-- the contents, by the kind and the lengths of the three parts: 1 and 2
unfoldable pub contents_by : (kind settings records rows : ℕ) → Result Bodies Refusal
contents_by kind settings records rows =
    when ltb file_most (contents_bytes + settings + records + rows) then Err (refusal file_too_long 0) else
    when not (eqb kind 1) then Err (refusal wrong_contents 0) else
    when not (eqb settings settings_bytes) then Err (refusal wrong_contents 1) else
    when not (eqb (records % record_bytes) 0) then Err (refusal wrong_contents 2) else
    when not (eqb (rows % row_bytes) 0) then Err (refusal wrong_contents 3) else
    Ok (bodies_at (contents_bytes + settings) (contents_bytes + settings + records))

-- the load: contents, settings, records, and the number of rows
unfoldable pub loaded_by : (kind : ℕ) (settings records rows : List ℕ) → Loaded
loaded_by kind settings records rows =
    after_contents (contents_by kind (length settings) (length records) (length rows)) λ b.
    bodies_judged b settings records rows
