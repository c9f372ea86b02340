-- What the definitions of writing imply: the writer refuses what the reader refuses and nothing else, what is written
-- reads back as the same parts, what is taken, written again, is the same bytes, and a job is taken exactly where it is
-- the file of right parts. Statements alone, and at the end the list of all theorems with their premises. Their proofs
-- stand in Theorems/.
-- RULES: writing
-- Definitions, to be believed.
use Rattle.std.specs.Prelude.{ℕ, ◌≤◌, ◌<◌, ◌≡◌, ◌↔◌, List, length, take, drop, Ok, Err, Result}
use Rattle.std.proofs.lemmas.List.Edits.{sets}
use Rattle.ground.specs.declared.Refusal.{Refusal}
use Rattle.constants.specs.Refusals.{refusal, too_many_rows, short_bytes}
use Rattle.job_contents.specs.declared.Bodies.{Bodies}
use Rattle.job_settings.specs.declared.Settings.{Settings}
use Rattle.job.specs.Load.{settings_body, records_body, rows_body, loaded_of}
use Rattle.job_file.specs.File.{file_of, file_size, AllBytes}
use Rattle.job_writer.specs.Writing.{ended, made_of, Right, WriteSays, WriteTold}

-- the reader takes a job: a load of it finds some settings and bodies
pub record ReaderTakes (job : List ℕ) : Type 0 where
  pub its_settings : Settings
  pub bodies : Bodies
  pub loaded : loaded_of job ≡ Ok (its_settings, bodies)

-- the reader takes a job, and these are its three parts
pub record ReadsAs (job settings records rows : List ℕ) : Type 0 where
  pub taken : ReaderTakes job
  pub settings_back : settings_body job taken.bodies ≡ settings
  pub records_back : records_body job taken.bodies ≡ records
  pub rows_back : rows_body job taken.bodies ≡ rows

-- a job is the file, of kind 1, of some three right parts
pub record RightFile (job : List ℕ) : Type 0 where
  pub settings : List ℕ
  pub records : List ℕ
  pub rows : List ℕ
  pub right : Right 1 settings records rows
  pub is : file_of 1 settings records rows ≡ job

pub record Theorems : Type 0 where
  -- "It accepts exactly what the reader would": the reader takes the file that parts make exactly where the parts are
  -- right
  pub accepts : (kind : ℕ) (settings records rows : List ℕ) →
      ReaderTakes (file_of kind settings records rows) ↔ Right kind settings records rows
  -- and the answer is a file, of the size of that one, exactly where the reader takes that one and there is room for it
  pub writes : (kind : ℕ) (settings records rows out : List ℕ) →
      (made_of kind settings records rows out).result ≡ Ok (file_size settings records rows) ↔
      ReaderTakes (file_of kind settings records rows) × (file_size settings records rows ≤ length out)
  -- "the reader's 1 to 7 for the file they make": with a number up to 7 the writer refuses, the lent bytes as they
  -- were, exactly where a load of the file refuses, with the same number and place
  pub refuses : (kind : ℕ) (settings records rows out : List ℕ) (r : Refusal) → r.number ≤ too_many_rows →
      made_of kind settings records rows out ≡ ended (Err r) out ↔
      loaded_of (file_of kind settings records rows) ≡ Err r
  -- "then 12 if the lent bytes are too few, at the size needed": so it refuses, the lent bytes as they were,
  -- exactly where the reader takes the file and they are too few
  pub short : (kind : ℕ) (settings records rows out : List ℕ) →
      made_of kind settings records rows out ≡
      ended (Err (refusal short_bytes (file_size settings records rows))) out ↔
      ReaderTakes (file_of kind settings records rows) × (length out < file_size settings records rows)
  -- "on any of them nothing is written": on any refusal the lent bytes are as they were
  pub untouched : (kind : ℕ) (settings records rows out : List ℕ) {r : Refusal} →
      (made_of kind settings records rows out).result ≡ Err r → (made_of kind settings records rows out).out ≡ out
  -- "what is written reads back as the same parts": a file of parts that the reader takes reads back as these parts,
  -- and so do as many of the lent bytes afterwards, from the first on, as the answer says
  pub reads_back : (kind : ℕ) (settings records rows : List ℕ) → ReaderTakes (file_of kind settings records rows) →
      ReadsAs (file_of kind settings records rows) settings records rows
  pub written_read : (kind : ℕ) (settings records rows out : List ℕ) {size : ℕ} →
      (made_of kind settings records rows out).result ≡ Ok size →
      ReadsAs (take size (made_of kind settings records rows out).out) settings records rows
  -- and the lent bytes after these stay
  pub rest_stays : (kind : ℕ) (settings records rows out : List ℕ) {size : ℕ} →
      (made_of kind settings records rows out).result ≡ Ok size →
      drop size (made_of kind settings records rows out).out ≡ drop size out
  -- "What the reader accepts, written again, gives the same bytes": the parts as which a job of bytes is read make that
  -- job; written where there is room for it, they give the job from the first lent byte on, the others as they were;
  -- and where there is just room, the lent bytes are the job
  pub taken_written : (job : List ℕ) → AllBytes job → {settings records rows : List ℕ} →
      ReadsAs job settings records rows → file_of 1 settings records rows ≡ job
  pub taken_made : (job : List ℕ) → AllBytes job → {settings records rows : List ℕ} →
      ReadsAs job settings records rows → (out : List ℕ) → length job ≤ length out →
      made_of 1 settings records rows out ≡ ended (Ok (length job)) (sets out 0 job)
  pub taken_filled : (job : List ℕ) → AllBytes job → {settings records rows : List ℕ} →
      ReadsAs job settings records rows → (out : List ℕ) → length out ≡ length job →
      made_of 1 settings records rows out ≡ ended (Ok (length job)) job
  -- one definition of what a job file is, for the reader and for the writer: the reader takes a job of bytes exactly
  -- where it is the file of right parts
  pub is_file : (job : List ℕ) → AllBytes job → ReaderTakes job ↔ RightFile job
  -- each answer exactly where its case says so, and one answer
  pub made_said : (kind : ℕ) (settings records rows out : List ℕ) (answer : Result ℕ Refusal) (after : List ℕ) →
      made_of kind settings records rows out ≡ ended answer after ↔
      WriteSays kind settings records rows out answer after
  pub one_made : (kind : ℕ) (settings records rows out : List ℕ) {x y : Result ℕ Refusal} {o p : List ℕ} →
      WriteTold kind settings records rows out x o → WriteTold kind settings records rows out y p → (x ≡ y) × (o ≡ p)
