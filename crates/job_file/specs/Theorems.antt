-- What the definitions of writing imply: the reader finds the parts of a file as they were handed in, every file with
-- right contents is the file of its own parts, and the numbers of settings and records are read back from their bytes.
-- Statements alone. Their proof stands in Theorems/.
-- RULES: file, settings, records, writing
-- Definitions, to be believed.
use Rattle.std.specs.Prelude.{ℕ, ◌+◌, ◌-◌, ◌*◌, ◌%◌, ◌≤◌, ◌<◌, ◌≡◌, List, ◌++◌, ℤ, pos, neg_ℤ, ◌+ℤ◌, length, take, drop, ◌≤ℤ◌, ◌<ℤ◌, Ok, Err, Result}
use Rattle.constants.specs.Refusals.{refusal, file_too_long, wrong_contents}
use Rattle.constants.specs.Sizes.{file_most, contents_bytes, settings_bytes, record_bytes, row_bytes}
use Rattle.ground.specs.declared.Refusal.{Refusal}
use Rattle.power.specs.declared.Triple.{Triple}
use Rattle.gap_records.specs.declared.Sequence.{Sequence}
use Rattle.gap_records.specs.Records.{sequence_at, record_of}
use Rattle.job_contents.specs.Contents.{second, contents_of, bodies_at, Whole}
use Rattle.job_settings.specs.declared.Settings.{Settings}
use Rattle.job_settings.specs.Body.{twos_complement, settings_in, triple_in, settings_fault, taken_by, settings_read}
use Rattle.job_file.specs.File.{file_of, file_size, Shaped, AllBytes}
use Rattle.job_file.specs.Numbers.{signed_bits, settings_bytes_of, record_bytes_of, Held, SettingsHeld, RecordHeld}

-- ---- the file that three parts make

pub record OfParts (kind : ℕ) (settings records rows : List ℕ) : Type 0 where
  pub size : length (file_of kind settings records rows) ≡ file_size settings records rows
  -- what its contents say, in the order of the refusals
  pub over : file_most < file_size settings records rows →
      contents_of (file_of kind settings records rows) ≡ Err (refusal file_too_long 0)
  pub no_kind : file_size settings records rows ≤ file_most → (kind ≡ 1 → ⊥) →
      contents_of (file_of kind settings records rows) ≡ Err (refusal wrong_contents 0)
  pub no_settings : file_size settings records rows ≤ file_most → kind ≡ 1 → (length settings ≡ settings_bytes → ⊥) →
      contents_of (file_of kind settings records rows) ≡ Err (refusal wrong_contents 1)
  pub no_records : file_size settings records rows ≤ file_most → kind ≡ 1 → length settings ≡ settings_bytes →
      (length records % record_bytes ≡ 0 → ⊥) →
      contents_of (file_of kind settings records rows) ≡ Err (refusal wrong_contents 2)
  pub no_rows : file_size settings records rows ≤ file_most → kind ≡ 1 → length settings ≡ settings_bytes →
      length records % record_bytes ≡ 0 → (length rows % row_bytes ≡ 0 → ⊥) →
      contents_of (file_of kind settings records rows) ≡ Err (refusal wrong_contents 3)
  pub found : Shaped kind settings records rows →
      contents_of (file_of kind settings records rows) ≡
      Ok (bodies_at (contents_bytes + length settings) (contents_bytes + length settings + length records))
  -- and each part as it was handed in
  pub its_settings : take (length settings) (drop contents_bytes (file_of kind settings records rows)) ≡ settings
  pub its_records :
      take (length records) (drop (contents_bytes + length settings) (file_of kind settings records rows)) ≡ records
  pub its_rows :
      drop (contents_bytes + length settings + length records) (file_of kind settings records rows) ≡ rows

-- ---- numbers

-- how settings are judged as numbers
abbrev pub judged_of : Settings → Triple → Result Settings Refusal
judged_of s t = taken_by (settings_fault s t 0) s

-- a signed number of so many bits: it fits them, and it is read back, or else the nearest that they hold
-- DECISIONS: writing-nearest
pub record IsBits (half : ℕ) (z : ℤ) : Type 0 where
  pub below : signed_bits half z < 2 * half
  pub back : Held half z → twos_complement half (signed_bits half z) ≡ z
  pub greatest : pos half ≤ℤ z → twos_complement half (signed_bits half z) ≡ pos (half - 1)
  pub least : (z +ℤ pos half) <ℤ pos 0 → twos_complement half (signed_bits half z) ≡ neg_ℤ (pos half)

-- settings and their triple: twelve bytes, read back, and with a maximum that one byte holds judged as the numbers are,
-- also where the start power is none that two bytes hold
pub record OfSettings (s : Settings) (t : Triple) : Type 0 where
  pub twelve : length (settings_bytes_of s t) ≡ settings_bytes
  pub back : SettingsHeld s → settings_in (settings_bytes_of s t) ≡ s
  pub triple : triple_in (settings_bytes_of s t) ≡ t
  pub judged : Held 128 s.maximum → settings_read (settings_bytes_of s t) ≡ judged_of s t

-- a gap record: twelve bytes, read back alone and as record k of a part
pub record OfRecord (q : Sequence) : Type 0 where
  pub twelve : length (record_bytes_of q) ≡ record_bytes
  pub back : RecordHeld q → sequence_at (record_bytes_of q) 0 ≡ q
  pub among : (before after : List ℕ) (k : ℕ) → length before ≡ record_bytes * k → RecordHeld q →
      record_of (before ++ record_bytes_of q ++ after) k ≡ q

-- ---- every theorem with its premises

pub record Theorems : Type 0 where
  pub of_parts : (kind : ℕ) (settings records rows : List ℕ) → OfParts kind settings records rows
  -- every file with right contents is the file of its own parts, byte for byte
  pub own_parts : (job : List ℕ) → AllBytes job → Whole job →
      file_of 1 (take settings_bytes (drop contents_bytes job))
      (take (second job).length (drop (contents_bytes + settings_bytes) job))
      (drop (contents_bytes + settings_bytes + (second job).length) job) ≡ job
  pub bits : (half : ℕ) → 1 ≤ half → (z : ℤ) → IsBits half z
  pub of_settings : (s : Settings) (t : Triple) → OfSettings s t
  pub of_record : (q : Sequence) → OfRecord q
