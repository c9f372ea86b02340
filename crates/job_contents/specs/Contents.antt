-- "The job file": its table of contents, and refusals 1 and 2.
-- RULES: file, refusals
-- Definitions, to be believed.
use Rattle.std.specs.Prelude.{ℕ, ◌+◌, ◌*◌, ◌%◌, ◌≤◌, ◌<◌, ◌≡◌, Bool, not, ◌||◌, List, ltb, eqb, length, get_or, Ok, Err, Result}
use Rattle.ground.specs.Choice.{when◌then◌else◌}
use Rattle.ground.specs.Bytes.{pair_of}
use Rattle.ground.specs.declared.Refusal.{Refusal}
use Rattle.constants.specs.Refusals.{refusal, no_refusal, file_too_long, wrong_contents}
use Rattle.constants.specs.Sizes.{file_most, contents_bytes, settings_bytes, record_bytes, row_bytes}
use Rattle.constants.specs.Sizes.{gains_place, triple_bytes}
use Rattle.job_contents.specs.declared.Entry.{Entry}
use Rattle.job_contents.specs.declared.Bodies.{Bodies}

-- "Numbers are little-endian."
abbrev pub quad_of : (a b c d : ℕ) → ℕ
quad_of a b c d = pair_of a b + 65536 * pair_of c d

abbrev pub quad_at : List ℕ → ℕ → ℕ
quad_at job at = quad_of (get_or job at 0) (get_or job (at + 1) 0) (get_or job (at + 2) 0) (get_or job (at + 3) 0)

-- "entries of 9 bytes: kind (1), offset (4), length (4)": the one that starts at a byte
unfoldable pub entry_at : List ℕ → ℕ → Entry
entry_at job at = record { kind = get_or job at 0; offset = quad_at job (at + 1); length = quad_at job (at + 5) }

-- "Byte 0 is 1, byte 1 is 3, then three entries": the first, the second and the third
abbrev pub first : List ℕ → Entry
first job = entry_at job 2

abbrev pub second : List ℕ → Entry
second job = entry_at job 11

abbrev pub third : List ℕ → Entry
third job = entry_at job 20

-- where a body ends: its offset and its length as whole numbers, that is without a wrap
-- DECISIONS: file-ends-whole
abbrev pub end_of : Entry → ℕ
end_of e = e.offset + e.length

-- "Body 1 starts at byte 29", and its triple at its byte 5; where the second and the third body begin
abbrev pub bodies_at : (records rows : ℕ) → Bodies
bodies_at records rows =
    record { settings = contents_bytes; gains = contents_bytes + gains_place; records = records; rows = rows }

-- a claim on where the bodies lie, where they were found
abbrev pub OnFound : (Bodies → Type 0) → Result Bodies Refusal → Type 0
OnFound P (Ok b) = P b
OnFound P (Err r) = Unit {0}

-- "an entry's kind or offset wrong", "a body past the end"
unfoldable pub wrong_entry : (size kind begin : ℕ) → Entry → Bool
wrong_entry size kind begin e = not (eqb e.kind kind) || not (eqb e.offset begin) || ltb size (end_of e)

-- a body that is no whole number of so many bytes
abbrev pub uneven : (bytes : ℕ) → Entry → Bool
uneven bytes e = not (eqb (e.length % bytes) 0)

-- "Kinds are 1, 2, 3 in that order." "Body 1 starts at byte 29, each later one where the one before ends, and body 3
-- ends the file." "body 1 not 12 bytes, body 2 no multiple of 12, body 3 odd", "body 3 not ending the file | entry 1
-- to 3"
-- DECISIONS: file-first-entry
unfoldable pub entries_of : (size : ℕ) (one two three : Entry) → Result Bodies Refusal
entries_of size one two three =
    when wrong_entry size 1 contents_bytes one || not (eqb one.length settings_bytes)
    then Err (refusal wrong_contents 1) else
    when wrong_entry size 2 (end_of one) two || uneven record_bytes two
    then Err (refusal wrong_contents 2) else
    when wrong_entry size 3 (end_of two) three || uneven row_bytes three || not (eqb (end_of three) size)
    then Err (refusal wrong_contents 3) else
    Ok (bodies_at (end_of one) (end_of two))

-- "1 | file over 65,536 bytes | 0", "2 | file under 29 bytes, byte 0 or 1 wrong (place 0)", then the entries
unfoldable pub contents_of : List ℕ → Result Bodies Refusal
contents_of job =
    when ltb file_most (length job) then Err (refusal file_too_long 0) else
    when ltb (length job) contents_bytes then Err (refusal wrong_contents 0) else
    when not (eqb (get_or job 0 0) 1) || not (eqb (get_or job 1 0) 3) then Err (refusal wrong_contents 0) else
    entries_of (length job) (first job) (second job) (third job)

-- ---- the same without an order of tests

-- "Byte 0 is 1, byte 1 is 3, then three entries of 9 bytes"
pub record Headed (job : List ℕ) : Type 0 where
  pub long : contents_bytes ≤ length job
  pub byte_0 : get_or job 0 0 ≡ 1
  pub byte_1 : get_or job 1 0 ≡ 3

-- an entry's kind, where its body begins, and that the body is a part of the file
pub record Right (size kind begin : ℕ) (e : Entry) : Type 0 where
  pub its_kind : e.kind ≡ kind
  pub its_offset : e.offset ≡ begin
  pub inside : end_of e ≤ size

-- "Body 1 starts at byte 29": "Settings (12 bytes)"
pub record FirstRight (job : List ℕ) : Type 0 where
  pub entry : Right (length job) 1 contents_bytes (first job)
  pub twelve : (first job).length ≡ settings_bytes

-- "each later one where the one before ends": "Gap records (12 bytes …)"
pub record SecondRight (job : List ℕ) : Type 0 where
  pub entry : Right (length job) 2 (end_of (first job)) (second job)
  pub whole : (second job).length % record_bytes ≡ 0

-- "Rows (2 bytes …)", "and body 3 ends the file"
pub record ThirdRight (job : List ℕ) : Type 0 where
  pub entry : Right (length job) 3 (end_of (second job)) (third job)
  pub even : (third job).length % row_bytes ≡ 0
  pub last : end_of (third job) ≡ length job

-- all of it
-- DECISIONS: file-even
pub record Whole (job : List ℕ) : Type 0 where
  pub few : length job ≤ file_most
  pub headed : Headed job
  pub first_right : FirstRight job
  pub second_right : SecondRight job
  pub third_right : ThirdRight job

-- ---- the answer, case by case

-- the page's number and place of each case: a refusal, and none where the bodies were found
abbrev pub refusal_of : Result Bodies Refusal → Refusal
refusal_of (Ok b) = no_refusal
refusal_of (Err r) = r

-- what each case says of the file: each number and place, and where the bodies lie
pub data ContentsSay (job : List ℕ) : Result Bodies Refusal → Type 0 where
  over : file_most < length job → ContentsSay job (Err (refusal file_too_long 0))
  unheaded : length job ≤ file_most → (Headed job → ⊥) → ContentsSay job (Err (refusal wrong_contents 0))
  first_wrong : length job ≤ file_most → Headed job → (FirstRight job → ⊥) →
      ContentsSay job (Err (refusal wrong_contents 1))
  second_wrong : length job ≤ file_most → Headed job → FirstRight job → (SecondRight job → ⊥) →
      ContentsSay job (Err (refusal wrong_contents 2))
  third_wrong : length job ≤ file_most → Headed job → FirstRight job → SecondRight job → (ThirdRight job → ⊥) →
      ContentsSay job (Err (refusal wrong_contents 3))
  right : Whole job → ContentsSay job (Ok (bodies_at (end_of (first job)) (end_of (second job))))

-- what the reading of the contents promises: its answer, what this says, and its number on the page: none, 1 or 2
pub record ContentsTold (job : List ℕ) (answer : Result Bodies Refusal) : Type 0 where
  pub is : answer ≡ contents_of job
  pub says : ContentsSay job answer
  pub number : (refusal_of answer).number ≤ wrong_contents

-- the bodies lie inside the file, one after the other, each as long as its entry states, and end with it; the triple
-- lies inside the settings
pub record Lies (job : List ℕ) (b : Bodies) : Type 0 where
  pub first : b.settings ≡ contents_bytes
  pub gains : b.gains ≡ b.settings + gains_place
  pub triple : b.gains + triple_bytes ≤ b.records
  pub settings : b.records ≡ b.settings + settings_bytes
  pub records : b.rows ≡ b.records + (second job).length
  pub rows : length job ≡ b.rows + (third job).length
