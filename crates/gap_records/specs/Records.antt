-- "Gap records (12 bytes, 0 to 6 of them)": the numbers of each, and refusals 4, 5 and 6.
-- RULES: records, refusals
-- Definitions, to be believed.
use Rattle.std.specs.Prelude.{ℕ, zero, suc, ◌+◌, ◌*◌, ◌/◌, ◌≤◌, ◌<◌, ◌≡◌, ◌⊎◌, List, [], ◌∷◌, Bool, false, ◌||◌, length, get_or, ltb, eqb, Ok, Err, Result, Option, Some, None}
use Rattle.std.specs.Option.{option_or}
use Rattle.ground.specs.declared.Refusal.{Refusal}
use Rattle.ground.specs.Bytes.{pair_at}
use Rattle.ground.specs.Choice.{when◌then◌else◌}
use Rattle.ground.specs.Outside.{outside, Outside}
use Rattle.constants.specs.Sizes.{record_bytes, records_most, id_most}
use Rattle.constants.specs.Refusals.{refusal, no_refusal, too_many_records, wrong_record, repeated_id}
use Rattle.gap_records.specs.declared.Sequence.{Sequence}

-- "0 id …; 1 direction …; 2 TGSN …; 3 TGL1 …; 4 TGL2 …; 5 TGPL …; 6-7 TGPRC …; 8-9 TGD …; 10-11 start frame"
-- DECISIONS: records-start-any
unfoldable pub sequence_at : List ℕ → ℕ → Sequence
sequence_at s at = record {
  id = get_or s at 0;
  direction = get_or s (at + 1) 0;
  tgsn = get_or s (at + 2) 0;
  tgl1 = get_or s (at + 3) 0;
  tgl2 = get_or s (at + 4) 0;
  tgpl = get_or s (at + 5) 0;
  tgprc = pair_at s (at + 6);
  tgd = pair_at s (at + 8);
  start = pair_at s (at + 10);
}

-- record k of a part, from 0
abbrev pub record_of : List ℕ → ℕ → Sequence
record_of s k = sequence_at s (record_bytes * k)

-- the `left` records from record k on
unfoldable pub sequences_from : List ℕ → ℕ → ℕ → List Sequence
sequences_from s zero k = []
sequences_from s (suc left) k = record_of s k ∷ sequences_from s left (k + 1)

-- how many records a part has: bytes that are left over at its end belong to none
-- DECISIONS: records-whole
abbrev pub count_of : List ℕ → ℕ
count_of s = length s / record_bytes

-- a record of zeros
abbrev pub blank : Sequence
blank = record { id = 0; direction = 0; tgsn = 0; tgl1 = 0; tgl2 = 0; tgpl = 0; tgprc = 0; tgd = 0; start = 0 }

-- record k of a part that has one, and a record of zeros for any other k
unfoldable pub record_at : List ℕ → ℕ → Sequence
record_at s k = when ltb k (count_of s) then record_of s k else blank

-- "0 id 1 to 6; 1 direction, 1 uplink, 2 downlink, 3 both; 2 TGSN 0 to 14; 3 TGL1 1 to 14; 4 TGL2 0 to
-- 14 …; 5 TGPL 1 to 144 frames; 6-7 TGPRC 0 to 511 …": the byte of the first that is wrong, if any
unfoldable pub number_fault : (id direction tgsn tgl1 tgl2 tgpl tgprc : ℕ) → Option ℕ
number_fault id direction tgsn tgl1 tgl2 tgpl tgprc =
    when outside 1 id_most id then Some 0 else
    when outside 1 3 direction then Some 1 else
    when ltb 14 tgsn then Some 2 else
    when outside 1 14 tgl1 then Some 3 else
    when ltb 14 tgl2 then Some 4 else
    when outside 1 144 tgpl then Some 5 else
    when ltb 511 tgprc then Some 6 else
    None

-- "8-9 TGD, 15 to 269, but 0 when TGL2 is 0"
unfoldable pub wrong_tgd : (tgl2 tgd : ℕ) → Bool
wrong_tgd tgl2 tgd = when ltb tgl2 1 then ltb 0 tgd else outside 15 269 tgd

-- that, at byte 8; then "Both gaps must end within 15·TGPL slots of the
-- pattern's start", the second where there is one, at byte 5
-- DECISIONS: records-fit-last
unfoldable pub gap_fault : (tgsn tgl1 tgl2 tgpl tgd : ℕ) → Option ℕ
gap_fault tgsn tgl1 tgl2 tgpl tgd =
    when wrong_tgd tgl2 tgd then Some 8 else
    when ltb (15 * tgpl) (tgsn + tgl1) then Some 5 else
    when ltb tgl2 1 then None else
    when ltb (15 * tgpl) (tgsn + tgd + tgl2) then Some 5 else
    None

-- "a record's number breaks its rule, in byte order; a gap that does not fit, last, at its byte 5": that byte, if any
-- DECISIONS: records-fit-last
unfoldable pub record_fault : Sequence → Option ℕ
record_fault q =
    option_or
    (number_fault q.id q.direction q.tgsn q.tgl1 q.tgl2 q.tgpl q.tgprc)
    (gap_fault q.tgsn q.tgl1 q.tgl2 q.tgpl q.tgd)

-- whether some record of a list passes a test
unfoldable pub some : (Sequence → Bool) → List Sequence → Bool
some test [] = false
some test (q ∷ qs) = test q || some test qs

-- whether some record of a list has this id
abbrev pub has_id : ℕ → List Sequence → Bool
has_id id qs = some (λ (q : Sequence). eqb q.id id) qs

-- "5 | a record's number breaks its rule … | offset in body 2": of record k, and where it breaks none what follows
abbrev pub or_broken : (k : ℕ) → Option ℕ → Result ℕ Refusal → Result ℕ Refusal
or_broken k (Some fault) rest = Err (refusal wrong_record (record_bytes * k + fault))
or_broken k None rest = rest

-- "5 … in byte order", "6 an id that an earlier record has; each record is
-- tested for 5, then 6": the `left` records from record k on
-- DECISIONS: file-places, refusals-load-order
unfoldable pub checked_from : Result ℕ Refusal → List ℕ → ℕ → ℕ → Result ℕ Refusal
checked_from good s zero k = good
checked_from good s (suc left) k =
    or_broken k (record_fault (record_of s k)) (
    when has_id (record_of s k).id (sequences_from s k 0) then Err (refusal repeated_id k) else
    checked_from good s left (k + 1))

-- "4 more than 6 gap records", at their count; then every record
-- DECISIONS: refusals-load-order
unfoldable pub checked_of : List ℕ → Result ℕ Refusal
checked_of s =
    when ltb records_most (count_of s) then Err (refusal too_many_records (count_of s)) else
    checked_from (Ok (count_of s)) s (count_of s) 0

-- ---- the same without an order of tests: what is taken

-- "0 id 1 to 6; 1 direction, 1 uplink, 2 downlink, 3 both; 2 TGSN 0 to 14; 3 TGL1 1 to
-- 14; 4 TGL2 0 to 14, 0 for no second gap; 5 TGPL 1 to 144 frames; 6-7 TGPRC 0 to 511, 0
-- for no end; 8-9 TGD, 15 to 269, but 0 when TGL2 is 0; 10-11 start frame.
-- Both gaps must end within 15·TGPL slots of the pattern's start."
pub record Sound (q : Sequence) : Type 0 where
  pub id : (1 ≤ q.id) × (q.id ≤ id_most)
  pub direction : (1 ≤ q.direction) × (q.direction ≤ 3)
  pub tgsn : q.tgsn ≤ 14
  pub tgl1 : (1 ≤ q.tgl1) × (q.tgl1 ≤ 14)
  pub tgl2 : q.tgl2 ≤ 14
  pub tgpl : (1 ≤ q.tgpl) × (q.tgpl ≤ 144)
  pub tgprc : q.tgprc ≤ 511
  pub tgd : 1 ≤ q.tgl2 → (15 ≤ q.tgd) × (q.tgd ≤ 269)
  pub no_tgd : q.tgl2 ≡ 0 → q.tgd ≡ 0
  pub first : q.tgsn + q.tgl1 ≤ 15 * q.tgpl
  pub second : 1 ≤ q.tgl2 → q.tgsn + q.tgd + q.tgl2 ≤ 15 * q.tgpl

-- "a record's number breaks its rule", at its byte; "8-9 TGD, 15 to 269, but 0 when TGL2 is 0"
pub data RecordBreaks (q : Sequence) : ℕ → Type 0 where
  id : Outside 1 id_most q.id → RecordBreaks q 0
  direction : Outside 1 3 q.direction → RecordBreaks q 1
  tgsn : 14 < q.tgsn → RecordBreaks q 2
  tgl1 : Outside 1 14 q.tgl1 → RecordBreaks q 3
  tgl2 : 14 < q.tgl2 → RecordBreaks q 4
  tgpl : Outside 1 144 q.tgpl → RecordBreaks q 5
  tgprc : 511 < q.tgprc → RecordBreaks q 6
  tgd : 1 ≤ q.tgl2 → Outside 15 269 q.tgd → RecordBreaks q 8
  no_tgd : q.tgl2 ≡ 0 → 0 < q.tgd → RecordBreaks q 8

-- "a gap that does not fit"
pub data Unfit (q : Sequence) : Type 0 where
  first : 15 * q.tgpl < q.tgsn + q.tgl1 → Unfit q
  second : 1 ≤ q.tgl2 → 15 * q.tgpl < q.tgsn + q.tgd + q.tgl2 → Unfit q

-- "a record's number breaks its rule, in byte order; a gap that does not fit, last, at its byte 5"
pub data FaultAt (q : Sequence) : ℕ → Type 0 where
  number : {n : ℕ} → RecordBreaks q n → ((m : ℕ) → RecordBreaks q m → n ≤ m) → FaultAt q n
  unfit : ((m : ℕ) → RecordBreaks q m → ⊥) → Unfit q → FaultAt q 5

-- the first k records: each sound, and none with "an id that an earlier record has"
pub record RecordsFine (s : List ℕ) (k : ℕ) : Type 0 where
  pub each : (i : ℕ) → i < k → Sound (record_of s i)
  pub apart : (j i : ℕ) → j < i → i < k → (record_of s j).id ≡ (record_of s i).id → ⊥

-- "Gap records (12 bytes, 0 to 6 of them)": the list is taken whole
pub record Taken (s : List ℕ) (n : ℕ) : Type 0 where
  pub all : n ≡ count_of s
  pub few : n ≤ records_most
  pub fine : RecordsFine s n

-- "4 | more than 6 gap records | their count"
pub record RecordsTooMany (s : List ℕ) (r : Refusal) : Type 0 where
  pub number : r.number ≡ too_many_records
  pub many : records_most < count_of s
  pub place : r.place ≡ count_of s

-- "5 | a record's number breaks its rule … | offset in body 2": the records before it are fine
pub record RecordBroken (s : List ℕ) (r : Refusal) : Type 0 where
  pub number : r.number ≡ wrong_record
  pub few : count_of s ≤ records_most
  pub which : ℕ
  pub among : which < count_of s
  pub before : RecordsFine s which
  pub at_byte : ℕ
  pub broken : FaultAt (record_of s which) at_byte
  pub place : r.place ≡ record_bytes * which + at_byte

-- "6 | an id that an earlier record has; each record is tested for 5, then 6 | record, from 0"
pub record Repeated (s : List ℕ) (r : Refusal) : Type 0 where
  pub number : r.number ≡ repeated_id
  pub few : count_of s ≤ records_most
  pub which : ℕ
  pub among : which < count_of s
  pub before : RecordsFine s which
  pub sound : Sound (record_of s which)
  pub earlier : ℕ
  pub less : earlier < which
  pub same : (record_of s earlier).id ≡ (record_of s which).id
  pub place : r.place ≡ which

-- ---- the answer, case by case

-- the page's number and place of each case: a refusal, and none where every record is good
abbrev pub refusal_of : Result ℕ Refusal → Refusal
refusal_of (Ok n) = no_refusal
refusal_of (Err r) = r

-- what each case says of the part: how many records it has, all of them fine, or 4, 5 or 6 with its place
abbrev pub RecordsSay : List ℕ → Result ℕ Refusal → Type 0
RecordsSay s (Ok n) = Taken s n
RecordsSay s (Err r) = RecordsTooMany s r ⊎ RecordBroken s r ⊎ Repeated s r

-- what a check promises: its answer, what this says, and its number on the page: none, 4, 5 or 6
pub record CheckTold (s : List ℕ) (answer : Result ℕ Refusal) : Type 0 where
  pub is : answer ≡ checked_of s
  pub says : RecordsSay s answer
  pub number : ((refusal_of answer).number ≡ 0) ⊎
      ((too_many_records ≤ (refusal_of answer).number) × ((refusal_of answer).number ≤ repeated_id))
