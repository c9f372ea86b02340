-- "Gaps and runs", first paragraph, and "which ids … put it there": what a slot is by a part of gap records.
-- RULES: gaps
-- Definitions, to be believed.
use Rattle.std.specs.Prelude.{ℕ, ◌+◌, ◌-◌, ◌*◌, ◌/◌, ◌%◌, ◌≤◌, ◌<◌, ◌≡◌, ◌⊎◌, List, Bool, true, ◌&&◌, ◌||◌, ltb, leb, eqb, length, Some, None, Option}
use Rattle.ground.specs.Choice.{when◌then◌else◌}
use Rattle.ground.specs.Sums.{sum_of}
use Rattle.constants.specs.Sizes.{record_bytes, id_most}
use Rattle.gap_records.specs.declared.Sequence.{Sequence}
use Rattle.gap_records.specs.Records.{record_of, sequences_from, count_of, some}
use Rattle.gap_slots.specs.declared.Slot.{Slot}

-- from ≤ place < from + size
unfoldable pub lies : (from size place : ℕ) → Bool
lies from size place = leb from place && ltb place (from + size)

-- "For a sequence, r = slot − 15·start frame. It is active if r ≥ 0 and TGPRC is 0 or r div (15·TGPL) < TGPRC."
-- A pattern of no frames, which no accepted record has, is never active.
-- DECISIONS: gaps-any-bytes
unfoldable pub active : Sequence → ℕ → Bool
active sequence slot =
    let r = slot - 15 * sequence.start in
    leb (15 * sequence.start) slot &&
    (leb 1 (15 * sequence.tgpl) && (ltb sequence.tgprc 1 || ltb (r / (15 * sequence.tgpl)) sequence.tgprc))

-- "the slot is in a gap if TGSN ≤ q < TGSN + TGL1, or TGL2 > 0 and TGSN + TGD ≤ q < TGSN + TGD + TGL2"
unfoldable pub in_pattern : (tgsn tgl1 tgl2 tgd : ℕ) → ℕ → Bool
in_pattern tgsn tgl1 tgl2 tgd q = lies tgsn tgl1 q || (ltb 0 tgl2 && lies (tgsn + tgd) tgl2 q)

-- "With q = r mod (15·TGPL)"
-- DECISIONS: gaps-any-bytes
abbrev pub pattern_place : Sequence → ℕ → ℕ
pattern_place sequence slot = (slot - 15 * sequence.start) % (15 * sequence.tgpl)

unfoldable pub in_gap : Sequence → ℕ → Bool
in_gap sequence slot =
    active sequence slot &&
    in_pattern sequence.tgsn sequence.tgl1 sequence.tgl2 sequence.tgd (pattern_place sequence slot)

-- the same two questions as one answer, which the code gives: q, where the sequence is active
unfoldable pub standing : Sequence → ℕ → Option ℕ
standing sequence slot = when active sequence slot then Some (pattern_place sequence slot) else None

-- "direction, 1 uplink, 2 downlink, 3 both"
-- DECISIONS: gaps-any-bytes
unfoldable pub uplink : Sequence → Bool
uplink sequence = eqb sequence.direction 1 || eqb sequence.direction 3

unfoldable pub downlink : Sequence → Bool
downlink sequence = eqb sequence.direction 2 || eqb sequence.direction 3

-- whether a sequence makes a slot a gap slot of a direction
abbrev pub makes : (Sequence → Bool) → ℕ → Sequence → Bool
makes direction slot sequence = direction sequence && in_gap sequence slot

-- and whether some sequence with this id does
abbrev pub makes_by : (Sequence → Bool) → List Sequence → (slot id : ℕ) → Bool
makes_by direction qs slot id = some (λ (q : Sequence). eqb q.id id && makes direction slot q) qs

-- "which ids, as a set over 1 to 6, put it there, for each direction"; "the uplink and downlink sets as sums of
-- 2^(id−1)". An id outside 1 to 6, which no accepted record has, is in no set
-- DECISIONS: gaps-any-bytes, gaps-id-once
abbrev pub ids_by : (Sequence → Bool) → List Sequence → (slot : ℕ) → ℕ
ids_by direction qs slot = sum_of (makes_by direction qs slot) id_most

unfoldable pub slot_by : List Sequence → ℕ → Slot
slot_by qs slot = record { up = ids_by uplink qs slot; down = ids_by downlink qs slot }

-- "A slot is an uplink or downlink gap slot if any active sequence makes it so": its set is not empty. Other crates ask
-- in this way alone whether it is one
-- DECISIONS: gaps-set-tells
unfoldable pub opens_uplink : Slot → Bool
opens_uplink slot = ltb 0 slot.up

unfoldable pub opens_downlink : Slot → Bool
opens_downlink slot = ltb 0 slot.down

-- "a gap slot in some direction"
-- DECISIONS: gaps-runs-merge
abbrev pub gap_slot : Slot → Bool
gap_slot slot = opens_uplink slot || opens_downlink slot

-- by every record of a part. Shut to other crates: they use its laws
unfoldable pub slot_at : List ℕ → ℕ → Slot
slot_at s slot = slot_by (sequences_from s (count_of s) 0) slot

-- ---- the same without a division and without a loop

-- a slot at a place of the pattern of an active sequence, which is counted from 0: "r = slot − 15·start frame", "q = r
-- mod (15·TGPL)"
pub record ActiveAt (sequence : Sequence) (slot place : ℕ) : Type 0 where
  pub pattern : ℕ
  pub stands : slot ≡ 15 * sequence.start + pattern * (15 * sequence.tgpl) + place
  pub inside : place < 15 * sequence.tgpl
  pub before_end : (sequence.tgprc ≡ 0) ⊎ (pattern < sequence.tgprc)

-- what each case says of a slot: its place in the pattern, or that the sequence is not active there
abbrev pub PlaceSays : Sequence → ℕ → Option ℕ → Type 0
PlaceSays sequence slot (Some place) = ActiveAt sequence slot place
PlaceSays sequence slot None = (place : ℕ) → ActiveAt sequence slot place → ⊥

-- what is promised of a slot's place: the answer, and what this says
pub record PlaceTold (sequence : Sequence) (slot : ℕ) (answer : Option ℕ) : Type 0 where
  pub is : answer ≡ standing sequence slot
  pub says : PlaceSays sequence slot answer

-- a slot in a gap of a sequence: its pattern, counted from 0, and its place there
pub record InGap (sequence : Sequence) (slot : ℕ) : Type 0 where
  pub pattern : ℕ
  pub place : ℕ
  pub stands : slot ≡ 15 * sequence.start + pattern * (15 * sequence.tgpl) + place
  pub inside : place < 15 * sequence.tgpl
  pub before_end : (sequence.tgprc ≡ 0) ⊎ (pattern < sequence.tgprc)
  pub gap : ((sequence.tgsn ≤ place) × (place < sequence.tgsn + sequence.tgl1))
      ⊎ ((0 < sequence.tgl2) × (sequence.tgsn + sequence.tgd ≤ place) ×
      (place < sequence.tgsn + sequence.tgd + sequence.tgl2))

-- an id puts a slot into a gap: some record that lies in the part whole has it, and makes it so
pub record MakesBy (direction : Sequence → Bool) (s : List ℕ) (slot id : ℕ) : Type 0 where
  pub which : ℕ
  pub whole : record_bytes * which + record_bytes ≤ length s
  pub named : (record_of s which).id ≡ id
  pub direct : direction (record_of s which) ≡ true
  pub gap : InGap (record_of s which) slot

-- "any active sequence makes it so": one of an id from 1 to 6
pub record Makes (direction : Sequence → Bool) (s : List ℕ) (slot : ℕ) : Type 0 where
  pub id : ℕ
  pub least : 1 ≤ id
  pub most : id ≤ id_most
  pub by : MakesBy direction s slot id

-- a slot that no sequence opens
abbrev pub no_gap : Slot
no_gap = record { up = 0; down = 0 }
