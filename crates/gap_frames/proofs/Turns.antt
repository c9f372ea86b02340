-- What the loop over the records meets at each turn: one record more of a frame, and at its end the window at a slot.
-- Assumes nothing.
use Prim.Native.Nat.{ℕ, ◌+◌, ◌-◌, ◌*◌, ◌/◌, ◌%◌, ◌^◌, ◌≤◌, ◌<◌}
use mathlib.Core.Path.{◌≡◌, refl, sym, ap, ap₂, ◌∙◌}
use mathlib.Core.List.{List}
use mathlib.Core.Bool.{Bool, true, false, ◌&&◌, ◌||◌, and-false, or-false}
use native.Mathlib.Nat.{zero-add}
use native.Mathlib.Numerals.{add-one}
use native.Mathlib.Omega.{arith}
use lib.Bits.{bit_and, bit_or, and_zero_r, or_zero_r}
use lib.Dec.{eqb}
use Rattle.ground.specs.Bits.{packed}
use Rattle.ground.proofs.Laws.Bits.{packed_same, packed_none, packed_or, packed_and, packed_shift}
use Rattle.gap_records.specs.declared.Sequence.{Sequence}
use Rattle.gap_records.specs.Records.{record_of, record_at, sequences_from, count_of, some}
use Rattle.gap_records.proofs.Laws.Records.{record_there, some_last}
use Rattle.ground.specs.Sums.{is_in}
use Rattle.ground.proofs.Laws.Sums.{in_sum}
use Rattle.constants.specs.Sizes.{id_most}
use Rattle.gap_slots.specs.declared.Slot.{Slot}
use Rattle.gap_slots.specs.Slots.{in_gap, uplink, downlink, makes, makes_by, ids_by, slot_by}
use Rattle.gap_slots.proofs.Laws.Slots.{slot_by_lem}
use Rattle.gap_frames.specs.declared.Lanes.{Lanes}
use Rattle.gap_frames.specs.declared.Frame.{Frame}
use Rattle.gap_frames.specs.Windows.{any_gap, lane_of, lanes_of, uplink_sets, downlink_sets, window_at}
use Rattle.gap_frames.specs.Asks.{gap_bits, mask_of, lanes_with, with_gaps}
use Rattle.gap_frames.proofs.Spans.{gaps_are}

-- ---- the gaps of the first k records

-- the ids of these, three of them in a lane
abbrev lane_by : (Sequence → Bool) → List Sequence → (first least : ℕ) → ℕ
lane_by direction qs first least = packed (λ t. makes_by direction qs (first + t / 3) (t % 3 + least)) 45

abbrev pub lanes_by : (Sequence → Bool) → List Sequence → (first : ℕ) → Lanes
lanes_by direction qs first = record { low = lane_by direction qs first 1; high = lane_by direction qs first 4 }

unfoldable pub bits_of : List ℕ → ℕ → ℕ → ℕ
bits_of s k number = packed (λ t. some (λ (q : Sequence). in_gap q (15 * number + t / 3)) (sequences_from s k 0)) 45

abbrev pub frame_of : List ℕ → ℕ → ℕ → Frame
frame_of s k number = record {
  gaps = bits_of s k number;
  up = lanes_by uplink (sequences_from s k 0) (15 * number);
  down = lanes_by downlink (sequences_from s k 0) (15 * number);
}

-- before the first
no_bits : packed (λ t. false) 45 ≡ 0
no_bits = packed_none (λ t. false) 45 (λ t _. refl)

pub no_record : (s : List ℕ) (number : ℕ) →
    record { gaps = 0; up = record { low = 0; high = 0 }; down = record { low = 0; high = 0 } } ≡ frame_of s 0 number
unfolding bits_of some sequences_from
no_record s number = rw no_bits

-- ---- a record more

one_gaps : (s : List ℕ) (k number : ℕ) → bit_or (bits_of s k number) (gap_bits (record_of s k) (15 * number)) ≡ bits_of s (k + 1) number
unfolding bits_of
one_gaps s k number =
    rw (gaps_are (record_of s k) number)
    (packed_or _ _ 45
    ∙ packed_same _ _ 45 (λ t _. rw (add-one k, ← (some_last (λ (q : Sequence). in_gap q (15 * number + t / 3)) s k 0), zero-add k)))

module _ (direction : Sequence → Bool) (s : List ℕ) (k number : ℕ) where
  abbrev q : Sequence
  q = record_of s k

  -- the lane of a record, whose direction it is, joins that of those before it
  one_lane : (least : ℕ) → direction q ≡ true →
      bit_or (lane_by direction (sequences_from s k 0) (15 * number) least) (bit_and (packed (λ t. eqb q.id (t % 3 + least)) 45) (gap_bits q (15 * number))) ≡
      lane_by direction (sequences_from s (k + 1) 0) (15 * number) least
  one_lane least e =
      rw (gaps_are q number, packed_and (λ t. eqb q.id (t % 3 + least)) (λ t. in_gap q (15 * number + t / 3)) 45)
      (packed_or _ _ 45 ∙ packed_same _ _ 45 (λ t _. turn t))
    where
      turn : (t : ℕ) →
          (some (λ (r : Sequence). eqb r.id (t % 3 + least) && makes direction (15 * number + t / 3) r) (sequences_from s k 0) ||
          (eqb q.id (t % 3 + least) && in_gap q (15 * number + t / 3))) ≡
          some (λ (r : Sequence). eqb r.id (t % 3 + least) && makes direction (15 * number + t / 3) r) (sequences_from s (k + 1) 0)
      turn t =
          rw (add-one k, ← (some_last (λ (r : Sequence). eqb r.id (t % 3 + least) && makes direction (15 * number + t / 3) r) s k 0), zero-add k, e)

  -- and one of another direction adds nothing
  same_lane : (least : ℕ) → direction q ≡ false →
      lane_by direction (sequences_from s k 0) (15 * number) least ≡ lane_by direction (sequences_from s (k + 1) 0) (15 * number) least
  same_lane least e =
      packed_same _ _ 45 (λ t _.
      rw (
        add-one k,
        ← (some_last (λ (r : Sequence). eqb r.id (t % 3 + least) && makes direction (15 * number + t / 3) r) s k 0),
        zero-add k,
        e,
        and-false,
        or-false,
      ))

  one_lanes : lanes_with (lanes_by direction (sequences_from s k 0) (15 * number)) (direction q) (mask_of q.id) (gap_bits q (15 * number)) ≡
      lanes_by direction (sequences_from s (k + 1) 0) (15 * number)
  unfolding lanes_with mask_of
  one_lanes = by (direction q) refl
    where
      by : (t : Bool) → direction q ≡ t →
          lanes_with (lanes_by direction (sequences_from s k 0) (15 * number)) t (mask_of q.id) (gap_bits q (15 * number)) ≡
          lanes_by direction (sequences_from s (k + 1) 0) (15 * number)
      by true e = rw (one_lane 1 e, one_lane 4 e)
      by false e = rw (same_lane 1 e, same_lane 4 e)

one_record : (s : List ℕ) (k number : ℕ) → with_gaps (frame_of s k number) (record_of s k) (15 * number) ≡ frame_of s (k + 1) number
unfolding with_gaps
one_record s k number = rw (one_gaps s k number, one_lanes uplink s k number, one_lanes downlink s k number)

-- one that has no gap in the frame puts nothing down
without_lanes : (l own : Lanes) (direct : Bool) → lanes_with l direct own 0 ≡ l
unfolding lanes_with
without_lanes l own true = rw (and_zero_r own.low, and_zero_r own.high, or_zero_r l.low, or_zero_r l.high)
without_lanes l own false = refl

pub without_gaps : (f : Frame) (q : Sequence) (first : ℕ) → gap_bits q first ≡ 0 → with_gaps f q first ≡ f
unfolding with_gaps
without_gaps f q first e =
    rw (e, or_zero_r f.gaps, without_lanes f.up (mask_of q.id) (uplink q), without_lanes f.down (mask_of q.id) (downlink q))

-- the loop's next frame
pub next_frame : (s : List ℕ) (k number : ℕ) {f next : Frame} {q : Sequence} →
    k < count_of s → f ≡ frame_of s k number → q ≡ record_at s k → next ≡ with_gaps f q (15 * number) → next ≡ frame_of s (k + 1) number
next_frame s k number h e r g = g ∙ rw (e, r, record_there s k h) (one_record s k number)

-- ---- after the last: the slot's frame from the slot on

-- the lanes of all records are those of the slots' sets
module _ (s : List ℕ) (first : ℕ) where
  abbrev all : List Sequence
  all = sequences_from s (count_of s) 0

  -- of a direction whose sets the slot rule tells
  whole_lane : (direction : Sequence → Bool) (sets : ℕ → ℕ) → ((slot : ℕ) → sets slot ≡ ids_by direction all slot) →
      (least : ℕ) → 1 ≤ least → least ≤ 4 → lane_by direction all first least ≡ lane_of sets first least
  whole_lane direction sets e least h l =
      packed_same _ _ 45 (λ t _.
      sym (ap (λ (n : ℕ). is_in n (t % 3 + least)) (e (first + t / 3)) ∙
      in_sum (makes_by direction all (first + t / 3)) id_most (t % 3 + least) (omega arith) (omega arith)))

  whole_lanes : (direction : Sequence → Bool) (sets : ℕ → ℕ) → ((slot : ℕ) → sets slot ≡ ids_by direction all slot) →
      lanes_by direction all first ≡ lanes_of sets first
  whole_lanes direction sets e =
      ap₂ (λ (l h : ℕ). record { low = l; high = h }) (whole_lane direction sets e 1 (omega arith) (omega arith))
      (whole_lane direction sets e 4 (omega arith) (omega arith))

  up_lanes : lanes_by uplink all first ≡ lanes_of (uplink_sets s) first
  unfolding slot_by
  up_lanes = whole_lanes uplink (uplink_sets s) (λ slot. ap (λ (x : Slot). x.up) (slot_by_lem s slot))

  down_lanes : lanes_by downlink all first ≡ lanes_of (downlink_sets s) first
  unfolding slot_by
  down_lanes = whole_lanes downlink (downlink_sets s) (λ slot. ap (λ (x : Slot). x.down) (slot_by_lem s slot))

pub window_is : (s : List ℕ) (slot k : ℕ) {f : Frame} → k ≤ count_of s → count_of s ≤ k → f ≡ frame_of s k (slot / 15) →
    record { left = 15 - slot % 15; gaps = f.gaps / 2 ^ (3 * (slot % 15)); up = f.up; down = f.down } ≡ window_at s slot
unfolding window_at bits_of any_gap
window_is s slot k h l e =
    let all : k ≡ count_of s = omega arith in
    let first = 15 * (slot / 15) in
    let here : (t : ℕ) → first + (3 * (slot % 15) + t) / 3 ≡ slot + t / 3 = λ t. omega arith in
    rw (e, all, up_lanes s first, down_lanes s first)
    (ap (λ (n : ℕ). record { left = 15 - slot % 15; gaps = n; up = lanes_of (uplink_sets s) first; down = lanes_of (downlink_sets s) first })
    (packed_shift _ 45 (3 * (slot % 15)) ∙ packed_same _ _ (45 - 3 * (slot % 15)) (λ t _. rw (here t))))
