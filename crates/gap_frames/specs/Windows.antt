-- The slot rule read ahead, a frame of 15 slots at a time: which of them are in a gap of some record, and which ids put
-- each of them there. Three bits stand for each slot, that of the frame's first slot in the lowest.
-- RULES: gaps
-- Definitions, to be believed.
use Rattle.std.specs.Prelude.{ℕ, ◌+◌, ◌-◌, ◌*◌, ◌/◌, ◌%◌, ◌^◌, List, Bool, eqb}
use Rattle.ground.specs.Choice.{when◌then◌else◌}
use Rattle.ground.specs.Bits.{packed}
use Rattle.ground.specs.Sums.{is_in}
use Rattle.gap_records.specs.declared.Sequence.{Sequence}
use Rattle.gap_records.specs.Records.{sequences_from, count_of, some}
use Rattle.gap_slots.specs.Slots.{in_gap, no_gap, slot_at}
use Rattle.gap_frames.specs.declared.Lanes.{Lanes}
use Rattle.gap_frames.specs.declared.Window.{Window}
use Rattle.gap_frames.specs.declared.Taken.{Taken}

-- ---- a frame

-- whether a slot is in a gap of some record, of whatever direction and id: where it is in none, both sets are empty
unfoldable pub any_gap : List ℕ → ℕ → Bool
any_gap s slot = some (λ (q : Sequence). in_gap q slot) (sequences_from s (count_of s) 0)

-- the sets of a frame's slots: a bit for each of three ids and each slot, ids 1 to 3 in the low lane and 4 to 6 in the
-- high one
abbrev pub lane_of : (sets : ℕ → ℕ) → (first least : ℕ) → ℕ
lane_of sets first least = packed (λ t. is_in (sets (first + t / 3)) (t % 3 + least)) 45

abbrev pub lanes_of : (sets : ℕ → ℕ) → (first : ℕ) → Lanes
lanes_of sets first = record { low = lane_of sets first 1; high = lane_of sets first 4 }

-- each slot's set for a direction, by the slot rule
abbrev pub uplink_sets : List ℕ → (slot : ℕ) → ℕ
uplink_sets s slot = (slot_at s slot).up

abbrev pub downlink_sets : List ℕ → (slot : ℕ) → ℕ
downlink_sets s slot = (slot_at s slot).down

-- the set at a place of a frame, from 0
unfoldable pub ids_at : Lanes → (place : ℕ) → ℕ
ids_at l place = l.low / 2 ^ (3 * place) % 8 + 8 * (l.high / 2 ^ (3 * place) % 8)

-- ---- a window

-- the window at a slot: the rest of its frame, and the ids of the whole frame
unfoldable pub window_at : List ℕ → ℕ → Window
window_at s slot = record {
  left = 15 - slot % 15;
  gaps = packed (λ t. any_gap s (slot + t / 3)) (45 - 3 * (slot % 15));
  up = lanes_of (uplink_sets s) (15 * (slot / 15));
  down = lanes_of (downlink_sets s) (15 * (slot / 15));
}

-- a window's next slot, and the window after it
unfoldable pub lowest_of : Window → Taken
lowest_of w = record {
  slot =
      when eqb (w.gaps % 2) 1 then
      record { up = ids_at w.up (15 - w.left); down = ids_at w.down (15 - w.left) } else
      no_gap;
  rest = record { left = w.left - 1; gaps = w.gaps / 8; up = w.up; down = w.down };
}

-- what a slot is by the window, or where none is left of it by the window at the slot; and the window after it
unfoldable pub taken_of : List ℕ → Window → ℕ → Taken
taken_of s w slot = when eqb w.left 0 then lowest_of (window_at s slot) else lowest_of w
