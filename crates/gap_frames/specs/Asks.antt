-- What the private functions promise: the code goes from record to record, each asked for a whole frame. Bits are
-- those of windows, three for each slot.
-- Definitions beside the rules, which need not be believed.
use Rattle.std.specs.Prelude.{ℕ, ◌+◌, ◌/◌, ◌%◌, Bool, eqb, Option, Some, None}
use Rattle.std.specs.Int.Bits.{bit_and, bit_or}
use Rattle.ground.specs.Choice.{when◌then◌else◌}
use Rattle.ground.specs.Bits.{packed}
use Rattle.gap_records.specs.declared.Sequence.{Sequence}
use Rattle.gap_slots.specs.Slots.{lies, standing, uplink, downlink}
use Rattle.gap_frames.specs.declared.Lanes.{Lanes}
use Rattle.gap_frames.specs.declared.Frame.{Frame}

-- the slots of a gap in the frame from a place of the pattern on
unfoldable pub span_bits : (begin size from : ℕ) → ℕ
span_bits begin size from = packed (λ t. lies begin size (from + t / 3)) 45

-- those of both gaps
unfoldable pub pattern_bits : (tgsn tgl1 tgl2 tgd from : ℕ) → ℕ
pattern_bits tgsn tgl1 tgl2 tgd from = bit_or (span_bits tgsn tgl1 from) (span_bits (tgsn + tgd) tgl2 from)

-- those of a frame whose first slot stands here in the pattern of a sequence
abbrev pub bits_at : Sequence → Option ℕ → ℕ
bits_at q (Some from) = pattern_bits q.tgsn q.tgl1 q.tgl2 q.tgd from
bits_at q None = 0

-- the slots of the frame from its first on that are in a gap of a sequence:
-- patterns are whole frames, so that where the first stands tells of all
unfoldable pub gap_bits : Sequence → ℕ → ℕ
gap_bits q first = bits_at q (standing q first)

-- the bits of an id, one in each slot of a frame
unfoldable pub mask_of : ℕ → Lanes
mask_of id = record { low = packed (λ t. eqb id (t % 3 + 1)) 45; high = packed (λ t. eqb id (t % 3 + 4)) 45 }

-- lanes with the bits of an id, where a direction is the sequence's, in the slots of its gaps
unfoldable pub lanes_with : Lanes → (direct : Bool) → (own : Lanes) → (gaps : ℕ) → Lanes
lanes_with l direct own gaps =
    when direct then
    record { low = bit_or l.low (bit_and own.low gaps); high = bit_or l.high (bit_and own.high gaps) } else
    l

-- a frame with the gaps of one sequence more
unfoldable pub with_gaps : Frame → Sequence → ℕ → Frame
with_gaps f q first = record {
  gaps = bit_or f.gaps (gap_bits q first);
  up = lanes_with f.up (uplink q) (mask_of q.id) (gap_bits q first);
  down = lanes_with f.down (downlink q) (mask_of q.id) (gap_bits q first);
}
