-- What the private functions promise: the code goes from record to record.
-- Definitions beside the rules, which need not be believed.
use Rattle.std.specs.Prelude.{ℕ, ◌-◌, ◌^◌, Bool, false, ltb, Option, Some, None}
use Rattle.std.specs.Int.Bits.{bit_or}
use Rattle.ground.specs.Choice.{when◌then◌else◌}
use Rattle.constants.specs.Sizes.{id_most}
use Rattle.gap_records.specs.declared.Sequence.{Sequence}
use Rattle.gap_slots.specs.declared.Slot.{Slot}
use Rattle.gap_slots.specs.Slots.{in_pattern, in_gap, uplink, downlink}

-- whether a place of a sequence's pattern lies in one of its gaps
abbrev pub gap_at : Sequence → Option ℕ → Bool
gap_at sequence (Some place) = in_pattern sequence.tgsn sequence.tgl1 sequence.tgl2 sequence.tgd place
gap_at sequence None = false

-- what an id adds to a set: 2^(id − 1), and nothing where it is none of 1 to 6
unfoldable pub id_bit : ℕ → ℕ
id_bit id = when ltb id 1 then 0 else when ltb id_most id then 0 else 2 ^ (id - 1)

-- a number, where it is chosen
abbrev pub chosen_of : Bool → ℕ → ℕ
chosen_of made own = when made then own else 0

-- what one record makes of a slot
unfoldable pub slot_by_record : Sequence → ℕ → Slot
slot_by_record q slot =
    let own = chosen_of (in_gap q slot) (id_bit q.id) in
    record { up = chosen_of (uplink q) own; down = chosen_of (downlink q) own }

-- and what two make of it between them
unfoldable pub joined_slots : Slot → Slot → Slot
joined_slots a b = record { up = bit_or a.up b.up; down = bit_or a.down b.down }
