-- "On both sides of each edge": the cases of gap slots, computed from the rules.
-- Assumes nothing.
-- RULES: cases
use Rattle.std.specs.Prelude.{◌≡◌, refl, ℕ, [], ◌∷◌, ◌++◌, map}
use Rattle.ground.specs.Sums.{sum_of}
use Rattle.gap_records.specs.Records.{sequence_at, sequences_from, some}
use Rattle.gap_records.proofs.Laws.Records.Examples.{one_gap}
use Rattle.gap_slots.specs.declared.Slot.{Slot}
use Rattle.gap_slots.specs.Slots.{lies, active, in_pattern, in_gap, uplink, downlink, no_gap, slot_by, slot_at}

-- a gap slot in both directions
both : Slot
both = record { up = 1; down = 1 }

-- TGSN 2, TGL1 2, a second gap of one slot 15 slots on, in two patterns of two frames from frame 1 on,
-- both directions: the last slot of each gap and the first after it, and the pattern after the end
twice :
    map (slot_at (1 ∷ 3 ∷ 2 ∷ 2 ∷ 1 ∷ 2 ∷ 2 ∷ 0 ∷ 15 ∷ 0 ∷ 1 ∷ 0 ∷ [])) (16 ∷ 18 ∷ 19 ∷ 32 ∷ 33 ∷ 47 ∷ 62 ∷ 77 ∷ []) ≡
    no_gap ∷ both ∷ no_gap ∷ both ∷ no_gap ∷ both ∷ both ∷ no_gap ∷ []
unfolding both sequence_at sequences_from some lies active in_pattern in_gap uplink downlink slot_by slot_at sum_of
twice = refl

-- a slot by its two sets
abbrev by : (up down : ℕ) → Slot
by up down = record { up = up; down = down }

-- uplink gaps of id 5 in slots 7 to 9, and of id 2, which comes after it in the list, for both directions in slot 8: the
-- sets have ids, 2^4 and 2^1, and not places in the list
named :
    map (slot_at (one_gap 5 1 7 3 1 ++ one_gap 2 3 8 1 1)) (6 ∷ 7 ∷ 8 ∷ 9 ∷ 10 ∷ []) ≡
    no_gap ∷ by 16 0 ∷ by 18 2 ∷ by 16 0 ∷ no_gap ∷ []
unfolding one_gap sequence_at sequences_from some lies active in_pattern in_gap uplink downlink slot_by slot_at sum_of
named = refl

-- six records, the sixth for downlink alone, in one slot; ids 0 and 7 and directions 0 and 4 open no gap; an id that
-- two records have is in a set once
sixth_and_none :
    slot_at (one_gap 6 1 7 1 1 ++ one_gap 5 1 7 1 1 ++ one_gap 4 1 7 1 1 ++ one_gap 3 1 7 1 1 ++ one_gap 2 1 7 1 1 ++
    one_gap 1 2 7 1 1) 7 ∷
    slot_at (one_gap 0 3 7 1 1 ++ one_gap 7 3 7 1 1 ++ one_gap 1 0 7 1 1 ++ one_gap 1 4 7 1 1) 7 ∷
    slot_at (one_gap 3 1 7 1 1 ++ one_gap 3 1 7 1 1) 7 ∷ [] ≡
    by 62 1 ∷ no_gap ∷ by 4 0 ∷ []
unfolding one_gap sequence_at sequences_from some lies active in_pattern in_gap uplink downlink slot_by slot_at sum_of
sixth_and_none = refl
