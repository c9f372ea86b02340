use Rattle.std.proofs.Common.{◌≡◌}
use Rattle.gap_records.specs.Records.{sequences_from}
use Rattle.gap_slots.specs.Slots.{slot_by}
use Rattle.gap_slots.proofs.slot_at.Given as goal

abbrev pub invariant-loop-k : goal.invariant-loop-k
invariant-loop-k l = l.found ≡ slot_by (sequences_from l.records l.k 0) l.slot
