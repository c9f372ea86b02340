-- `in_gap` meets its contract: a slot is in a gap where it stands in one.
use Rattle.std.proofs.Common.{rules}
use Rattle.gap_slots.proofs.Turns.{gap_standing}
use Rattle.gap_slots.proofs.in_gap.Goals as goal

pub returns : goal.returns
returns c = rw (gap_standing _ _ c.place_at.ensures.is) (search rules)
