-- `place_at` meets its contract: the rule's chain of tests is the code's.
use Rattle.ground.proofs.Laws.Choice.{tests}
use Rattle.gap_slots.specs.Slots.{standing, active}
use Rattle.gap_slots.proofs.Laws.Slots.{place_told}
use Rattle.gap_slots.proofs.place_at.Goals as goal

pub returns : goal.returns
unfolding standing active
returns c = place_told _ _ (search tests)
