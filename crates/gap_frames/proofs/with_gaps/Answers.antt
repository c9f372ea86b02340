-- `with_gaps` meets its contract: where a sequence has no gap in the frame, nothing is put down.
use Rattle.std.proofs.Common.{◌∙◌, sym}
use Rattle.gap_frames.proofs.Turns.{without_gaps}
use Rattle.gap_frames.proofs.with_gaps.Goals as goal

pub returns-then-gaps-eq0 : goal.returns-then-gaps-eq0
returns-then-gaps-eq0 c = sym (without_gaps _ _ _ (sym c.gaps_in-gaps.ensures ∙ c.if-gaps-eq0.true))
