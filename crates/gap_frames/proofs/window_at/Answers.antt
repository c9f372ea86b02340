-- `window_at` meets its contract: every record counts.
use Rattle.gap_frames.proofs.Turns.{no_record, next_frame, window_is}
use Rattle.gap_frames.proofs.window_at.Goals as goal

pub loop-k-init : goal.loop-k-init
loop-k-init c = no_record _ _

pub loop-k-preserved : goal.loop-k-preserved
loop-k-preserved c = next_frame _ _ _ c.loop-k-test.true c.loop-k.invariant c.record_at.ensures c.with_gaps-f.ensures

pub returns : goal.returns
returns c = window_is _ _ _ c.loop-k.auto.k-end c.loop-k-test.false c.loop-k.invariant
