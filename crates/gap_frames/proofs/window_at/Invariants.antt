use Rattle.std.proofs.Common.{◌≡◌, ◌/◌}
use Rattle.gap_frames.proofs.Turns.{frame_of}
use Rattle.gap_frames.proofs.window_at.Given as goal

abbrev pub invariant-loop-k : goal.invariant-loop-k
invariant-loop-k l = l.f ≡ frame_of l.records l.k (l.slot / 15)
