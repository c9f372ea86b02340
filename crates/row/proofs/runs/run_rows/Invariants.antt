-- Each turn goes on with the rows that are left, and the slots read ahead tell those from its row on.
use Rattle.gap_slots.specs.Slots.{slot_at}
use Rattle.gap_frames.specs.Kept.{Kept}
use Rattle.row.proofs.Turns.{Turn}
use Rattle.row.proofs.runs.run_rows.Given as goal

abbrev pub invariant-loop-k : goal.invariant-loop-k
invariant-loop-k l = Turn l.s l.g (slot_at l.records) l.rows l.fn.out l.fn.start l.out l.st l.k × Kept l.records l.st.row l.w
