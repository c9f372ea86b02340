use Rattle.std.proofs.Common.{◌≡◌, ◌-◌}
use Rattle.gap_records.specs.Records.{sequences_from, has_id}
use Rattle.gap_records.proofs.has_id.Given as goal

abbrev pub invariant-loop-j : goal.invariant-loop-j
invariant-loop-j l = has_id l.id (sequences_from l.records l.k 0) ≡ has_id l.id (sequences_from l.records (l.k - l.j) l.j)
