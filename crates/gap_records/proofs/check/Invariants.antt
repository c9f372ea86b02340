use Rattle.std.proofs.Common.{◌≡◌, ◌-◌, Ok}
use Rattle.gap_records.specs.Records.{checked_from}
use Rattle.gap_records.proofs.check.Given as goal

abbrev pub invariant-loop-k : goal.invariant-loop-k
invariant-loop-k l = checked_from (Ok l.n) l.records l.n 0 ≡ checked_from (Ok l.n) l.records (l.n - l.k) l.k
